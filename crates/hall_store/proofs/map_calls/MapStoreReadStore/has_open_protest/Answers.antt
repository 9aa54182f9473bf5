use Rattle.hall_store.proofs.ProtestWorlds.{open_kept}
use Rattle.hall_store.proofs.map_calls.MapStoreReadStore.has_open_protest.Goals as goal

pub returns-clause-served : goal.returns-clause-served
returns-clause-served c =
    let kept = open_kept c.args.self.now c.has_open.ensures.ordered c.args.round.now in
    λ _. (tt, ((λ yes. kept.0 (c.has_open.ensures.open.0 yes)), (λ h. c.has_open.ensures.open.1 (kept.1 h))))
