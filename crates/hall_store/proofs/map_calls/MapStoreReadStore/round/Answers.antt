use Rattle.hall_store.proofs.MapWorlds.{round_kept}
use Rattle.hall_store.proofs.map_calls.MapStoreReadStore.round.Goals as goal

pub returns-clause-served : goal.returns-clause-served
returns-clause-served c =
    let read = c.in_ok-round_at.ensures in
    λ _. (tt, round_kept c.args.self.now c.args.id.now c.in_ok-round_at.field-0 read.found read.ordered)
