use Rattle.hall_store.proofs.MapWorlds.{testers_kept}
use Rattle.hall_store.proofs.map_calls.MapStoreReadStore.testers_of.Goals as goal

pub returns-clause-served : goal.returns-clause-served
returns-clause-served c =
    let read = c.in_ok-testers_at.ensures in
    λ _. (
      tt,
      testers_kept c.args.self.now c.args.round.now c.in_ok-testers_at.field-0.items read.names read.different
          read.ordered,
    )
