use Rattle.hall_store.proofs.UsingRounds.{using_found}
use Rattle.hall_store.proofs.map_calls.MapStoreReadStore.rounds_using.Goals as goal

pub returns-clause-served : goal.returns-clause-served
returns-clause-served c =
    let read = c.in_ok-ids_using.ensures in
    λ _. (
      tt,
      using_found c.args.self.now c.args.key.now read.rounds_ordered read.uses_ordered
          c.in_ok-ids_using.field-0.items read.ids,
    )
