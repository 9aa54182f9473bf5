use Rattle.std.proofs.Common.{◌↔◌, IsTrue, subst}
use Rattle.hall_store.specs.Maps.{world_of_maps}
use Rattle.hall_store.specs.Store.{IsNumberTaken}
use Rattle.hall_store.specs.declared.slot.AnswerSlot.{AnswerSlot}
use Rattle.hall_store.proofs.AnswerWorlds.{number_taken}
use Rattle.hall_store.proofs.map_calls.MapStoreReadStore.is_number_taken.Goals as goal

pub returns-clause-served : goal.returns-clause-served
returns-clause-served c = λ _. (
  tt,
  subst (λ (s : AnswerSlot). IsTrue c.is_taken.result ↔ IsNumberTaken (world_of_maps c.args.self.now) s.entrant s.round
      s.number s.n) c.in_ok-slot.ensures
      (number_taken c.args.self.now c.in_ok-slot.slot c.is_taken.ensures.ordered c.is_taken.result
      c.is_taken.ensures.taken),
)
