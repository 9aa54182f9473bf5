use Rattle.std.proofs.Common.{◌↔◌, IsTrue, ap, subst}
use Rattle.std.specs.List.{filter}
use Rattle.std.specs.Map.{values_of}
use Rattle.hall_policy.specs.declared.record.AnswerRow.{AnswerRow}
use Rattle.hall_store.specs.Keyed.{HasAny, agree, slot_of}
use Rattle.hall_store.specs.declared.slot.AnswerSlot.{AnswerSlot}
use Rattle.hall_store.specs.declared.slot.Part.TheVariants.{Entrant}
use Rattle.hall_store.proofs.AnswerWorlds.{submitted}
use Rattle.hall_store.proofs.map_calls.MapStoreReadStore.has_answered.Goals as goal

pub has_answer-requires-clause-first : goal.has_answer-requires-clause-first
has_answer-requires-clause-first c = (
  ap (λ (s : AnswerSlot). s.number) c.in_ok-first.ensures,
  ap
      (λ (s : AnswerSlot). s.n) c.in_ok-first.ensures,
)

pub returns-clause-served : goal.returns-clause-served
returns-clause-served c = λ _. (
  tt,
  submitted c.args.self.now c.has_answer.ensures.ordered c.args.entrant.now c.args.round.now c.has_answer.result
      (subst (λ (s : AnswerSlot). IsTrue c.has_answer.result
      ↔ HasAny (filter (λ (row : AnswerRow). agree Entrant (slot_of row) s)
      (values_of c.args.self.now.answers.entries))) c.in_ok-first.ensures c.has_answer.ensures.has),
)
