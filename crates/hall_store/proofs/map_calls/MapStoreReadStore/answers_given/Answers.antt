use Rattle.std.proofs.Common.{◌∙◌, ap, count_by}
use Rattle.std.specs.Map.{values_of}
use Rattle.hall_policy.specs.declared.record.AnswerRow.{AnswerRow}
use Rattle.hall_store.specs.Keyed.{agree, slot_of}
use Rattle.hall_store.specs.declared.slot.AnswerSlot.{AnswerSlot}
use Rattle.hall_store.specs.declared.slot.Part.TheVariants.{Puzzle}
use Rattle.hall_store.proofs.AnswerWorlds.{counted}
use Rattle.hall_store.proofs.map_calls.MapStoreReadStore.answers_given.Goals as goal

pub count_answers-requires-clause-first : goal.count_answers-requires-clause-first
count_answers-requires-clause-first c = ap (λ (s : AnswerSlot). s.n) c.in_ok-first.ensures

pub returns-clause-served : goal.returns-clause-served
returns-clause-served c = λ _. (
  tt,
  c.count_answers.ensures.count
      ∙ ap (λ (s : AnswerSlot). count_by (λ (row : AnswerRow). agree Puzzle (slot_of row) s)
      (values_of c.args.self.now.answers.entries)) c.in_ok-first.ensures
      ∙ counted c.args.self.now c.args.entrant.now c.args.round.now c.args.number,
)
