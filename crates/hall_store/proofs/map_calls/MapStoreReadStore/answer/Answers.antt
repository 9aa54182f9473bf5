use Rattle.std.proofs.Common.{sym, ◌∙◌, ap, find}
use Rattle.std.specs.List.{filter}
use Rattle.std.specs.Map.{values_of}
use Rattle.hall_policy.specs.declared.record.AnswerRow.{AnswerRow}
use Rattle.hall_store.specs.Keyed.{agree, slot_of}
use Rattle.hall_store.specs.declared.slot.AnswerSlot.{AnswerSlot}
use Rattle.hall_store.specs.declared.slot.Part.TheVariants.{Puzzle}
use Rattle.hall_store.proofs.AnswerWorlds.{get_answer, has_token}
use Rattle.hall_store.proofs.map_calls.MapStoreReadStore.answer.Goals as goal

pub answer_with-requires-clause-first : goal.answer_with-requires-clause-first
answer_with-requires-clause-first c = ap (λ (s : AnswerSlot). s.n) c.in_ok-first.ensures

pub returns-clause-served : goal.returns-clause-served
returns-clause-served c = λ _. (
  tt,
  c.in_ok-answer_with.ensures
      ∙ ap (λ (s : AnswerSlot). find (has_token c.args.key.now.token)
      (filter (λ (row : AnswerRow). agree Puzzle (slot_of row) s) (values_of c.args.self.now.answers.entries)))
      c.in_ok-first.ensures
      ∙ sym (get_answer c.args.self.now c.args.key.now),
)
