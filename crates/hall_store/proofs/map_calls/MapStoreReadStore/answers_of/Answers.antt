use Rattle.std.proofs.Common.{◌∙◌, ap, subst, sym}
use Rattle.std.specs.List.{filter}
use Rattle.std.specs.Map.{values_of}
use Rattle.hall_policy.specs.declared.record.AnswerRow.{AnswerRow}
use Rattle.hall_store.specs.Keyed.{agree, slot_of}
use Rattle.hall_store.specs.Maps.{world_of_maps}
use Rattle.hall_store.specs.Store.{IsListing, is_of}
use Rattle.hall_store.specs.declared.slot.AnswerSlot.{AnswerSlot}
use Rattle.hall_store.specs.declared.slot.Part.TheVariants.{Entrant}
use Rattle.hall_store.proofs.AnswerWorlds.{listed_of}
use Rattle.hall_store.proofs.map_calls.MapStoreReadStore.answers_of.Goals as goal

pub answer_rows-requires-clause-first : goal.answer_rows-requires-clause-first
answer_rows-requires-clause-first c = (
  ap (λ (s : AnswerSlot). s.number) c.in_ok-first.ensures,
  ap
      (λ (s : AnswerSlot). s.n) c.in_ok-first.ensures,
)

pub returns-clause-served : goal.returns-clause-served
returns-clause-served c = λ _. (
  tt,
  subst (IsListing (world_of_maps c.args.self.now) (is_of c.args.entrant.now c.args.round.now))
      (sym (c.in_ok-answer_rows.ensures.rows
      ∙ ap (λ (s : AnswerSlot). filter (λ (row : AnswerRow). agree Entrant (slot_of row) s)
      (values_of c.args.self.now.answers.entries)) c.in_ok-first.ensures))
      (listed_of c.args.self.now c.args.entrant.now c.args.round.now c.answer_rows.ensures.ordered),
)
