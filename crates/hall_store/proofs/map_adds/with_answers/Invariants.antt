use Rattle.std.proofs.Common.{◌≡◌, drop, map}
use Rattle.std.specs.FinMap.{from_entries}
use Rattle.hall_store.specs.Change.{CanAddAnswers, with_answers}
use Rattle.hall_store.specs.Keyed.{AreKeysDistinct, Each, IsAnswerKept, answer_entry, slot_cmp}
use Rattle.hall_store.specs.Maps.{world_of_maps}
use Rattle.hall_store.proofs.map_adds.with_answers.Given as goal

-- the rest of the rows may be added to the answers so far, and make of them what the whole makes of the store's
abbrev pub invariant-loop-row : goal.invariant-loop-row
invariant-loop-row l = record {
  kept : Each slot_cmp l.answers.entries IsAnswerKept;
  distinct : AreKeysDistinct l.answers.entries;
  can : CanAddAnswers (record (world_of_maps l.fn.store) {
    answers = from_entries (map answer_entry l.answers.entries);
  }) (drop l.row-index l.rows);
  made : with_answers (from_entries (map answer_entry l.answers.entries)) (drop l.row-index l.rows)
      ≡ with_answers (world_of_maps l.fn.store).answers l.rows;
}
