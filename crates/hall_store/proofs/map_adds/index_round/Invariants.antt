use Rattle.std.proofs.Common.{◌≡◌, ◌<◌, ℕ, Some, slice_get}
use Rattle.std.specs.Map.{lookup}
use Rattle.std.specs.BTreeMap.{is_at}
use Rattle.hall_policy.specs.declared.record.Entry.{Entry}
use Rattle.hall_store.specs.Keyed.{Each, IsUseKept, UsesStay, use_cmp, use_of}
use Rattle.hall_store.proofs.map_adds.index_round.Given as goal

-- the index keeps what it had, and leads from the puzzles so far to the round
abbrev pub invariant-loop-entry : goal.invariant-loop-entry
invariant-loop-entry l = record {
  kept : Each use_cmp l.uses.entries IsUseKept;
  stay : UsesStay l.fn.uses.entries l.uses.entries;
  led : (k : ℕ) (entry : Entry) → k < l.entry-index → slice_get l.row.puzzles k ≡ Some entry
      → lookup (is_at (use_cmp (use_of entry.puzzle l.row.round.id))) l.uses.entries ≡ Some tt;
}
