use Rattle.std.proofs.Common.{ℕ, ◌<◌, slice_index_or}
use Rattle.hall_policy.specs.Ranges.{IsEntry}
use Rattle.hall_policy.specs.declared.record.Entry.{Entry}
use Rattle.hall_policy.proofs.ranges.read_all_entries.Given as goal

-- those read so far
abbrev pub invariant-loop-entry : goal.invariant-loop-entry
invariant-loop-entry l = (k : ℕ) (d : Entry) → k < l.entry-index → IsEntry (slice_index_or l.entries k d)
