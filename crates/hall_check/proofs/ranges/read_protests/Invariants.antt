use Rattle.std.proofs.Common.{◌≡◌, ℕ, ◌<◌, slice_get, Some}
use Rattle.hall_policy.specs.Ranges.{IsProtestRow}
use Rattle.hall_policy.specs.declared.record.ProtestRow.{ProtestRow}
use Rattle.hall_check.proofs.ranges.read_protests.Given as goal

-- so far each lies in its range
abbrev pub invariant-loop-row : goal.invariant-loop-row
invariant-loop-row l = (i : ℕ) (row : ProtestRow) → i < l.row-index → slice_get l.rows i ≡ Some row → IsProtestRow row
