use Rattle.std.proofs.Common.{◌≡◌, ℕ, ◌<◌, slice_get, Some}
use Rattle.hall_policy.specs.Ranges.{IsAnswerRow}
use Rattle.hall_policy.specs.declared.record.AnswerRow.{AnswerRow}
use Rattle.hall_check.proofs.ranges.read_answers.Given as goal

-- so far each lies in its range
abbrev pub invariant-loop-row : goal.invariant-loop-row
invariant-loop-row l = (i : ℕ) (row : AnswerRow) → i < l.row-index → slice_get l.rows i ≡ Some row → IsAnswerRow row
