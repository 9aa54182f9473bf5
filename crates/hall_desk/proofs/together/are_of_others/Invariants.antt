use Rattle.std.proofs.Common.{◌≢◌, ℕ, ◌<◌, get_or}
use Rattle.hall_policy.specs.declared.record.AnswerRow.{AnswerRow}
use Rattle.hall_desk.proofs.together.are_of_others.Given as goal

-- each row so far is another's
abbrev pub invariant-loop-row : goal.invariant-loop-row
invariant-loop-row l = (i : ℕ) (d : AnswerRow) → i < l.row-index → (get_or l.rows i d).key.entrant ≢ l.name
