use Rattle.std.proofs.Common.{ℕ, ◌<◌, None, get_or, ◌≢◌}
use Rattle.hall_solve.proofs.partial.Partial.first_unset.Given as goal

-- the places so far are set
abbrev pub invariant-loop-place : goal.invariant-loop-place
invariant-loop-place l = (k : ℕ) → k < l.place → get_or l.value-items k None ≢ None
