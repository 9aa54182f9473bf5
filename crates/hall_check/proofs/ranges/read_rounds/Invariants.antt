use Rattle.std.proofs.Common.{◌≡◌, ℕ, ◌<◌, slice_get, Some}
use Rattle.hall_policy.specs.Ranges.{IsRound}
use Rattle.hall_policy.specs.declared.record.Round.{Round}
use Rattle.hall_check.proofs.ranges.read_rounds.Given as goal

-- so far each lies in its range
abbrev pub invariant-loop-round : goal.invariant-loop-round
invariant-loop-round l = (i : ℕ) (round : Round) → i < l.round-index → slice_get l.rounds i ≡ Some round → IsRound round
