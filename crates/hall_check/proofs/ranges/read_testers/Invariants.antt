use Rattle.std.proofs.Common.{◌≡◌, ℕ, ◌<◌, slice_get, Some}
use Rattle.hall_policy.specs.Ranges.{IsName}
use Rattle.hall_policy.specs.declared.record.TesterKey.{TesterKey}
use Rattle.hall_check.proofs.ranges.read_testers.Given as goal

-- so far each lies in its range
abbrev pub invariant-loop-tester : goal.invariant-loop-tester
invariant-loop-tester l = (i : ℕ) (tester : TesterKey × Unit {0}) → i < l.tester-index
    → slice_get l.testers i ≡ Some tester → IsName tester.0.name
