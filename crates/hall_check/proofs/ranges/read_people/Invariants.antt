use Rattle.std.proofs.Common.{◌≡◌, ℕ, ◌<◌, slice_get, Some}
use Rattle.hall_policy.specs.Ranges.{IsPerson}
use Rattle.hall_policy.specs.declared.record.Person.{Person}
use Rattle.hall_check.proofs.ranges.read_people.Given as goal

-- so far each lies in its range
abbrev pub invariant-loop-person : goal.invariant-loop-person
invariant-loop-person l = (i : ℕ) (person : Person) → i < l.person-index → slice_get l.people i ≡ Some person
    → IsPerson person
