use Rattle.std.proofs.Common.{ℕ, ◌<◌, slice_index_or}
use Rattle.hall_policy.specs.Ranges.{IsPerson}
use Rattle.hall_policy.specs.declared.record.Person.{Person}
use Rattle.hall_policy.proofs.ranges.read_people.Given as goal

-- those read so far
abbrev pub invariant-loop-person : goal.invariant-loop-person
invariant-loop-person l = (k : ℕ) (d : Person) → k < l.person-index → IsPerson (slice_index_or l.people k d)
