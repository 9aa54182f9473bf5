use Rattle.std.proofs.Common.{arith, below_more, slice_index_or}
use Rattle.std.proofs.lemmas.List.Elements.{at_read}
use Rattle.hall_policy.specs.Ranges.{IsPerson}
use Rattle.hall_policy.specs.declared.record.Person.{Person}
use Rattle.hall_policy.proofs.ranges.read_people.Goals as goal

pub loop-person-preserved : goal.loop-person-preserved
loop-person-preserved c = λ k d less.
    let people = c.args.people.now in
    below_more (λ j. (e : Person) → IsPerson (slice_index_or people j e)) c.loop-person.person-index
    (λ j below e. c.loop-person.invariant j e below)
    (at_read people IsPerson c.loop-person.person-index c.person-item.result (omega arith) c.person-item.is
    c.in_range.ensures)
    k less d
