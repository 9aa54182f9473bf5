use Rattle.hall_policy.specs.Ranges.{IsPerson}
use Rattle.hall_check.proofs.EachRow.{each_step, each_done}
use Rattle.hall_check.proofs.ranges.read_people.Goals as goal

pub loop-person-preserved : goal.loop-person-preserved
loop-person-preserved c =
    each_step (IsPerson) c.args.people.now c.loop-person.person-index c.person-item.result c.loop-person.invariant
    c.person-item.is c.in_range.ensures

pub returns : goal.returns
returns c =
    each_done (IsPerson) c.args.people.now c.loop-person.person-index c.loop-person.invariant c.loop-person-test.false
