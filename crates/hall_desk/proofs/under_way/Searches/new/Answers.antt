use Rattle.std.proofs.Common.{arith}
use Rattle.hall_desk.proofs.Places.{none_at, none_under_way}
use Rattle.hall_desk.proofs.under_way.Searches.new.Goals as goal

pub invariant_of-result : goal.invariant_of-result
invariant_of-result c =
    none_under_way c.loop-place.places.items (omega (arith, c.loop-place-test.false, c.loop-place.invariant.exact))
    c.loop-place.invariant.none

pub returns-clause-none : goal.returns-clause-none
returns-clause-none c = none_at c.loop-place.places.items c.loop-place.invariant.none
