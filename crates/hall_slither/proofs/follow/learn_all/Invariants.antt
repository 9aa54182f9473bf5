use Rattle.hall_slither.specs.Colour.{AreColoured}
use Rattle.hall_slither.proofs.follow.learn_all.Given as goal

abbrev pub invariant-loop-side : goal.invariant-loop-side
invariant-loop-side l = AreColoured l.puzzle l.partial.places l.colours
