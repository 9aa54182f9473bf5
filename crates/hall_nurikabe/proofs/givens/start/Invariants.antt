use Rattle.hall_nurikabe.proofs.Begun.{Begun}
use Rattle.hall_nurikabe.proofs.givens.start.Given as goal

abbrev pub invariant-loop-cell : goal.invariant-loop-cell
invariant-loop-cell l = Begun l.puzzle l.partial.places l.cell
