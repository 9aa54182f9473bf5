use Rattle.hall_solve.proofs.Boards.{IsBest}
use Rattle.hall_slither.proofs.scratch.best_open.Given as goal

abbrev pub invariant-loop-side : goal.invariant-loop-side
invariant-loop-side l = IsBest l.partial.places l.side l.best
