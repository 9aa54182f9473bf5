use Rattle.hall_sudoku.proofs.Tables.{IsBest}
use Rattle.hall_sudoku.proofs.candidates.fewest.Given as goal

abbrev pub invariant-loop-cell : goal.invariant-loop-cell
invariant-loop-cell l = IsBest l.partial.places l.cell l.best
