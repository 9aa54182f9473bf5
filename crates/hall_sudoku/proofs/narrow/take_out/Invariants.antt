use Rattle.hall_sudoku.specs.Candidates.{AreCandidates}
use Rattle.hall_sudoku.proofs.narrow.take_out.Given as goal

abbrev pub invariant-loop-cell : goal.invariant-loop-cell
invariant-loop-cell l = AreCandidates l.units l.partial.places l.candidates
