use Rattle.hall_grid.specs.declared.board.Kind.TheVariants.{Slither}
use Rattle.hall_solve.specs.Puzzle.{question_of}
use Rattle.hall_slither.specs.Trial.{AreKnown}
use Rattle.hall_slither.proofs.early.find_early.Given as goal

abbrev pub invariant-loop-place : goal.invariant-loop-place
invariant-loop-place l = AreKnown (question_of Slither l.puzzle) l.partial.places l.early.items
