use Rattle.hall_grid.specs.declared.board.Kind.TheVariants.{Nurikabe}
use Rattle.hall_solve.specs.Puzzle.{question_of}
use Rattle.hall_nurikabe.proofs.Passes.{IsSoFar}
use Rattle.hall_nurikabe.proofs.follow.follow_place.Given as goal

abbrev pub invariant-loop-spot : goal.invariant-loop-spot
invariant-loop-spot l = IsSoFar (question_of Nurikabe l.puzzle) l.fn.partial l.partial l.pass
