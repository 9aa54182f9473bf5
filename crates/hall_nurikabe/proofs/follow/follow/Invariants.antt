use Rattle.hall_grid.specs.declared.board.Kind.TheVariants.{Nurikabe}
use Rattle.hall_solve.specs.Puzzle.{question_of}
use Rattle.hall_nurikabe.proofs.Passes.{IsSoFar}
use Rattle.hall_nurikabe.proofs.follow.follow.Given as goal

abbrev pub invariant-loop-step : goal.invariant-loop-step
invariant-loop-step l = IsSoFar (question_of Nurikabe l.puzzle) l.fn.partial l.partial l.pass
