use Rattle.hall_grid.specs.declared.board.Kind.TheVariants.{Nurikabe}
use Rattle.hall_solve.specs.Puzzle.{question_of}
use Rattle.hall_nurikabe.proofs.Passes.{IsSoFar}
use Rattle.hall_nurikabe.proofs.follow.follow_exits.Given as goal

abbrev pub invariant-loop-side : goal.invariant-loop-side
invariant-loop-side l = IsSoFar (question_of Nurikabe l.puzzle) l.fn.partial l.partial l.pass
