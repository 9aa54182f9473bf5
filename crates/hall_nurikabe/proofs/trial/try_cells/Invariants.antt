use Rattle.hall_grid.specs.declared.board.Kind.TheVariants.{Nurikabe}
use Rattle.hall_solve.specs.Puzzle.{question_of}
use Rattle.hall_nurikabe.proofs.Passes.{IsSoFar}
use Rattle.hall_nurikabe.proofs.trial.try_cells.Given as goal

abbrev pub invariant-loop : goal.invariant-loop
invariant-loop l = IsSoFar (question_of Nurikabe l.puzzle) l.fn.partial l.partial l.pass
