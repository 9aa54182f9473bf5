use Rattle.hall_sudoku.specs.Candidates.{LacksNothing}
use Rattle.hall_sudoku.proofs.singles.lacks_one.Given as goal

abbrev pub invariant-loop-unit : goal.invariant-loop-unit
invariant-loop-unit l = LacksNothing l.unit l.side l.seen
