use Rattle.std.proofs.Common.{◌-◌, string_bytes}
use Rattle.hall_grid.specs.Board.{cells}
use Rattle.hall_grid.proofs.AppendsBody.{IsWritten}
use Rattle.hall_grid.proofs.write.push_body.Given as goal

-- the text is the old one and the forms of the cells so far
abbrev pub invariant-loop-cell : goal.invariant-loop-cell
invariant-loop-cell l = IsWritten l.puzzle (string_bytes l.initial.text) (string_bytes l.text) l.cell

abbrev pub decreases-loop-cell : goal.decreases-loop-cell
decreases-loop-cell l = cells l.puzzle.size - l.cell
