use Rattle.std.proofs.Common.{◌≡◌, ℕ, ◌≤◌, None, length, get_or}
use Rattle.hall_grid.specs.Board.{cells}
use Rattle.hall_sudoku.proofs.StartOf.{BeginBelow}
use Rattle.hall_sudoku.proofs.givens.start.Given as goal

abbrev pub invariant-loop-cell : goal.invariant-loop-cell
invariant-loop-cell l = record {
  size : length l.partial.places ≡ cells l.puzzle.size;
  later : (c : ℕ) → l.cell ≤ c → get_or l.partial.places c None ≡ None;
  begin : BeginBelow l.puzzle l.cell l.partial.places;
}
