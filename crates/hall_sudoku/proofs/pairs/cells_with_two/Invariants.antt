use Rattle.std.proofs.Common.{◌≡◌, ◌<◌, ◌≤◌, ℕ, length, get_or}
use Rattle.hall_sudoku.proofs.pairs.cells_with_two.Given as goal

abbrev pub invariant-loop-cell : goal.invariant-loop-cell
invariant-loop-cell g l = record {
  size : length l.found ≡ g.row.CELLS;
  count : l.count ≤ l.cell;
  below : (k : ℕ) → k < l.count → get_or l.found k 0 < length l.units;
}
