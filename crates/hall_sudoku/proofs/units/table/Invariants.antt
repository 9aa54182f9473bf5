use Rattle.std.proofs.Common.{◌≡◌, ℕ, ◌<◌, length, get_or}
use Rattle.hall_sudoku.specs.Unit.{unit_of}
use Rattle.hall_sudoku.proofs.units.table.Given as goal

abbrev pub invariant-loop-cell : goal.invariant-loop-cell
invariant-loop-cell l = record {
  size : length l.units.items ≡ l.cell;
  units_are : (c : ℕ) → c < l.cell → get_or l.units.items c 0 ≡ unit_of l.unit l.size c;
}
