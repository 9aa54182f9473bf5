use Rattle.std.proofs.Common.{◌≡◌, ◌<◌, ℕ, length, get_or}
use Rattle.hall_grid.specs.Board.{row}
use Rattle.hall_sudoku.specs.Values.{Has}
use Rattle.hall_sudoku.proofs.parts.Parts.confined.Given as goal

abbrev pub invariant-loop-part : goal.invariant-loop-part
invariant-loop-part g l = record {
  size : length l.confined ≡ g.row.CELLS;
  alone : (k : ℕ) → k < l.part → (v : ℕ) → Has (get_or l.confined k 0) v → Has (get_or l.parts k 0) v
      × (Has (get_or l.shared (row l.self.units.now k) 0) v → ⊥);
}
