use Rattle.std.proofs.Common.{◌≡◌, ℕ, ◌<◌, length, get_or}
use Rattle.hall_sudoku.specs.Values.{Has}
use Rattle.hall_sudoku.specs.Candidates.{IsLeft}
use Rattle.hall_sudoku.proofs.candidates.candidates.Given as goal

abbrev pub invariant-loop-cell : goal.invariant-loop-cell
invariant-loop-cell g l = record {
  size : length l.candidates ≡ g.row.CELLS;
  left : (c : ℕ) → c < l.cell → IsLeft l.units l.partial.places c (get_or l.candidates c 0);
  filled : (c : ℕ) → c < l.cell → ((v : ℕ) → Has (get_or l.candidates c 0) v → ⊥) → ⊥;
}
