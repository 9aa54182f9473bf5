use Rattle.std.proofs.Common.{◌≡◌, ◌<◌, ℕ, length, get_or}
use Rattle.hall_sudoku.specs.Values.{Has}
use Rattle.hall_sudoku.specs.Parts.{IsElsewhere}
use Rattle.hall_sudoku.proofs.parts.Parts.elsewhere.Given as goal

abbrev pub invariant-loop-cell : goal.invariant-loop-cell
invariant-loop-cell g l = record {
  size : length l.out ≡ g.row.CELLS;
  elsewhere : (k : ℕ) → k < l.cell → (v : ℕ) → Has (get_or l.out k 0) v
      → IsElsewhere l.self.units.now (λ c. get_or l.self.first.now c 0) (λ c. get_or l.self.second.now c 0) l.candidates
      k v;
}
