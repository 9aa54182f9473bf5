use Rattle.std.proofs.Common.{◌<◌, ℕ, get_or}
use Rattle.hall_sudoku.specs.Values.{Has}
use Rattle.hall_sudoku.proofs.narrow.all_filled.Given as goal

abbrev pub invariant-loop-cell : goal.invariant-loop-cell
invariant-loop-cell l = (c : ℕ) → c < l.cell → ((v : ℕ) → Has (get_or l.candidates c 0) v → ⊥) → ⊥
