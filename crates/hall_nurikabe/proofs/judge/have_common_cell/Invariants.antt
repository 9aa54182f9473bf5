use Rattle.std.proofs.Common.{ℕ, ◌<◌}
use Rattle.hall_grid.specs.Reached.{IsMarked}
use Rattle.hall_nurikabe.proofs.judge.have_common_cell.Given as goal

abbrev pub invariant-loop-cell : goal.invariant-loop-cell
invariant-loop-cell l = (cell : ℕ) → cell < l.cell → IsMarked l.a cell → IsMarked l.b cell → ⊥
