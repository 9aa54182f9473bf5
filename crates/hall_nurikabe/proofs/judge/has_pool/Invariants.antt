use Rattle.std.proofs.Common.{ℕ, ◌<◌}
use Rattle.hall_nurikabe.specs.Block.{IsPoolAt}
use Rattle.hall_nurikabe.proofs.judge.has_pool.Given as goal

abbrev pub invariant-loop-cell : goal.invariant-loop-cell
invariant-loop-cell l = (cell : ℕ) → cell < l.cell → IsPoolAt l.size l.filling cell → ⊥
