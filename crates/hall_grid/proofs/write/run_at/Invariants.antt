use Rattle.std.proofs.Common.{ℕ, ◌<◌, ◌+◌}
use Rattle.hall_grid.specs.Canonical.{IsEmpty}
use Rattle.hall_grid.proofs.write.run_at.Given as goal

-- the cells so far are empty
abbrev pub invariant-loop-count : goal.invariant-loop-count
invariant-loop-count l = (k : ℕ) → k < l.count → IsEmpty l.puzzle.clues (l.cell + k)
