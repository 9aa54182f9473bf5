use Rattle.std.proofs.Common.{◌<◌, ℕ}
use Rattle.hall_slither.specs.Close.{IsClosed}
use Rattle.hall_slither.proofs.close.has_loop.Given as goal

abbrev pub invariant-loop-label : goal.invariant-loop-label
invariant-loop-label l = (k : ℕ) → k < l.label → IsClosed l.labels l.ends k → ⊥
