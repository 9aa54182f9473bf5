use Rattle.std.proofs.Common.{◌<◌, ◌≤◌, ℕ}
use Rattle.hall_grid.specs.Slither.{degree}
use Rattle.hall_slither.proofs.judge.has_crossing.Given as goal

abbrev pub invariant-loop-dot : goal.invariant-loop-dot
invariant-loop-dot l = (d : ℕ) → d < l.dot → degree l.size l.lines d ≤ 2
