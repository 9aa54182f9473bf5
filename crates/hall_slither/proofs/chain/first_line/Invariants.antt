use Rattle.std.proofs.Common.{◌≡◌, ℕ, Some, take, get_or}
use Rattle.std.specs.Prelude.{Contains}
use Rattle.hall_slither.proofs.chain.first_line.Given as goal

abbrev pub invariant-loop-side : goal.invariant-loop-side
invariant-loop-side l = (s : ℕ) → Contains (take l.side-index l.sides) (Some s) → get_or l.lines s 0 ≡ 1 → ⊥
