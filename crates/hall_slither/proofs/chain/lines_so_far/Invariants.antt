use Rattle.std.proofs.Common.{◌≡◌, ◌<◌, ◌≤◌, ◌↔◌, ℕ, Some, None, get_or, length}
use Rattle.hall_slither.proofs.chain.lines_so_far.Given as goal

abbrev pub invariant-loop-side : goal.invariant-loop-side
invariant-loop-side l = record {
  exact : length l.lines.items ≡ length l.partial.places;
  below : (s : ℕ) → s < l.side → (get_or l.lines.items s 0 ≡ 1) ↔ (get_or l.partial.places s None ≡ Some 1);
  above : (s : ℕ) → l.side ≤ s → get_or l.lines.items s 0 ≡ 0;
}
