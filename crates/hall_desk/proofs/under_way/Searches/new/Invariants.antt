use Rattle.std.proofs.Common.{◌≡◌, ℕ, get_or, length, None}
use Rattle.hall_desk.proofs.under_way.Searches.new.Given as goal

abbrev pub invariant-loop-place : goal.invariant-loop-place
invariant-loop-place l = record {
  exact : length l.places.items ≡ l._place;
  none : (i : ℕ) → get_or l.places.items i None ≡ None;
}
