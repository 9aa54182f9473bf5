use Rattle.std.proofs.Common.{◌≡◌, ℕ, get_or, length, None}
use Rattle.hall_http.proofs.clients.Clients.new.Given as goal

abbrev pub invariant-loop-place : goal.invariant-loop-place
invariant-loop-place g l = record {
  free : (i : ℕ) → get_or l.places.items i None ≡ None;
  long : length l.places.items ≡ l._place;
}
