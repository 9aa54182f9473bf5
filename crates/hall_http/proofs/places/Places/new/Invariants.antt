use Rattle.std.proofs.Common.{◌≡◌, length}
use Rattle.hall_http.specs.Places.{taken}
use Rattle.hall_http.proofs.places.Places.new.Given as goal

abbrev pub invariant-loop-place : goal.invariant-loop-place
invariant-loop-place l = record {
  free : taken l.visits.items ≡ 0;
  long : length l.visits.items ≡ l._place;
}
