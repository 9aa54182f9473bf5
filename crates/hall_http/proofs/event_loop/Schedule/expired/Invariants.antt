use Rattle.std.proofs.Common.{◌≡◌}
use Rattle.hall_http.proofs.event_loop.Schedule.expired.Given as goal

abbrev pub invariant-loop-place : goal.invariant-loop-place
invariant-loop-place g l = record {
  places : l.self.places ≡ l.fn.self.places;
  ready : l.self.ready ≡ l.fn.self.ready;
  heard : l.self.has_heard ≡ l.fn.self.has_heard;
  asked : l.self.looks ≡ l.fn.self.looks;
}
