use Rattle.std.proofs.Common.{◌≡◌}
use Rattle.hall_http.specs.Queue.{ComeBehind}
use Rattle.hall_http.specs.Seats.{IsUnheard}
use Rattle.hall_http.proofs.event_loop.Schedule.call_searching.Given as goal

abbrev pub invariant-loop-gone : goal.invariant-loop-gone
invariant-loop-gone g l = record {
  places : IsUnheard l.fn.self.places l.self.places;
  line : ComeBehind l.fn.self.ready l.self.ready;
  asked : l.self.looks ≡ l.fn.self.looks;
}
