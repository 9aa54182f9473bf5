use Rattle.std.proofs.Common.{◌≡◌}
use Rattle.hall_http.specs.Looks.{AreMore}
use Rattle.hall_http.specs.Queue.{ComeBehind}
use Rattle.hall_http.specs.Seats.{AreStill}
use Rattle.hall_http.proofs.event_loop.Schedule.next.Given as goal

abbrev pub invariant-loop-round : goal.invariant-loop-round
invariant-loop-round g l = record {
  places : AreStill l.fn.self.places l.self.places;
  line : ComeBehind l.fn.self.ready l.self.ready;
  more : AreMore l.fn.self.looks.items l.self.looks.items;
}
