use Rattle.std.proofs.Common.{◌≡◌, ◌++◌, ℕ, List, length, false}
use Rattle.hall_http.specs.Looks.{at_once}
use Rattle.hall_http.specs.Queue.{ComeBehind}
use Rattle.hall_http.specs.Seats.{IsUnheard}
use Rattle.hall_http.proofs.event_loop.Schedule.hear_all.Given as goal

abbrev pub invariant-loop-asked : goal.invariant-loop-asked
invariant-loop-asked g l = record {
  places : IsUnheard l.fn.self.places l.self.places;
  line : ComeBehind l.fn.self.ready l.self.ready;
  unheard : l.self.has_heard ≡ false;
  told : (told : List ℕ) × (length told ≡ l._asked) × (l.self.looks.items ≡ l.fn.self.looks.items ++ at_once told);
}
