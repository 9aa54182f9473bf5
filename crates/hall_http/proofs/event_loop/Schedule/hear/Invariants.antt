use Rattle.std.proofs.Common.{◌≡◌, ◌++◌, ◌∷◌, [], false}
use Rattle.hall_http.specs.Queue.{ComeBehind}
use Rattle.hall_http.specs.Seats.{IsUnheard}
use Rattle.hall_http.specs.declared.event_loop.Look.TheVariants.{Sockets}
use Rattle.hall_http.proofs.event_loop.Schedule.hear.Given as goal

abbrev pub invariant-loop-place : goal.invariant-loop-place
invariant-loop-place g l = record {
  places : IsUnheard l.fn.self.places l.self.places;
  line : ComeBehind l.fn.self.ready l.self.ready;
  unheard : l.self.has_heard ≡ false;
  told : l.self.looks.items ≡ l.fn.self.looks.items ++ (Sockets l.fn.patience, l.count) ∷ [];
}
