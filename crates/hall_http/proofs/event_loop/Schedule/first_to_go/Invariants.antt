use Rattle.std.proofs.Common.{ℕ, ◌<◌, ◌≤◌}
use Rattle.std.specs.Prelude.{IfSome}
use Rattle.hall_http.specs.Seats.{MayGoBy}
use Rattle.hall_http.proofs.event_loop.Schedule.first_to_go.Given as goal

abbrev pub invariant-loop-place : goal.invariant-loop-place
invariant-loop-place g l = record {
  leaves : IfSome l.leaves (λ place. MayGoBy l.self.places place l.first);
  before : (other until : ℕ) → other < l.place → MayGoBy l.self.places other until → l.first ≤ until;
}
