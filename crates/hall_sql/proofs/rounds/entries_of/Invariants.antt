use Rattle.std.proofs.Common.{◌≡◌, map}
use Rattle.hall_sql.specs.Places.{AreNumbered}
use Rattle.hall_sql.proofs.rounds.entries_of.Given as goal

abbrev pub invariant-loop-place : goal.invariant-loop-place
invariant-loop-place l = (l.entries.items ≡ map (λ place. place.1) l.yielded) × AreNumbered l.yielded
