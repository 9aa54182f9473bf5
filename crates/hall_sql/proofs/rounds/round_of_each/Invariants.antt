use Rattle.std.proofs.Common.{◌≡◌, map}
use Rattle.hall_sql.proofs.rounds.round_of_each.Given as goal

abbrev pub invariant-loop-key : goal.invariant-loop-key
invariant-loop-key l = l.ids.items ≡ map (λ place. place.0.round) l.yielded
