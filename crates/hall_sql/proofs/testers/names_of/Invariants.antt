use Rattle.std.proofs.Common.{◌≡◌, map}
use Rattle.hall_sql.proofs.testers.names_of.Given as goal

abbrev pub invariant-loop-key : goal.invariant-loop-key
invariant-loop-key l = l.names.items ≡ map (λ tester. tester.0.name) l.yielded
