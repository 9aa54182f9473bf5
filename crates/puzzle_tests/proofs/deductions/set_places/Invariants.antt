use Rattle.hall_solve.specs.Question.{IsPartial}
use Rattle.puzzle_tests.proofs.deductions.set_places.Given as goal

abbrev pub invariant-loop-letter : goal.invariant-loop-letter
invariant-loop-letter g l = IsPartial (g.R.Rules.question l.rules) l.partial.places
