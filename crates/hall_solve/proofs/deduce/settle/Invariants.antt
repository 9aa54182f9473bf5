use Rattle.hall_solve.specs.Question.{Narrows, open_places}
use Rattle.hall_solve.specs.Trail.{Grows}
use Rattle.hall_solve.proofs.deduce.settle.Given as goal

abbrev pub decreases-settling : goal.decreases-settling
decreases-settling g l = open_places l.partial.places

abbrev pub invariant-settling : goal.invariant-settling
invariant-settling g l = record {
  narrows : Narrows (g.D.Deduce.question l.deductions) l.fn.partial.places l.partial.places;
  grows : Grows l.fn.partial l.partial;
}
