use Rattle.std.proofs.Common.{◌≢◌}
use Rattle.hall_solve.specs.Question.{Narrows}
use Rattle.hall_solve.specs.Deduction.{IsDeduced}
use Rattle.hall_solve.specs.Trail.{Grows}
use Rattle.hall_solve.specs.declared.deduce.Pass.TheVariants.{Dead}
use Rattle.hall_solve.proofs.deduce.sweep.Given as goal

abbrev pub invariant-loop-spot : goal.invariant-loop-spot
invariant-loop-spot g l =
    let q = g.L.Look.question l.deduction in
    record {
      narrows : Narrows q l.fn.partial.places l.partial.places;
      deduced : IsDeduced q l.fn.partial.places l.partial.places l.pass;
      grows : Grows l.fn.partial l.partial;
      alive : l.pass ≢ Dead;
    }
