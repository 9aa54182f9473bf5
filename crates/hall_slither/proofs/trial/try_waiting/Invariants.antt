use Rattle.std.proofs.Common.{◌≢◌}
use Rattle.std.specs.Prelude.{Ok}
use Rattle.std.specs.declared.alloc.AllocError.{AllocError}
use Rattle.hall_solve.specs.declared.deduce.Pass.TheVariants.{Dead}
use Rattle.hall_slither.specs.Colour.{AreColoured}
use Rattle.hall_slither.specs.Follow.{IsFollowed}
use Rattle.hall_slither.proofs.trial.try_waiting.Given as goal

abbrev pub invariant-loop : goal.invariant-loop
invariant-loop l = record {
  followed : IsFollowed {E = AllocError} l.puzzle l.fn.partial l.partial (Ok l.pass);
  coloured : AreColoured l.puzzle l.partial.places l.scratch.colours;
  alive : l.pass ≢ Dead;
}
