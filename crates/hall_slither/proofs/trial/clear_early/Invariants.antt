use Rattle.std.proofs.Common.{◌≢◌}
use Rattle.std.specs.Prelude.{Ok}
use Rattle.std.specs.declared.alloc.AllocError.{AllocError}
use Rattle.hall_solve.specs.declared.deduce.Pass.TheVariants.{Dead}
use Rattle.hall_slither.specs.Follow.{IsSamePosition, IsFollowed}
use Rattle.hall_slither.proofs.trial.clear_early.Given as goal

abbrev pub invariant-loop : goal.invariant-loop
invariant-loop l = record {
  followed : IsFollowed {E = AllocError} l.fn.position.puzzle.now l.fn.position.partial.now l.position.partial.now
      (Ok l.pass);
  same : IsSamePosition l.fn.position l.position;
  alive : l.pass ≢ Dead;
}
