use Rattle.hall_solve.proofs.Trails.{Grows-itself}
use Rattle.std.proofs.Common.{rules}
use Rattle.hall_slither.proofs.trial.try_side.Goals as goal

pub returns-then-is_some-clause-followed : goal.returns-then-is_some-clause-followed
returns-then-is_some-clause-followed c = record {
  deduced = search rules;
  err = search rules;
  grows = Grows-itself
      c.args.partial.now;
}
