use Rattle.hall_solve.proofs.Trails.{Grows-itself}
use Rattle.std.proofs.Common.{rules}
use Rattle.hall_slither.proofs.follow.follow_centre.Goals as goal

pub returns-in-None-clause-followed : goal.returns-in-None-clause-followed
returns-in-None-clause-followed c = record {
  deduced = search rules;
  err = search rules;
  grows = Grows-itself
      c.args.position.now.partial.now;
}

pub returns-in-Impossible-clause-followed : goal.returns-in-Impossible-clause-followed
returns-in-Impossible-clause-followed c = record {
  deduced = search rules;
  err = search rules;
  grows = Grows-itself
      c.args.position.now.partial.now;
}
