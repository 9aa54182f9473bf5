use Rattle.std.proofs.Common.{refl}
use Rattle.hall_score.proofs.ProgressLemmas.{try_work, tried_before}
use Rattle.hall_score.proofs.entrant.Progress.with_try.Goals as goal

pub returns : goal.returns
returns c = λ rows is.
    try_work c.args.round.now rows c.args.row.now c.args.self.now _ is c.requires.number c.requires.n refl refl refl
    (c.with.ensures.tries is.current (tried_before c.args.round.now rows c.args.self.now c.args.row.now is
    c.requires.number c.requires.n) is.tries)
