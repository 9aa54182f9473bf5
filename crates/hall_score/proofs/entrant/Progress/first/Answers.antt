use Rattle.std.proofs.Common.{refl, [], arith}
use Rattle.hall_score.proofs.ProgressLemmas.{first_work}
use Rattle.hall_score.proofs.entrant.Progress.first.Goals as goal

pub returns : goal.returns
returns c =
    first_work c.args.round.now c.args.row.now _ refl refl c.no_score.ensures
    (c.with.ensures.tries [] (λ k d within. absurd (omega arith)) (c.none.ensures.tries c.args.round.now))
