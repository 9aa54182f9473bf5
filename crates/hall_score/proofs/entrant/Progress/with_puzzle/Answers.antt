use Rattle.std.proofs.Common.{refl, [], arith}
use Rattle.hall_score.proofs.ProgressLemmas.{puzzle_work}
use Rattle.hall_score.proofs.entrant.Progress.with_puzzle.Goals as goal

pub returns : goal.returns
returns c = λ rows is.
    puzzle_work c.args.round.now rows c.args.row.now c.args.self.now _ is c.requires
    (c.score.ensures.score c.args.round.now rows is) refl refl
    (c.with.ensures.tries [] (λ k d within. absurd (omega arith)) (c.none.ensures.tries c.args.round.now))
