use Rattle.std.proofs.Common.{◌∙◌, sym}
use Rattle.hall_score.proofs.Tried.{sealed_right, sealed_wrong}
use Rattle.hall_score.proofs.tries.sealed_score.Goals as goal

pub returns-then-is_right-clause-score : goal.returns-then-is_right-clause-score
returns-then-is_right-clause-score c = λ rows before.
    sealed_right c.args.round.now rows c.args.row.now c.score_of.result c.requires before
    (sym c.is_right.ensures ∙ c.if-is_right.true) c.score_of.ensures.within c.score_of.ensures.outside

pub returns-else-is_right-clause-score : goal.returns-else-is_right-clause-score
returns-else-is_right-clause-score c = λ rows before.
    sealed_wrong c.args.round.now rows c.args.row.now c.no_score.result c.requires before
    (sym c.is_right.ensures ∙ c.if-is_right.false) c.no_score.ensures
