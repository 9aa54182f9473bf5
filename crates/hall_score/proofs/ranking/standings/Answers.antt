use Rattle.std.proofs.lemmas.Result.{IfOk-from_err}
use Rattle.hall_score.proofs.ranking.standings.Goals as goal

pub returns-in_err-rising : goal.returns-in_err-rising
returns-in_err-rising c = IfOk-from_err c.from_residual.result _ c.from_residual.ensures.0

pub returns-in_err-lines : goal.returns-in_err-lines
returns-in_err-lines c = IfOk-from_err c.from_residual-in_err-lines.result _ c.from_residual-in_err-lines.ensures.0
