use Rattle.std.proofs.lemmas.Result.{IfOk-from_err}
use Rattle.hall_slither.proofs.follow.push_cell.Goals as goal

pub returns-in_err-push-clause-few : goal.returns-in_err-push-clause-few
returns-in_err-push-clause-few c = IfOk-from_err c.from_residual.result _ c.from_residual.ensures.0
