use Rattle.std.proofs.lemmas.Result.{IfOk-from_err}
use Rattle.hall_slither.proofs.follow.follow_all.Goals as goal

pub returns-in_err-push_all-clause-silent : goal.returns-in_err-push_all-clause-silent
returns-in_err-push_all-clause-silent c = IfOk-from_err c.from_residual.result _ c.from_residual.ensures.0
