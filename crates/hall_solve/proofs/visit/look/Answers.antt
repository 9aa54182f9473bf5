use Rattle.std.proofs.lemmas.Result.{IfOk-from_err}
use Rattle.hall_solve.proofs.visit.look.Goals as goal

pub returns-in_err-propagate-clause-look : goal.returns-in_err-propagate-clause-look
returns-in_err-propagate-clause-look g c = IfOk-from_err c.from_residual.result _ c.from_residual.ensures.0
