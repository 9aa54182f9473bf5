use Rattle.std.proofs.lemmas.Result.{IfOk-from_err}
use Rattle.hall_solve.proofs.deduce.settle.Goals as goal

pub returns-in_err-pass-clause-live : goal.returns-in_err-pass-clause-live
returns-in_err-pass-clause-live g c = IfOk-from_err c.from_residual.result _ c.from_residual.ensures.0

pub returns-in_err-pass-clause-settled : goal.returns-in_err-pass-clause-settled
returns-in_err-pass-clause-settled g c = IfOk-from_err c.from_residual.result _ c.from_residual.ensures.0

pub returns-in_err-pass-clause-dead : goal.returns-in_err-pass-clause-dead
returns-in_err-pass-clause-dead g c = IfOk-from_err c.from_residual.result _ c.from_residual.ensures.0
