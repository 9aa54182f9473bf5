use Rattle.std.proofs.lemmas.Result.{IfOk-from_err}
use Rattle.hall_nurikabe.proofs.deduce.DeductionsDeduce.pass.Goals as goal

pub returns-in_err-values-clause-deduced : goal.returns-in_err-values-clause-deduced
returns-in_err-values-clause-deduced c = IfOk-from_err c.from_residual.result _ c.from_residual.ensures.0

pub returns-in_err-values-clause-settled : goal.returns-in_err-values-clause-settled
returns-in_err-values-clause-settled c = IfOk-from_err c.from_residual.result _ c.from_residual.ensures.0
