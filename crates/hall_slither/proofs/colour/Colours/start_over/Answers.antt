use Rattle.std.proofs.lemmas.Result.{IfOk-from_err}
use Rattle.std.proofs.lemmas.Grind.{common_steps}
use Rattle.std.proofs.Common.{arith}
use Rattle.hall_slither.proofs.colour.Colours.start_over.Goals as goal

pub loop-cell-preserved : goal.loop-cell-preserved
loop-cell-preserved c = grind (arith, common_steps)

pub returns-in_err-push-clause-size : goal.returns-in_err-push-clause-size
returns-in_err-push-clause-size c = IfOk-from_err c.from_residual.result _ c.from_residual.ensures.0

pub returns-in_err-push-clause-obeyed : goal.returns-in_err-push-clause-obeyed
returns-in_err-push-clause-obeyed c = IfOk-from_err c.from_residual.result _ c.from_residual.ensures.0
