use Rattle.std.proofs.lemmas.Result.{IfOk-from_err}
use Rattle.std.proofs.lemmas.Grind.{common_steps}
use Rattle.std.proofs.Common.{arith}
use Rattle.hall_slither.proofs.follow.push_beside.Goals as goal

pub push_cell-requires-clause-centres : goal.push_cell-requires-clause-centres
push_cell-requires-clause-centres c = grind (arith, common_steps)

pub returns-in_err-push-clause-few : goal.returns-in_err-push-clause-few
returns-in_err-push-clause-few c = IfOk-from_err c.from_residual.result _ c.from_residual.ensures.0

pub returns-in_err-push-2-clause-few : goal.returns-in_err-push-2-clause-few
returns-in_err-push-2-clause-few c = IfOk-from_err c.from_residual-in_err-push-2.result _
    c.from_residual-in_err-push-2.ensures.0

pub returns-in_err-push_cell-clause-few : goal.returns-in_err-push_cell-clause-few
returns-in_err-push_cell-clause-few c = IfOk-from_err c.from_residual-in_err-push_cell.result _
    c.from_residual-in_err-push_cell.ensures.0
