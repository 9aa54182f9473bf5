use Rattle.std.proofs.lemmas.Result.{IfOk-from_err}
use Rattle.std.proofs.lemmas.Grind.{common_steps}
use Rattle.std.proofs.Common.{arith}
use Rattle.hall_score.proofs.table.table_text.Goals as goal

pub loop-line-preserved : goal.loop-line-preserved
loop-line-preserved c = grind (arith, common_steps)

pub returns : goal.returns
returns c = grind (arith, common_steps)

pub returns-in_err-standings : goal.returns-in_err-standings
returns-in_err-standings c = IfOk-from_err c.from_residual.result _ c.from_residual.ensures.0

pub returns-in_err-line_text : goal.returns-in_err-line_text
returns-in_err-line_text c = IfOk-from_err c.from_residual-in_err-line_text.result _
    c.from_residual-in_err-line_text.ensures.0

pub returns-in_err-push_str : goal.returns-in_err-push_str
returns-in_err-push_str c = IfOk-from_err c.from_residual-in_err-push_str.result _
    c.from_residual-in_err-push_str.ensures.0
