use Rattle.std.proofs.lemmas.Result.{IfOk-from_err}
use Rattle.std.proofs.lemmas.Grind.{common_steps, elements}
use Rattle.std.proofs.Common.{arith}
use Rattle.hall_score.proofs.ranking.rising.Goals as goal

pub loop-entrant-preserved : goal.loop-entrant-preserved
loop-entrant-preserved c = grind (arith, common_steps)

pub returns-clause-moved : goal.returns-clause-moved
returns-clause-moved c = grind (arith, elements)

pub returns-in_err-rising-clause-moved : goal.returns-in_err-rising-clause-moved
returns-in_err-rising-clause-moved c = IfOk-from_err c.from_residual.result _ c.from_residual.ensures.0

pub returns-in_err-rising-clause-sorted : goal.returns-in_err-rising-clause-sorted
returns-in_err-rising-clause-sorted c = IfOk-from_err c.from_residual.result _ c.from_residual.ensures.0

pub returns-in_err-push-clause-moved : goal.returns-in_err-push-clause-moved
returns-in_err-push-clause-moved c = IfOk-from_err c.from_residual-in_err-push.result _
    c.from_residual-in_err-push.ensures.0

pub returns-in_err-push-clause-sorted : goal.returns-in_err-push-clause-sorted
returns-in_err-push-clause-sorted c = IfOk-from_err c.from_residual-in_err-push.result _
    c.from_residual-in_err-push.ensures.0

pub returns-in_err-sort-clause-moved : goal.returns-in_err-sort-clause-moved
returns-in_err-sort-clause-moved c = IfOk-from_err c.from_residual-in_err-sort.result _
    c.from_residual-in_err-sort.ensures.0

pub returns-in_err-sort-clause-sorted : goal.returns-in_err-sort-clause-sorted
returns-in_err-sort-clause-sorted c = IfOk-from_err c.from_residual-in_err-sort.result _
    c.from_residual-in_err-sort.ensures.0
