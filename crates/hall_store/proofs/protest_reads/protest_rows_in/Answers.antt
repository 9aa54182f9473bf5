use Rattle.std.proofs.lemmas.Result.{IfOk-from_err}
use Rattle.hall_store.proofs.protest_reads.protest_rows_in.Goals as goal

pub returns-in_err-clone-clause-rows : goal.returns-in_err-clone-clause-rows
returns-in_err-clone-clause-rows c = IfOk-from_err c.from_residual.result _ c.from_residual.ensures.0

pub returns-in_err-push-clause-rows : goal.returns-in_err-push-clause-rows
returns-in_err-push-clause-rows c = IfOk-from_err c.from_residual-in_err-push.result _
    c.from_residual-in_err-push.ensures.0
