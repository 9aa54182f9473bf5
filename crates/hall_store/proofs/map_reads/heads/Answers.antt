use Rattle.std.proofs.lemmas.Result.{IfOk-from_err}
use Rattle.hall_store.proofs.map_reads.heads.Goals as goal

pub returns-in_err-clone-clause-heads : goal.returns-in_err-clone-clause-heads
returns-in_err-clone-clause-heads c = IfOk-from_err c.from_residual.result _ c.from_residual.ensures.0

pub returns-in_err-push-clause-heads : goal.returns-in_err-push-clause-heads
returns-in_err-push-clause-heads c = IfOk-from_err c.from_residual-in_err-push.result _
    c.from_residual-in_err-push.ensures.0
