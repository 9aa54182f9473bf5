use Rattle.std.proofs.lemmas.Result.{IfOk-from_err}
use Rattle.hall_store.proofs.map_reads.all_people.Goals as goal

pub returns-in_err-clone-clause-people : goal.returns-in_err-clone-clause-people
returns-in_err-clone-clause-people c = IfOk-from_err c.from_residual.result _ c.from_residual.ensures.0

pub returns-in_err-push-clause-people : goal.returns-in_err-push-clause-people
returns-in_err-push-clause-people c = IfOk-from_err c.from_residual-in_err-push.result _
    c.from_residual-in_err-push.ensures.0
