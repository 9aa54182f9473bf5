use Rattle.std.proofs.lemmas.Result.{IfOk-from_err}
use Rattle.hall_solve.proofs.partial.Partial.new.Goals as goal

pub returns-in_err-vec-clause-list : goal.returns-in_err-vec-clause-list
returns-in_err-vec-clause-list c = IfOk-from_err c.from_residual.result _ c.from_residual.ensures.0

pub returns-in_err-vec-clause-trail : goal.returns-in_err-vec-clause-trail
returns-in_err-vec-clause-trail c = IfOk-from_err c.from_residual.result _ c.from_residual.ensures.0

pub returns-in_err-vec-clause-trailed : goal.returns-in_err-vec-clause-trailed
returns-in_err-vec-clause-trailed c = IfOk-from_err c.from_residual.result _ c.from_residual.ensures.0

pub returns-in_err-vec-clause-len : goal.returns-in_err-vec-clause-len
returns-in_err-vec-clause-len c = IfOk-from_err c.from_residual.result _ c.from_residual.ensures.0

pub returns-in_err-vec-clause-unset : goal.returns-in_err-vec-clause-unset
returns-in_err-vec-clause-unset c = IfOk-from_err c.from_residual.result _ c.from_residual.ensures.0

pub returns-in_err-with_capacity-clause-list : goal.returns-in_err-with_capacity-clause-list
returns-in_err-with_capacity-clause-list c = IfOk-from_err c.from_residual-in_err-with_capacity.result _
    c.from_residual-in_err-with_capacity.ensures.0

pub returns-in_err-with_capacity-clause-trail : goal.returns-in_err-with_capacity-clause-trail
returns-in_err-with_capacity-clause-trail c = IfOk-from_err c.from_residual-in_err-with_capacity.result _
    c.from_residual-in_err-with_capacity.ensures.0

pub returns-in_err-with_capacity-clause-trailed : goal.returns-in_err-with_capacity-clause-trailed
returns-in_err-with_capacity-clause-trailed c = IfOk-from_err c.from_residual-in_err-with_capacity.result _
    c.from_residual-in_err-with_capacity.ensures.0

pub returns-in_err-with_capacity-clause-len : goal.returns-in_err-with_capacity-clause-len
returns-in_err-with_capacity-clause-len c = IfOk-from_err c.from_residual-in_err-with_capacity.result _
    c.from_residual-in_err-with_capacity.ensures.0

pub returns-in_err-with_capacity-clause-unset : goal.returns-in_err-with_capacity-clause-unset
returns-in_err-with_capacity-clause-unset c = IfOk-from_err c.from_residual-in_err-with_capacity.result _
    c.from_residual-in_err-with_capacity.ensures.0
