use Rattle.std.proofs.Common.{sym}
use Rattle.hall_check.proofs.Halving.{halved_here, halved_none}
use Rattle.hall_check.proofs.halves.find_by.Goals as goal

pub returns-in-Ok : goal.returns-in-Ok
returns-in-Ok g c = λ order computes divided.
    sym (halved_here order c.args.rows.now (divided c.if-not-in_order.false) c.in-Ok.at c.index-rows-at.result
    c.in-Ok.ensures.bound (c.in-Ok.ensures.position order computes) c.index-rows-at.is)

pub returns-in-Err : goal.returns-in-Err
returns-in-Err g c = λ order computes divided.
    sym (halved_none order c.args.rows.now (divided c.if-not-in_order.false) c.in-Err.field-0
    (c.in-Err.ensures.position order computes))
