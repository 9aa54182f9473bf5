use Rattle.hall_sheet.proofs.HasLeft.{row_taken, none_left}
use Rattle.hall_sheet.proofs.list.next_row.Goals as goal

pub returns-in-Some-Ok-clause-ok : goal.returns-in-Some-Ok-clause-ok
returns-in-Some-Ok-clause-ok c left h =
    row_taken c.args.rows.now c.next.new.self left c.in-Some-Ok.row h
    (rw (c.in-Some-Ok.is, c.in-Some-Ok.field-0-is) at ((c.next.ensures.steps h.turns h.trim).0 h.ready))

pub returns-clause-ok : goal.returns-clause-ok
returns-clause-ok c left h =
    none_left c.args.rows.now c.next.new.self left h (rw c.in-None.is at
    ((c.next.ensures.steps h.turns h.trim).0 h.ready))
