use Rattle.std.proofs.Common.{[]}
use Rattle.std.proofs.lemmas.Result.{err_from_is_err_and}
use Rattle.hall_sheet.specs.People.{people_from}
use Rattle.hall_sheet.proofs.PeopleIn.{gone_on, refused, ended}
use Rattle.hall_sheet.proofs.list.read_rows.Goals as goal

pub loop-row-preserved : goal.loop-row-preserved
loop-row-preserved c left has =
    let k = c.loop-row.invariant left has in
    gone_on (people_from [] left) c.loop-row.rows c.next_row.new.rows c.loop-row.people.items c.add_row.new.people.items
    c.in-Some.row k
    (rw (c.in_ok-row.was, c.in-Some.is) at (c.next_row.ensures.ok k.left k.has))
    (rw c.in_ok-add_row.was at c.add_row.ensures)

pub returns-in_err-add_row : goal.returns-in_err-add_row
returns-in_err-add_row c left has =
    let k = c.loop-row.invariant left has in
    let read = refused (people_from [] left) c.loop-row.rows c.next_row.new.rows c.loop-row.people.items
    c.add_row.new.people.items c.in-Some.row _ k
    (rw (c.in_ok-row.was, c.in-Some.is) at (c.next_row.ensures.ok k.left k.has))
    (rw c.in_err-add_row.was at c.add_row.ensures) in
    let p = err_from_is_err_and c.from_residual-in_err-add_row.result c.from_residual-in_err-add_row.ensures.1 in
    rw (p.1, p.2) read

pub returns : goal.returns
returns c left has =
    let k = c.loop-row.invariant left has in
    ended (people_from [] left) c.loop-row.rows c.next_row.new.rows c.loop-row.people.items k
    (rw (c.in_ok-row.was, c.in_default.is) at (c.next_row.ensures.ok k.left k.has))
