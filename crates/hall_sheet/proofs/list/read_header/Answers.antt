use Rattle.hall_sheet.proofs.TakesHeader.{header_taken, no_header}
use Rattle.hall_sheet.proofs.list.read_header.Goals as goal

pub returns-in-Some : goal.returns-in-Some
returns-in-Some c left h =
    header_taken c.check_header.result left c.in-Some.first c.next_row.new.rows
    (rw (c.in_ok-first.was, c.in-Some.is) at (c.next_row.ensures.ok left h)) c.check_header.ensures

pub returns-in-None : goal.returns-in-None
returns-in-None c left h = no_header left (rw (c.in_ok-first.was, c.in-None.is) at (c.next_row.ensures.ok left h))
