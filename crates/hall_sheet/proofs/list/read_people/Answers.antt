use Rattle.std.proofs.Common.{[], sym, subst}
use Rattle.hall_sheet.specs.Given.{Gives}
use Rattle.hall_sheet.specs.People.{people_from}
use Rattle.hall_sheet.proofs.list.read_people.Goals as goal

pub returns : goal.returns
returns c =
    let taken = rw c.in_ok-read_header.was at (c.read_header.ensures _ c.rows_of-rows.ensures) in
    subst (λ all. Gives (λ people. people) c.unless_repeated.result all) (sym taken.2)
    (c.unless_repeated.ensures (people_from [] taken.0) (c.read_rows-read.ensures taken.0 taken.1))
