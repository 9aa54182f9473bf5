use Rattle.std.proofs.Common.{◌-◌, [], List, ℕ, length}
use Rattle.hall_policy.specs.Limits.{most_people}
use Rattle.hall_sheet.specs.List.{HasLeft}
use Rattle.hall_sheet.specs.People.{people_from}
use Rattle.hall_sheet.proofs.PeopleIn.{Kept}
use Rattle.hall_sheet.proofs.list.read_rows.Given as goal

abbrev pub invariant-loop-row : goal.invariant-loop-row
invariant-loop-row l =
    (left : List (List (List ℕ))) → HasLeft l.fn.rows left → Kept (people_from [] left) l.rows l.people.items

-- each row adds a person, and there are at most so many
abbrev pub decreases-loop-row : goal.decreases-loop-row
decreases-loop-row l = most_people - length l.people.items
