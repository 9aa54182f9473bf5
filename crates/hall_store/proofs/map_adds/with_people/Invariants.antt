use Rattle.std.proofs.Common.{◌≡◌, drop}
use Rattle.std.specs.FinMap.{from_entries}
use Rattle.hall_store.specs.Change.{with_people}
use Rattle.hall_store.proofs.map_adds.with_people.Given as goal

-- what the rest of the list makes of the people so far is what the whole makes of those known
abbrev pub invariant-loop-person : goal.invariant-loop-person
invariant-loop-person l = with_people (from_entries l.people.entries) (drop l.person-index l.list) ≡ with_people
    (from_entries l.fn.known.entries) l.list
