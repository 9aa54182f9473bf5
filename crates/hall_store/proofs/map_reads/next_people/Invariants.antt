use Rattle.std.proofs.Common.{◌≡◌, ◌++◌, ◌-◌, length, take}
use Rattle.std.specs.List.{filter}
use Rattle.std.specs.Map.{values_of}
use Rattle.hall_store.specs.Store.{is_after, people_at_once}
use Rattle.hall_store.proofs.map_reads.next_people.Given as goal

-- the people so far, and as many of the rest as may still come, are those asked for
abbrev pub invariant-loop-person : goal.invariant-loop-person
invariant-loop-person l =
    take people_at_once (values_of (filter (λ entry. is_after l.fn.after entry.0) l.fn.people.entries))
    ≡ l.next.items ++ take (people_at_once - length l.next.items) (values_of l.person-iterator)
