use Rattle.std.proofs.Common.{◌≡◌, ◌≤◌, take}
use Rattle.hall_store.specs.Store.{Kept}
use Rattle.hall_desk.specs.Step.{unknown_people}
use Rattle.hall_desk.proofs.import.count_unknown.Given as goal

-- the world is the one before, and the count counts the people so far whose names are unknown
abbrev pub invariant-loop-person : goal.invariant-loop-person
invariant-loop-person g l =
    let old = g.S.ReadStore.content l.fn.store in
    let new = g.S.ReadStore.content l.store in
    record {
      kept : Kept old new;
      opened : new.honest → old.serves → new.serves;
      few : l.count ≤ l.person-index;
      counted : new.honest → new.serves → l.count ≡ unknown_people new.world (take l.person-index l.people);
    }
