use Rattle.std.proofs.Common.{◌≡◌, ℕ, ◌<◌, slice_get, Some}
use Rattle.hall_policy.specs.declared.record.Person.{Person}
use Rattle.hall_store.specs.Store.{Kept}
use Rattle.hall_policy.specs.Rules.{Conflicts}
use Rattle.hall_desk.proofs.import.any_conflict.Given as goal

-- the world is the one before, and none of the people so far contradicts what is known
abbrev pub invariant-loop-person : goal.invariant-loop-person
invariant-loop-person g l =
    let old = g.S.ReadStore.content l.fn.store in
    let new = g.S.ReadStore.content l.store in
    record {
      kept : Kept old new;
      opened : new.honest → old.serves → new.serves;
      none : new.honest → new.serves → (i : ℕ) (person : Person) → i < l.person-index
          → slice_get l.people i ≡ Some person → ¬ (Conflicts new.world person);
    }
