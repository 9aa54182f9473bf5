use Rattle.std.proofs.Common.{◌≡◌, ℕ, ◌<◌, List, true, slice_get, Some}
use Rattle.hall_policy.specs.Rules.{may_test}
use Rattle.hall_store.specs.Store.{Kept}
use Rattle.std.specs.FinMap.{get}
use Rattle.hall_desk.proofs.put_round.lacks_tester.Given as goal

-- the world is the one before, and the people of the names so far may test
abbrev pub invariant-loop-name : goal.invariant-loop-name
invariant-loop-name g l =
    let old = g.S.ReadStore.content l.fn.store in
    let new = g.S.ReadStore.content l.store in
    record {
      kept : Kept old new;
      opened : new.honest → old.serves → new.serves;
      able : new.honest → new.serves → (i : ℕ) (name : List ℕ) → i < l.name-index → slice_get l.names i ≡ Some name
          → may_test (get new.world.people name) ≡ true;
    }
