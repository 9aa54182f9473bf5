use Rattle.std.proofs.Common.{◌≡◌, ℕ, ◌<◌, slice_get, Some}
use Rattle.hall_policy.specs.declared.record.Entry.{Entry}
use Rattle.hall_store.specs.Store.{Kept}
use Rattle.hall_desk.specs.Lookups.{HasFault}
use Rattle.hall_desk.proofs.release_faults.any_faulty.Given as goal

-- the world is the one before, and none of the entries so far has the fault
abbrev pub invariant-loop-entry : goal.invariant-loop-entry
invariant-loop-entry g l =
    let old = g.S.ReadStore.content l.fn.store in
    let new = g.S.ReadStore.content l.store in
    record {
      kept : Kept old new;
      opened : new.honest → old.serves → new.serves;
      none : new.honest → new.serves → (i : ℕ) (entry : Entry) → i < l.entry-index → slice_get l.entries i ≡ Some entry
          → ¬ (HasFault l.fault new.world l.id entry);
    }
