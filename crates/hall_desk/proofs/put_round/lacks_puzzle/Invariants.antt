use Rattle.std.proofs.Common.{◌≡◌, ℕ, ◌<◌, slice_get, Some, None}
use Rattle.hall_policy.specs.declared.record.Entry.{Entry}
use Rattle.hall_store.specs.Store.{Kept}
use Rattle.std.specs.FinMap.{get}
use Rattle.hall_desk.proofs.put_round.lacks_puzzle.Given as goal

-- the world is the one before, and the puzzles of the entries so far are kept
abbrev pub invariant-loop-entry : goal.invariant-loop-entry
invariant-loop-entry g l =
    let old = g.S.ReadStore.content l.fn.store in
    let new = g.S.ReadStore.content l.store in
    record {
      kept : Kept old new;
      opened : new.honest → old.serves → new.serves;
      none : new.honest → new.serves → (i : ℕ) (entry : Entry) → i < l.entry-index → slice_get l.entries i ≡ Some entry
          → ¬ (get new.world.puzzles entry.puzzle ≡ None);
    }
