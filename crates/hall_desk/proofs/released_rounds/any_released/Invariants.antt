use Rattle.std.proofs.Common.{◌≡◌, ℕ, List, ◌<◌, slice_get, Some}
use Rattle.hall_store.specs.Store.{Kept}
use Rattle.hall_desk.specs.Lookups.{IsReleasedRound}
use Rattle.hall_desk.proofs.released_rounds.any_released.Given as goal

-- the world is the one before, and none of the rounds so far is released
abbrev pub invariant-loop-id : goal.invariant-loop-id
invariant-loop-id g l =
    let old = g.S.ReadStore.content l.fn.store in
    let new = g.S.ReadStore.content l.store in
    record {
      kept : Kept old new;
      opened : new.honest → old.serves → new.serves;
      none : new.honest → new.serves → (i : ℕ) (id : List ℕ) → i < l.id-index → slice_get l.ids i ≡ Some id
          → ¬ (IsReleasedRound new.world id);
    }
