use Rattle.std.proofs.Common.{◌≡◌, ℕ, ◌<◌, slice_get, Some}
use Rattle.hall_policy.specs.declared.record.Entry.{Entry}
use Rattle.hall_policy.specs.declared.record.PlaceKey.{PlaceKey}
use Rattle.hall_check.specs.Sentences.{IsElsewhere}
use Rattle.hall_check.specs.Whole.{world_of_whole}
use Rattle.hall_check.proofs.ask_places.is_in_another.Given as goal

-- none of the places so far is of the same puzzle in another released round
abbrev pub invariant-loop-other : goal.invariant-loop-other
invariant-loop-other l = (i : ℕ) (other : PlaceKey × Entry) → i < l.other-index
    → slice_get l.whole.places.items i ≡ Some other → ¬ (IsElsewhere (world_of_whole l.whole) l.place other)
