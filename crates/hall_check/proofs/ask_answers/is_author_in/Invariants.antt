use Rattle.std.proofs.Common.{◌≡◌, ℕ, ◌<◌, slice_get, Some}
use Rattle.hall_policy.specs.declared.record.Entry.{Entry}
use Rattle.hall_policy.specs.declared.record.PlaceKey.{PlaceKey}
use Rattle.hall_check.specs.Sentences.{IsBy}
use Rattle.hall_check.proofs.ask_answers.is_author_in.Given as goal

-- none of the places so far is of a puzzle by the author, in the round
abbrev pub invariant-loop-place : goal.invariant-loop-place
invariant-loop-place l = (i : ℕ) (place : PlaceKey × Entry) → i < l.place-index
    → slice_get l.whole.places.items i ≡ Some place → ¬ (IsBy l.author l.round place)
