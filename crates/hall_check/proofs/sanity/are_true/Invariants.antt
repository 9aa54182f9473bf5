use Rattle.std.proofs.Common.{◌≡◌, ℕ, ◌<◌, [], slice_get, Some}
use Rattle.hall_check.specs.declared.sentence.Breaches.{Breaches}
use Rattle.hall_check.proofs.sanity.are_true.Given as goal

-- so far none was found false
abbrev pub invariant-loop-found : goal.invariant-loop-found
invariant-loop-found l = (i : ℕ) (found : Breaches) → i < l.found-index → slice_get l.told i ≡ Some found
    → found.first.items ≡ []
