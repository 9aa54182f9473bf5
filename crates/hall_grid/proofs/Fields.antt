-- The first place of a byte.
use Rattle.std.proofs.Common.{◌≡◌, ℕ, ◌<◌, ◌≤◌, Bool, List, length, Some, None, inl, inr, arith, nat_lt}
use Rattle.std.proofs.lemmas.Bool.Decides.{nat_tests}
use Rattle.std.specs.List.{position, position_or_len}
use Rattle.hall_grid.proofs.Number16Form.{chosen}

pub position_at : (p : ℕ → Bool) (xs : List ℕ) (i : ℕ)
    → position p xs ≡ Some i
    → (position_or_len p xs ≡ i) × (i < length xs)
position_at p xs i e =
    elim (chosen (nat_lt (position_or_len p xs) (length xs)) _ _ (Some i) e) [
      | inl h ↦ let same : position_or_len p xs ≡ i = let k = h.1 in cc in
          (same, (let low : position_or_len p xs < length xs = let t = h.0 in grind (arith, nat_tests) in omega arith))
      | inr h ↦ let k = h.1 in absurd (cc)
    ]

pub position_past : (p : ℕ → Bool) (xs : List ℕ) → position p xs ≡ None → length xs ≤ position_or_len p xs
position_past p xs e =
    elim (chosen (nat_lt (position_or_len p xs) (length xs)) _ _ None e) [
      | inl h ↦ let k = h.1 in absurd (cc)
      | inr h ↦ let t = h.0 in grind (arith, nat_tests)
    ]
