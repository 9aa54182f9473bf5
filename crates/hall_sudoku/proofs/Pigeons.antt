-- As many different values as there are leave none out.
use Rattle.std.proofs.Common.{◌≡◌, ◌≢◌, ℕ, zero, suc, ◌+◌, ◌<◌, ◌≤◌, true, false, eqb, List, ◌∷◌, length, get_or, map}
use Rattle.std.proofs.Common.{sym, ◌∙◌, inl, inr, arith}
use Rattle.std.specs.List.{range_with_len, list_any}
use Rattle.std.proofs.lemmas.Bool.{eqb-true, ne_eqb, false≢true, or_cases}
use Rattle.std.proofs.lemmas.List.FromFn.{length-map-range_with_len, get_or-map-range_with_len}
use Rattle.std.proofs.lemmas.Map.Keys.{IsDistinct-from_apart}
use Rattle.std.proofs.lemmas.Map.Steps.{length-le_from_distinct_below}

-- what is found among g a, .., g (a + m - 1) is below n, as they are
below_of : (g : ℕ → ℕ) (n a m : ℕ) → ((k : ℕ) → a ≤ k → k < a + m → g k < n) → (q : ℕ)
    → list_any (eqb q) (map g (range_with_len a m)) ≡ true → q < n
below_of g n a zero below q h = absurd (false≢true h)
below_of g n a (suc m) below q h =
    elim (or_cases (eqb q (g a)) (list_any (eqb q) (map g (range_with_len (a + 1) m))) h) [
      | inl e ↦ (let q_is : q ≡ g a = eqb-true q (g a) e in let small : g a < n = below a (omega arith) (omega arith) in
          omega arith)
      | inr rest ↦ below_of g n (a + 1) m (λ k low high. below k (omega arith) (omega arith)) q rest
    ]

module _ (n : ℕ) (g : ℕ → ℕ) (below : (k : ℕ) → k < n → g k < n) (apart : (j k : ℕ) → j < k → k < n → g j ≢ g k) (v : ℕ)
    (small : v < n) (missing : (k : ℕ) → k < n → g k ≢ v) where
  held : List ℕ
  held = map g (range_with_len 0 n)

  at : (k d : ℕ) → k < n → get_or (map g (range_with_len 0 n)) k d ≡ g k
  at k d lt = get_or-map-range_with_len g 0 n k k d lt (omega arith)

  differ : (i j d : ℕ) → i < j → j < length (v ∷ map g (range_with_len 0 n))
      → eqb (get_or (v ∷ map g (range_with_len 0 n)) i d) (get_or (v ∷ map g (range_with_len 0 n)) j d) ≡ false
  differ zero zero d lt within = absurd (omega arith)
  differ zero (suc j) d lt within =
      let in_range : j < n = omega (arith, length-map-range_with_len g 0 n) in
      ne_eqb v (get_or (map g (range_with_len 0 n)) j d) (λ e. missing j in_range (sym (at j d in_range) ∙ sym e))
  differ (suc i) zero d lt within = absurd (omega arith)
  differ (suc i) (suc j) d lt within =
      let in_range : j < n = omega (arith, length-map-range_with_len g 0 n) in
      let i_range : i < n = omega arith in
      ne_eqb _ _ (λ e. apart i j (omega arith) in_range (sym (at i d i_range) ∙ e ∙ at j d in_range))

  small_all : (q : ℕ) → list_any (eqb q) (v ∷ map g (range_with_len 0 n)) ≡ true → q < n
  small_all q h =
      elim (or_cases (eqb q v) (list_any (eqb q) (map g (range_with_len 0 n))) h) [
        | inl e ↦ (let q_is : q ≡ v = eqb-true q v e in omega arith)
        | inr rest ↦ below_of g n 0 n (λ k low high. below k (omega arith)) q rest
      ]

  -- n different values below n, and a value below n that is none of them: there is no such value
  pub no_value_missing : ⊥
  no_value_missing =
      let most : length (v ∷ map g (range_with_len 0 n)) ≤ n = length-le_from_distinct_below
      (v ∷ map g (range_with_len 0 n)) n (IsDistinct-from_apart eqb (v ∷ map g (range_with_len 0 n)) differ)
      small_all in
      omega (arith, most, length-map-range_with_len g 0 n)
