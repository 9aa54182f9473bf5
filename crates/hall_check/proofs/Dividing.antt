-- Rows whose keys rise are divided by a key.
use Rattle.std.proofs.Common.{◌≡◌, ◌<◌, ◌+◌, ◌∙◌, ℕ, Bool, true, false, List, [], ◌∷◌, length, map, get_or}
use Rattle.std.proofs.Common.{Option, IsTrue, find, refl, sym, ap, subst, arith}
use Rattle.std.specs.Bool.{MatchBool}
use Rattle.std.specs.Cmp.{IsTotalOrder}
use Rattle.std.specs.List.{AllAdjacentBelow}
use Rattle.std.specs.List.Sorted.{IsStrictlySortedBy}
use Rattle.std.specs.Ordering.{is_eq, is_lt, ordering_reverse}
use Rattle.std.specs.declared.cmp.Ordering.{Ordering}
use Rattle.std.specs.declared.cmp.Ordering.TheVariants.{Less, Equal, Greater}
use Rattle.std.proofs.Math.ListN.{get_or-map}
use Rattle.std.proofs.lemmas.List.{length-map}
use Rattle.std.proofs.lemmas.List.Sorted.{searchable_from_sorted}
use Rattle.std.proofs.lemmas.Map.Keys.{sorted_from_all_adjacent, Less-from_sorted}
use Rattle.hall_check.specs.Halves.{IsDivided}

module _ {K X : Type 0} {R : K → K → Ordering} (o : IsTotalOrder R) (key_of : X → K) where
  -- a key is below a later one
  later : (xs : List X) → IsStrictlySortedBy R (map key_of xs) → (i j : ℕ) (d : X) → i < j → j < length xs
      → R (key_of (get_or xs i d)) (key_of (get_or xs j d)) ≡ Less
  later xs sorted i j d less within =
      ap (λ k. R k (key_of (get_or xs j d))) (sym (get_or-map key_of xs i d))
      ∙ ap (R (get_or (map key_of xs) i (key_of d))) (sym (get_or-map key_of xs j d))
      ∙ Less-from_sorted R (map key_of xs) i j (key_of d) sorted less (omega (arith, length-map xs key_of, within))

  -- and a later one is above it
  above : (a b : K) → R a b ≡ Less → R b a ≡ Greater
  above a b less = o.antisymm b a ∙ ap ordering_reverse less

  pub divided : (xs : List X) (q : K) → IsStrictlySortedBy R (map key_of xs) → IsDivided (λ x. R (key_of x) q) xs
  divided xs q sorted = record {
    rise = searchable_from_sorted o key_of xs q (λ k d _ within.
        ap is_lt (above (key_of (get_or xs k d)) (key_of (get_or xs (k + 1) d))
        (later xs sorted k (k + 1) d (omega arith) within)));
    once = λ i j d less within ties.
        let a = key_of (get_or xs i d) in
        let b = key_of (get_or xs j d) in
        o.antisymm a q ∙ ap ordering_reverse (sym (o.congr b q a ties) ∙ above a b (later xs sorted i j d less within));
  }

  -- what a look-up among the rows finds, which stand in order where it goes by halves
  pub looked_up : (q : K) (rows kept : List X) → rows ≡ kept → (found : Option X) (told : Bool)
      → (IsTrue told → IsStrictlySortedBy R (map key_of kept))
      → ((IsTrue told → IsDivided (λ x. R (key_of x) q) rows) → found ≡ find (λ x. is_eq (R (key_of x) q)) rows)
      → found ≡ find (λ x. is_eq (R (key_of x) q)) kept
  looked_up q rows kept same found told ordered finds =
      finds (λ is. subst (IsDivided (λ x. R (key_of x) q)) (sym same) (divided kept q (ordered is)))
      ∙ ap (find (λ x. is_eq (R (key_of x) q))) same

  -- rows of which each is below the next stand in order
  pub in_order : (xs : List X) → AllAdjacentBelow (λ x y. true ≡ is_lt (R (key_of x) (key_of y))) xs (length xs)
      → IsStrictlySortedBy R (map key_of xs)
  unfolding IsStrictlySortedBy
  in_order [] each = tt
  in_order (x ∷ xs) each = sorted_from_all_adjacent o (map key_of (x ∷ xs)) (key_of x) (λ k within.
      ap (λ a. R a (get_or (map key_of (x ∷ xs)) (k + 1) (key_of x))) (get_or-map key_of (x ∷ xs) k x)
      ∙ ap (R (key_of (get_or (x ∷ xs) k x))) (get_or-map key_of (x ∷ xs) (k + 1) x)
      ∙ less (R (key_of (get_or (x ∷ xs) k x)) (key_of (get_or (x ∷ xs) (k + 1) x)))
      (sym (each k x (omega (arith, within, length-map (x ∷ xs) key_of)))))
    where
      less : (r : Ordering) → is_lt r ≡ true → r ≡ Less
      less Less e = refl
      less Equal e = let no : false ≡ true = e in absurd (cc)
      less Greater e = let no : false ≡ true = e in absurd (cc)

-- a list that is told to be in order is
pub told_in_order : (A B : Type 0) (told : Bool) → told ≡ true → MatchBool told A B → A
told_in_order A B true is answer = answer
told_in_order A B false is answer = let no : false ≡ true = is in absurd (cc)
