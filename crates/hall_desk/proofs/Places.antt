-- The places of the searches under way, as one of them is changed.
use Rattle.std.proofs.Common.{◌≡◌, ◌≢◌, ◌⊎◌, ◌∙◌, sym, refl, subst, arith, ℕ, zero, suc, ◌<◌, ◌==◌, inl, inr, List}
use Rattle.std.proofs.Common.{[], ◌∷◌, ◌++◌, length, get_or, Option, Some, None, true, false}
use Rattle.std.specs.Prelude.{Bool, slice_set, IfSome}
use Rattle.std.proofs.lemmas.Bool.{eqb-true, eqb-false}
use Rattle.std.proofs.lemmas.List.{get_or-set_same, get_or-set_other, length-set}
use Rattle.hall_desk.specs.Searches.{IsAt, AreUnderWay, IsFreeFor}
use Rattle.hall_desk.specs.declared.under_way.Underway.{Underway}

-- none stands anywhere, also where one more place is
pub none_more : (xs : List (Option Underway)) → ((i : ℕ) → get_or xs i None ≡ None) → (i : ℕ)
    → get_or (xs ++ None ∷ []) i None ≡ None
none_more [] none zero = refl
none_more [] none (suc i) = refl
none_more (x ∷ xs) none zero = none zero
none_more (x ∷ xs) none (suc i) = none_more xs (λ j. none (suc j)) i

-- within a list an element doesn't hang on what stands past its end
pub element : {X : Type 0} (xs : List X) (i : ℕ) (d e : X) → i < length xs → get_or xs i d ≡ get_or xs i e
element [] i d e inside = absurd (omega arith)
element (x ∷ xs) zero d e inside = refl
element (x ∷ xs) (suc i) d e inside = element xs i d e (omega arith)

module _ (xs : List (Option Underway)) (place : ℕ) (v : Option Underway) (inside : place < length xs) where
  by_test : (other : ℕ) (a : Underway) (b : Bool) → (other == place) ≡ b → IsAt (slice_set xs place v) other a →
      ((other ≡ place) × (v ≡ Some a)) ⊎ ((other ≢ place) × IsAt xs other a)
  by_test other a true e at =
      let same : other ≡ place = eqb-true _ _ e in
      inl (same, sym (get_or-set_same xs place v None inside) ∙ (rw same at at))
  by_test other a false e at =
      let differs : other ≢ place = eqb-false _ _ e in
      inr (differs, sym (get_or-set_other xs place other v None differs) ∙ at)

  -- what is under way after a place was changed
  pub where_is : (other : ℕ) (a : Underway) → IsAt (slice_set xs place v) other a → ((other ≡ place) × (v ≡ Some a))
      ⊎ ((other ≢ place) × IsAt xs other a)
  where_is other a at = by_test other a (other == place) refl at

  -- the places stay as they must be, where what is put there is for no other's key
  pub still_under_way : AreUnderWay xs → ((a : Underway) → v ≡ Some a → IsFreeFor xs a.key place)
      → AreUnderWay (slice_set xs place v)
  still_under_way were free = record {
    eight = length-set xs place v ∙ were.eight;
    alone = λ i j a b at there same. elim (where_is i a at) [
      | inl first ↦ elim (where_is j b there) [
        | inl second ↦ first.0 ∙ sym second.0
        | inr second ↦ first.0 ∙ sym (free a first.1 j b second.1 (sym same))
      ]
      | inr first ↦ elim (where_is j b there) [
        | inl second ↦ free b second.1 i a first.1 same ∙ sym second.0
        | inr second ↦ were.alone i j a b first.1 second.1 same
      ]
    ];
  }

-- a place that is made free leaves the key of what stood there to it
pub freed_for : (xs : List (Option Underway)) (place : ℕ) (a : Underway) → AreUnderWay xs → place < length xs
    → IsAt xs place a → IsFreeFor (slice_set xs place None) a.key place
freed_for xs place a were inside at other b there same = elim (where_is xs place None inside other b there) [
  | inl here ↦ here.0
  | inr besides ↦ were.alone other place b a besides.1 at same
]

-- what was at the place when it was made free
pub read_at : (xs : List (Option Underway)) (i : ℕ) (o w : Option Underway) → i < length xs → o ≡ get_or xs i o → w ≡ o
    → get_or xs i None ≡ w
read_at xs i o w inside is same = element xs i None o inside ∙ sym is ∙ sym same

pub taken_free : (xs : List (Option Underway)) (place : ℕ) (found left : Option Underway) → AreUnderWay xs
    → place < length xs → get_or xs place None ≡ found → left ≡ None →
    IfSome found (λ a. IsFreeFor (slice_set xs place left) a.key place)
taken_free xs place None left were inside at none = tt
taken_free xs place (Some a) left were inside at none =
    subst (λ (o : Option Underway). IsFreeFor (slice_set xs place o) a.key place) (sym none)
    (freed_for xs place a were inside at)

-- what is put to the place is for no other's key
pub put_free : (xs now : List (Option Underway)) (place : ℕ) (v : Option Underway) (put : Underway) → xs ≡ now
    → v ≡ Some put → IsFreeFor now put.key place →
    (a : Underway) → v ≡ Some a → IsFreeFor xs a.key place
put_free xs now place v put same is free a at =
    let both : Some put ≡ Some a = sym is ∙ at in
    let one : put ≡ a = cc in
    subst (λ (b : Underway). IsFreeFor xs b.key place) one (subst (λ ys. IsFreeFor ys put.key place) (sym same) free)

-- none is under way where none stands
pub none_at : (xs : List (Option Underway)) → ((i : ℕ) → get_or xs i None ≡ None) → (i : ℕ) (a : Underway)
    → ¬ (IsAt xs i a)
none_at xs none i a at = let no : None ≡ Some a = sym (none i) ∙ at in absurd (cc)

pub none_under_way : (xs : List (Option Underway)) → length xs ≡ 8 → ((i : ℕ) → get_or xs i None ≡ None)
    → AreUnderWay xs
none_under_way xs eight none = record {
  eight = eight;
  alone = λ i j a b at there same. absurd (none_at xs none i a at);
}
