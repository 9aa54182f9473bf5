-- What a finite map has at each key once a row was inserted.
use Rattle.std.proofs.Common.{◌≡◌, ◌≢◌, ◌⊎◌, inl, inr, Some, None, refl, sym, ap, ◌∙◌, subst}
use Rattle.std.specs.Cmp.{IsTotalOrder, tied_itself}
use Rattle.std.specs.declared.cmp.Ordering.{Ordering}
use Rattle.std.specs.declared.cmp.Ordering.TheVariants.{Less, Equal, Greater}
use Rattle.std.specs.FinMap.{FinMap, IsAntisymmetric, get, insert}
use Rattle.hall_policy.proofs.Maps.{get-insert_same, get-insert_other}

module _ {K : Type 0} {R : K → K → Ordering} (o : IsTotalOrder R) (same : IsAntisymmetric R) where
  -- two keys are one, or they are not: their order tells
  pub keys_apart : (a b : K) → (a ≡ b) ⊎ (a ≢ b)
  keys_apart a b = elim (R a b) as (λ r. R a b ≡ r → (a ≡ b) ⊎ (a ≢ b)) [
    | Less ↦ λ e. inr (λ s. let no : Less ≡ Equal = sym e ∙ subst (λ x. R a x ≡ Equal) s (tied_itself o a) in cc)
    | Equal ↦ λ e. inl (same a b e)
    | Greater ↦ λ e. inr (λ s. let no : Greater ≡ Equal = sym e ∙ subst (λ x. R a x ≡ Equal) s (tied_itself o a) in cc)
  ] refl

module _ {K X : Type 0} {R : K → K → Ordering} (o : IsTotalOrder R) (same : IsAntisymmetric R) (m : FinMap R X) (k : K)
    (v : X) where
  -- what is found is the row that was inserted, or stood there before under another key
  pub found_after : (q : K) (w : X) → get (insert m k v) q ≡ Some w → ((q ≡ k) × (w ≡ v))
      ⊎ ((q ≢ k) × (get m q ≡ Some w))
  found_after q w found = elim (keys_apart o same q k) [
    | inl own ↦ inl (
      own,
      let at : Some v ≡ Some w = sym (get-insert_same o m k v) ∙ ap (get (insert m k v)) (sym own)
          ∙ found in let e : v ≡ w = cc in sym e,
    )
    | inr other ↦ inr (other, sym (get-insert_other o same m k v q other) ∙ found)
  ]

  -- what stands under another key stays
  pub others_stay : (q : K) (w : X) → q ≢ k → get m q ≡ Some w → get (insert m k v) q ≡ Some w
  others_stay q w other found = get-insert_other o same m k v q other ∙ found

  -- the row stands under its key
  pub inserted_there : (q : K) → q ≡ k → get (insert m k v) q ≡ Some v
  inserted_there q own = ap (get (insert m k v)) own ∙ get-insert_same o m k v

  -- no key is lost
  pub still_there : (q : K) → get m q ≢ None → get (insert m k v) q ≢ None
  still_there q there none = elim (keys_apart o same q k) [
    | inl own ↦ let no : Some v ≡ None = sym (inserted_there q own) ∙ none in cc
    | inr other ↦ there (sym (get-insert_other o same m k v q other) ∙ none)
  ]
