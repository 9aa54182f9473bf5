-- What a search from the front finds, and what one by halves does.
use Rattle.std.proofs.Common.{◌≡◌, ◌<◌, ◌+◌, ◌∙◌, ℕ, Bor, suc, zero, Bool, true, false, List, [], ◌∷◌, length, get_or}
use Rattle.std.proofs.Common.{cond, find}
use Rattle.std.proofs.Common.{Some, None, Ok, Err, inl, inr, refl, sym, ap, arith}
use denote.Param.Members.{Mut}
use Rattle.std.specs.Fn.{Called, ComputesKey}
use Rattle.std.proofs.lemmas.List.{get_or_default}
use Rattle.std.specs.List.Sorted.{IsBinarySearchResult}
use Rattle.std.proofs.lemmas.Bool.{cases_lt}
use Rattle.std.specs.Ordering.{is_eq}
use Rattle.std.specs.declared.cmp.Ordering.{Ordering}
use Rattle.hall_check.specs.Halves.{IsDivided}

module _ {X : Type 0} (p : X → Bool) where
  -- the first that passes is found
  pub find_here : (xs : List X) (i : ℕ) (d : X) → i < length xs → p (get_or xs i d) ≡ true
      → ((j : ℕ) → j < i → p (get_or xs j d) ≡ false) → find p xs ≡ Some (get_or xs i d)
  find_here [] i d within here before = absurd (omega (arith, within))
  find_here (x ∷ xs) zero d within here before = ap (λ b. cond b (Some x) (find p xs)) here
  find_here (x ∷ xs) (suc i) d within here before =
      ap (λ b. cond b (Some x) (find p xs)) (before 0 (omega arith))
      ∙ find_here xs i d (omega (arith, within)) here (λ j less. before (suc j) (omega (arith, less)))

  -- where none passes, none is found
  pub find_none : (xs : List X) → ((j : ℕ) (d : X) → j < length xs → p (get_or xs j d) ≡ false) → find p xs ≡ None
  find_none [] none = refl
  find_none (x ∷ xs) none =
      ap (λ b. cond b (Some x) (find p xs)) (none 0 x (omega arith))
      ∙ find_none xs (λ j d less. none (suc j) d (omega (arith, less)))

module _ {X : Type 0} (order : X → Ordering) (xs : List X) (divided : IsDivided order xs) where
  -- a search by halves that ends at a row has found the first that ties
  pub halved_here : (i : ℕ) (x : X) → i < length xs → IsBinarySearchResult order xs (Ok i) → x ≡ get_or xs i x
      → find (λ row. is_eq (order row)) xs ≡ Some x
  halved_here i x within ties here =
      find_here (λ row. is_eq (order row)) xs i x within (ap is_eq (ties x))
      (λ j less. ap is_eq (divided.once j i x less within (ties x)))
      ∙ ap Some (sym here)

  -- one that ends between rows has found that none ties
  pub halved_none : (i : ℕ) → IsBinarySearchResult order xs (Err i) → find (λ row. is_eq (order row)) xs ≡ None
  halved_none i parts =
      find_none (λ row. is_eq (order row)) xs (λ j d less. elim (cases_lt j i) [
        | inl below ↦ ap is_eq ((parts divided.rise).0 j d (omega arith) below)
        | inr above ↦ ap is_eq ((parts divided.rise).1 j d above less)
      ])

-- what a call of a comparison gave
pub answered : {F X K : Type 0} (g : Mut F (Bor X × Unit {0}) K) (key : X → K) (f : F) (a : Bor X × Unit {0}) (r : K)
    (f' : F) → Called g f a r f' → ComputesKey g key f → r ≡ key a.0.now
answered g key f a r f' called computes = (computes.at (a ∷ []) r f' called).0

-- none of the rows so far passes, and neither does the next
pub none_more : {X : Type 0} (p : X → Bool) (xs : List X) (i : ℕ) (x : X) → i < length xs → x ≡ get_or xs i x
    → p x ≡ false → ((j : ℕ) (d : X) → j < i → p (get_or xs j d) ≡ false)
    → (j : ℕ) (d : X) → j < i + 1 → p (get_or xs j d) ≡ false
none_more p xs i x within is fails before j d less = elim (cases_lt j i) [
  | inl below ↦ before j d below
  | inr above ↦
      let same : j ≡ i = omega (arith, less, above) in
      ap (λ n. p (get_or xs n d)) same ∙ ap p (get_or_default xs i d x within ∙ sym is) ∙ fails
]
