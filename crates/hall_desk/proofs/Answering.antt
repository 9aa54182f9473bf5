-- What a test leaves of a list, and what is found in one.
use Rattle.std.proofs.Common.{◌≡◌, ◌&&◌, ℕ, zero, suc, Bool, true, false, cond, List, [], ◌∷◌, Some, None}
use Rattle.std.proofs.Common.{Contains, refl, sym, ap, ◌∙◌, subst, arith, slice_get}
use Rattle.std.specs.List.{filter, find}
use Rattle.std.specs.Cmp.{IsTotalOrder}
use Rattle.std.specs.FinMap.{FinMap, get, values}
use Rattle.std.specs.declared.cmp.Ordering.{Ordering}
use Rattle.std.proofs.lemmas.Option.{slice_get_within, slice_get-get_or, get_or_from_slice_get}
use Rattle.hall_policy.proofs.Maps.{get_of_value}

and_first : (a b : Bool) → (a && b) ≡ true → a ≡ true
and_first true b h = refl
and_first false b h = h

and_second : (a b : Bool) → (a && b) ≡ true → b ≡ true
and_second true b h = h
and_second false b h = let no : false ≡ true = h in cc

and_both : (a b : Bool) → a ≡ true → b ≡ true → (a && b) ≡ true
and_both a b p q = cc (ap (λ (x : Bool). x && b) p)

-- ---- lists

-- what passes a test and is in a list is in what the test leaves
pub Contains-filter : {X : Type 0} (q : X → Bool) (xs : List X) (x : X) → Contains xs x → q x ≡ true → (i : ℕ)
    × (slice_get (filter q xs) i ≡ Some x)
Contains-filter q [] x (i, l, e) h = absurd (omega arith)
Contains-filter q (y ∷ ys) x (zero, l, e) h =
    let same : y ≡ x = e in (
      0,
      subst (λ z. slice_get (cond (q z) (z ∷ filter q ys) (filter q ys)) 0 ≡ Some x) (sym same)
          (ap (λ (b : Bool). slice_get (cond b (x ∷ filter q ys) (filter q ys)) 0) h),
    )
Contains-filter q (y ∷ ys) x (suc i, l, e) h =
    let rest = Contains-filter q ys x (i, omega arith, e) h in
    elim (q y) as (λ b. (j : ℕ) × (slice_get (cond b (y ∷ filter q ys) (filter q ys)) j ≡ Some x))
    [ true ↦ (suc rest.0, rest.1) | false ↦ rest ]

-- what a test leaves passes it, and is in the list
pub filter-Contains : {X : Type 0} (q : X → Bool) (xs : List X) (x : X) (i : ℕ) → slice_get (filter q xs) i ≡ Some x
    → (j : ℕ) × (slice_get xs j ≡ Some x) × (q x ≡ true)
filter-Contains q [] x i h = let no : None ≡ Some x = h in absurd (cc)
filter-Contains q (y ∷ ys) x i h =
    elim (q y) as (λ b. q y ≡ b → slice_get (cond b (y ∷ filter q ys) (filter q ys)) i ≡ Some x → (j : ℕ)
    × (slice_get (y ∷ ys) j ≡ Some x) × (q x ≡ true)) [
      | true ↦ λ e. elim i as (λ n. slice_get (y ∷ filter q ys) n ≡ Some x → (j : ℕ) × (slice_get (y ∷ ys) j ≡ Some x)
          × (q x ≡ true)) [
            | zero ↦ λ f. let same : y ≡ x = cc in (0, f, subst (λ z. q z ≡ true) same e)
            | suc n ↦ λ f. let r = filter-Contains q ys x n f in (suc r.0, r.1, r.2)
          ]
      | false ↦ λ e f. let r = filter-Contains q ys x i f in (suc r.0, r.1, r.2)
    ] refl h

-- what is found passes the test and is in the list
pub find-Contains : {X : Type 0} (p : X → Bool) (xs : List X) (x : X) → find p xs ≡ Some x → (j : ℕ)
    × (slice_get xs j ≡ Some x) × (p x ≡ true)
find-Contains p [] x h = let no : None ≡ Some x = h in absurd (cc)
find-Contains p (y ∷ ys) x h =
    elim (p y) as (λ b. p y ≡ b → cond b (Some y) (find p ys) ≡ Some x → (j : ℕ) × (slice_get (y ∷ ys) j ≡ Some x)
    × (p x ≡ true)) [
      | true ↦ λ e f. let same : y ≡ x = cc in (0, f, subst (λ z. p z ≡ true) same e)
      | false ↦ λ e f. let r = find-Contains p ys x f in (suc r.0, r.1, r.2)
    ] refl h

-- where nothing is found, nothing in the list passes
pub find-None : {X : Type 0} (p : X → Bool) (xs : List X) → find p xs ≡ None → (x : X) (j : ℕ) → slice_get xs j ≡ Some x
    → p x ≡ false
find-None p [] h x j e = let no : None ≡ Some x = e in absurd (cc)
find-None p (y ∷ ys) h x j e =
    elim (p y) as (λ b. p y ≡ b → cond b (Some y) (find p ys) ≡ None → p x ≡ false) [
      | true ↦ λ t f. let no : Some y ≡ None = f in absurd (cc)
      | false ↦ λ t f. elim j as (λ n. slice_get (y ∷ ys) n ≡ Some x → p x ≡ false) [
        | zero ↦ λ g. let same : y ≡ x = cc in subst (λ z. p z ≡ false) same t
        | suc n ↦ λ g. find-None p ys f x n g
      ] e
    ] refl h

contained : {X : Type 0} (xs : List X) (x : X) (j : ℕ) → slice_get xs j ≡ Some x → Contains xs x
contained xs x j e = (j, slice_get_within xs j x e, get_or_from_slice_get xs j x x e)

placed : {X : Type 0} (xs : List X) (x : X) → Contains xs x → (j : ℕ) × (slice_get xs j ≡ Some x)
placed xs x h = (h.0, slice_get-get_or xs h.0 x h.1 ∙ ap Some h.2)

-- a value of a map that a test finds passes it and stands under a key
pub find-value : {K X : Type 0} {R : K → K → Ordering} → IsTotalOrder R → (p : X → Bool) (m : FinMap R X) (x : X)
    → find p (values m) ≡ Some x → (k : K) × (get m k ≡ Some x) × (p x ≡ true)
find-value o p m x found =
    let at = find-Contains p (values m) x found in
    let under = get_of_value o m x (contained (values m) x at.0 at.1) in
    (under.0, under.1, at.2)
