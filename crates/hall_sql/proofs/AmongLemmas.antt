-- The values of a table's map, what a query leaves of them, and whether it leaves any.
use Rattle.std.proofs.Common.{◌≡◌, ◌≤◌, ◌↔◌, ◌==◌, not, ℕ, zero, suc, length, List, [], ◌∷◌, map, filter, find, Bool}
use Rattle.std.proofs.Common.{true, false, cond, IsTrue, Option, Some, None, option_map, Contains, slice_get, refl, sym}
use Rattle.std.proofs.Common.{ap, subst, ◌∙◌, arith}
use Rattle.std.proofs.lemmas.Bool.Decides.{nat_tests}
use Rattle.std.proofs.lemmas.Option.{slice_get-map}
use Rattle.std.specs.Cmp.{IsTotalOrder}
use Rattle.std.specs.declared.cmp.Ordering.{Ordering}
use Rattle.std.specs.List.{count_by}
use Rattle.std.specs.List.Sorted.{IsPermutation}
use Rattle.std.specs.FinMap.{IsAntisymmetric, get, values}
use Rattle.std.proofs.lemmas.List.Sorted.{IsPermutation-sym, Contains-permutation, length_permutation}
use Rattle.std.proofs.lemmas.List.Sums.{length-filter}
use Rattle.sqlite.specs.Order.{Row}
use Rattle.sqlite.proofs.Callers.{one_permutation}
use Rattle.hall_policy.proofs.Maps.{get_of_value}
use Rattle.hall_store.proofs.Tests.{contained, placed, Contains-filter, filter-Contains}
use Rattle.hall_sql.specs.Rows.{kept}
use Rattle.hall_sql.proofs.UniqueLemmas.{kept_keyed}

module _ {K X : Type 0} {R : K → K → Ordering} (total : IsTotalOrder R) (same : IsAntisymmetric R) (key : X → K)
    (read : Row → Option X) (rows : List Row) where
  -- each value stands under its own key
  pub kept_value : (x : X) → Contains (values (kept R key read rows)) x → get (kept R key read rows) (key x) ≡ Some x
  kept_value x among =
      let at = get_of_value total (kept R key read rows) x among in
      let own : key x ≡ at.0 = kept_keyed total same key read rows at.0 x at.1 in
      subst (λ k. get (kept R key read rows) k ≡ Some x) (sym own) at.1

module _ {X : Type 0} (test : X → Bool) (xs out : List X) (same : IsPermutation (filter test xs) out) where
  -- so many pass
  pub counted : length out ≡ count_by test xs
  counted = length_permutation (filter test xs) out same ∙ length-filter test xs

  first_of : (out : List X) → 1 ≤ length out → (x : X) × Contains out x
  first_of [] some = absurd (omega (arith, some))
  first_of (x ∷ rest) some = (x, contained (x ∷ rest) x 0 refl)

  -- one passes where there is any
  pub one_passes : 1 ≤ length out → (x : X) × Contains xs x × (test x ≡ true)
  one_passes some =
      let first = first_of out some in
      let among = Contains-permutation out (filter test xs) first.0 (IsPermutation-sym _ _ same) first.1 in
      let kept = filter-Contains test xs first.0 among in
      (first.0, kept.0, kept.1)

  -- what passes is there
  pub is_among : (x : X) → Contains xs x → test x ≡ true → Contains out x
  is_among x among passes = Contains-permutation (filter test xs) out x same (Contains-filter test xs x among passes)

  -- there is any where one passes
  pub any_there : (x : X) → Contains xs x → test x ≡ true → 1 ≤ length out
  any_there x among passes = let at = is_among x among passes in omega (arith, at.1)

-- what is found is the first that passes
first_found : {X : Type 0} (test : X → Bool) (xs : List X) → find test xs ≡ slice_get (filter test xs) 0
first_found test [] = refl
first_found test (x ∷ xs) =
    elim (test x) as (λ b. cond b (Some x) (find test xs) ≡ slice_get (cond b (x ∷ filter test xs) (filter test xs)) 0)
    [ true ↦ refl | false ↦ first_found test xs ]

no_more : {X : Type 0} (xs : List X) → length xs ≡ 0 → xs ≡ []
no_more [] e = refl
no_more (x ∷ xs) e = absurd (omega (arith, e))

-- where at most one passes, it is the one that is found
pub only_found : {X : Type 0} (test : X → Bool) (xs out : List X) → IsPermutation (filter test xs) out → length out ≤ 1
    → slice_get out 0 ≡ find test xs
only_found test xs out same short = go out same short ∙ sym (first_found test xs)
  where
    go : (out : List _) → IsPermutation (filter test xs) out → length out ≤ 1
        → slice_get out 0 ≡ slice_get (filter test xs) 0
    go [] same short =
        let none : filter test xs ≡ [] = no_more (filter test xs) (sym (length_permutation (filter test xs) [] same)) in
        rw none
    go (x ∷ []) same short =
        let one : filter test xs ≡ x ∷ [] = one_permutation x (filter test xs) (IsPermutation-sym _ _ same) in rw one
    go (x ∷ y ∷ out) same short = absurd (omega (arith, short))

-- two that stand in a list of at most one are one
pub only_one : {X : Type 0} (out : List X) (x : X) → length out ≤ 1 → Contains out x → slice_get out 0 ≡ Some x
only_one [] x short among = absurd (omega (arith, among.1))
only_one (y ∷ []) x short among = go (placed (y ∷ []) x among)
  where
    go : (j : ℕ) × (slice_get (y ∷ []) j ≡ Some x) → slice_get (y ∷ []) 0 ≡ Some x
    go (zero, is) = is
    go (suc j, is) = absurd cc
only_one (y ∷ z ∷ out) x short among = absurd (omega (arith, short))

-- what isn't empty has any
pub any_is : (n : ℕ) (empty : Bool) (P : Type 0) → empty ≡ (n == 0) → (1 ≤ n → P) → (P → 1 ≤ n) → IsTrue (not empty) ↔ P
any_is zero empty P is there back = (
  (λ yes. absurd (let no : false ≡ true = sym (ap not is) ∙ yes in cc)),
  (λ p. absurd (omega (arith, back p))),
)
any_is (suc n) empty P is there back =
    let some : (suc n == 0) ≡ false = grind (arith, nat_tests) in
    ((λ _. there (omega arith)), (λ _. ap not (is ∙ some)))

-- what is made of an item is in the list of what is made, and nothing else is
pub mapped : {X Y : Type 0} (f : X → Y) (xs : List X) (x : X) → Contains xs x → Contains (map f xs) (f x)
mapped f xs x among =
    let at = placed xs x among in
    contained (map f xs) (f x) at.0 (slice_get-map f xs at.0 ∙ ap (option_map f) at.1)

pub mapped_from : {X Y : Type 0} (f : X → Y) (xs : List X) (y : Y) → Contains (map f xs) y
    → (x : X) × Contains xs x × (f x ≡ y)
mapped_from f xs y among =
    let at = placed (map f xs) y among in
    go (slice_get xs at.0) refl (sym (slice_get-map f xs at.0) ∙ at.1)
  where
    go : (o : Option _) → slice_get xs (placed (map f xs) y among).0 ≡ o → option_map f o ≡ Some y
        → (x : _) × Contains xs x × (f x ≡ y)
    go None e h = absurd cc
    go (Some x) e h = (x, contained xs x (placed (map f xs) y among).0 e, cc)
