-- Finite maps: their entries, their values, and counts of these.
use Rattle.std.proofs.Common.{◌≡◌, ◌≢◌, ℕ, ◌+◌, ◌≤◌, Bool, true, false, cond, ◌&&◌, List, [], ◌∷◌, Option, Some, None}
use Rattle.std.proofs.Common.{Contains, slice_get, refl, sym, ap, ◌∙◌, subst, arith, unwrap_or, slice_index_or}
use lib.Dec.{T}
use Rattle.std.specs.Cmp.{IsTotalOrder, eq_by_cmp_equiv, tied_itself}
use Rattle.std.specs.Ordering.{is_lt, is_eq, match_ordering}
use Rattle.std.specs.declared.cmp.Ordering.{Ordering}
use Rattle.std.specs.declared.cmp.Ordering.TheVariants.{Less, Equal, Greater}
use Rattle.std.specs.List.{AllByRecursion, count_by, sum_by}
use Rattle.std.specs.List.Sorted.{IsStrictlySortedBy}
use Rattle.std.specs.Option.{option_map}
use Rattle.std.specs.Map.{lookup, keys_of, values_of}
use Rattle.std.specs.BTreeMap.{is_at, insert_entry}
use Rattle.std.specs.FinMap.{FinMap, IsAntisymmetric, get, insert, entries, values, find, put, is_sorted, get-entries}
use Rattle.std.specs.FinMap.{get-insert, entries-insert, entries_sorted}
use Rattle.std.specs.FinMap.Entries.{below_all, by_order}
use Rattle.std.proofs.lemmas.Option.{slice_get-map, slice_get_within, slice_get-get_or, get_or_from_slice_get}
use Rattle.std.proofs.lemmas.Map.Entries.{place_from_lookup, lookup_from_place, sum_by-insert_entry}
use Rattle.std.proofs.lemmas.Map.Keys.{IsDistinct-from_sorted}
use Rattle.std.proofs.lemmas.List.Sums.{get_or-le-sum_by}

-- ---- the entries of a map, by the words of std's ordered maps
from_T : (b : Bool) → T b → b ≡ true
from_T true h = refl
from_T false h = absurd h

to_T : (b : Bool) → b ≡ true → T b
to_T b e = subst T (sym e) tt

first_of_two : (a b : Bool) → T (a && b) → T a
first_of_two true b h = tt
first_of_two false b h = absurd h

second_of_two : (a b : Bool) → T (a && b) → T b
second_of_two true b h = h
second_of_two false b h = absurd h

both_of_two : (a b : Bool) → T a → T b → T (a && b)
both_of_two true b p q = q
both_of_two false b p q = absurd p

less_from_T : (o : Ordering) → T (is_lt o) → o ≡ Less
less_from_T Less h = refl
less_from_T Equal h = absurd h
less_from_T Greater h = absurd h

module _ {K X : Type 0} (R : K → K → Ordering) where
  pub find_is_lookup : (q : K) (es : List (K × X)) → find R q es ≡ lookup (is_at (R q)) es
  find_is_lookup q [] = refl
  find_is_lookup q (e ∷ es) = ap (cond (is_at (R q) e.0) (Some e.1)) (find_is_lookup q es)

  pub put_is_insert_entry : (k : K) (v : X) (es : List (K × X)) → put R k v es ≡ insert_entry R es k v
  put_is_insert_entry k v [] = refl
  put_is_insert_entry k v (e ∷ es) = elim (R k e.0) as (λ r. by_order r ((k, v) ∷ e ∷ es) ((e.0, v) ∷ es)
      (e ∷ put R k v es) ≡ match_ordering r ((k, v) ∷ e ∷ es) ((e.0, v) ∷ es) (e ∷ insert_entry R es k v)) [
        | Less ↦ refl
        | Equal ↦ refl
        | Greater ↦ ap (λ rest. e ∷ rest) (put_is_insert_entry k v es)
      ]

  below_by_recursion : (x : K) (es : List (K × X)) → T (below_all R x es)
      → AllByRecursion (λ y. R x y ≡ Less) (keys_of es)
  below_by_recursion x [] h = tt
  below_by_recursion x (e ∷ es) h = (
    less_from_T (R x e.0) (first_of_two (is_lt (R x e.0)) (below_all R x es) h),
    below_by_recursion x es
        (second_of_two (is_lt (R x e.0)) (below_all R x es) h),
  )

  pub strictly_sorted : (es : List (K × X)) → T (is_sorted R es) → IsStrictlySortedBy R (keys_of es)
  unfolding IsStrictlySortedBy
  strictly_sorted [] h = tt
  strictly_sorted (e ∷ es) h = (
    below_by_recursion e.0 es (first_of_two (below_all R e.0 es) (is_sorted R es) h),
    strictly_sorted es
        (second_of_two (below_all R e.0 es) (is_sorted R es) h),
  )

  all_below : (x : K) (es : List (K × X)) → AllByRecursion (λ y. R x y ≡ Less) (keys_of es) → T (below_all R x es)
  all_below x [] h = tt
  all_below x (e ∷ es) h = both_of_two (is_lt (R x e.0)) (below_all R x es) (to_T (is_lt (R x e.0)) (ap is_lt h.0))
      (all_below x es h.1)

  pub sorted_by_test : (es : List (K × X)) → IsStrictlySortedBy R (keys_of es) → T (is_sorted R es)
  unfolding IsStrictlySortedBy
  sorted_by_test [] h = tt
  sorted_by_test (e ∷ es) h = both_of_two (below_all R e.0 es) (is_sorted R es) (all_below e.0 es h.0)
      (sorted_by_test es h.1)

-- the value in an entry that an option holds
value_in : {K X : Type 0} → (o : Option (K × X)) (v : X) → option_map (λ e. e.1) o ≡ Some v → (k : K)
    × (o ≡ Some (k, v))
value_in None v h = let no : None ≡ Some v = h in cc
value_in (Some e) v h = let same : e.1 ≡ v = cc in (e.0, ap (λ w. Some (e.0, w)) same)

module _ {K X : Type 0} {R : K → K → Ordering} where
  pub get_is_lookup : (m : FinMap R X) (q : K) → get m q ≡ lookup (is_at (R q)) (entries m)
  get_is_lookup m q = get-entries m q ∙ find_is_lookup R q (entries m)

  -- what a map has at a key is among its values
  pub value_of_get : (m : FinMap R X) (k : K) (v : X) → get m k ≡ Some v → Contains (values m) v
  value_of_get m k v found =
      let at = place_from_lookup (is_at (R k)) (entries m) v (sym (get_is_lookup m k) ∙ found) in
      let here : slice_get (values m) at.0 ≡ Some v = slice_get-map (λ e. e.1) (entries m) at.0
      ∙ ap (option_map (λ (e : K × X). e.1)) at.2 in
      (at.0, slice_get_within (values m) at.0 v here, get_or_from_slice_get (values m) at.0 v v here)

module _ {K X : Type 0} {R : K → K → Ordering} (o : IsTotalOrder R) where
  -- each of a map's values is what it has at some key
  pub get_of_value : (m : FinMap R X) (v : X) → Contains (values m) v → (k : K) × (get m k ≡ Some v)
  get_of_value m v among =
      let here : slice_get (values m) among.0 ≡ Some v = slice_get-get_or (values m) among.0 v among.1
      ∙ ap Some among.2 in
      let at = value_in (slice_get (entries m) among.0) v (sym (slice_get-map (λ e. e.1) (entries m) among.0) ∙ here) in
      let sorted : IsStrictlySortedBy R (keys_of (entries m)) = strictly_sorted R (entries m) (entries_sorted m) in (
        at.0,
        get_is_lookup m at.0 ∙ lookup_from_place (eq_by_cmp_equiv o) (entries m) among.0 at.0 v
            (IsDistinct-from_sorted R (keys_of (entries m)) sorted) at.1,
      )

  -- how an insertion changes a count of the values
  pub count_by-insert : (p : X → Bool) (m : FinMap R X) (k : K) (v : X) →
      count_by p (values (insert m k v)) + unwrap_or (option_map (λ x. cond (p x) 1 0) (get m k)) 0 ≡ count_by p
      (values m) + cond (p v) 1 0
  count_by-insert p m k v =
      let one : X → ℕ = λ x. cond (p x) 1 0 in
      let sorted : IsStrictlySortedBy R (keys_of (entries m)) = strictly_sorted R (entries m) (entries_sorted m) in
      ap (λ es. sum_by one (values_of es) + unwrap_or (option_map one (get m k)) 0)
      (entries-insert o m k v ∙ put_is_insert_entry R k v (entries m))
      ∙ ap (λ (found : Option X). sum_by one (values_of (insert_entry R (entries m) k v)) + unwrap_or
      (option_map one found) 0) (get_is_lookup m k)
      ∙ sum_by-insert_entry one o (entries m) k v sorted

  -- at a new key one more value counts, where it passes
  pub count_by-insert_new : (p : X → Bool) (m : FinMap R X) (k : K) (v : X) → get m k ≡ None
      → count_by p (values (insert m k v)) ≡ count_by p (values m) + cond (p v) 1 0
  count_by-insert_new p m k v new =
      let one : X → ℕ = λ x. cond (p x) 1 0 in
      let h = count_by-insert p m k v in
      let none : unwrap_or (option_map one (get m k)) 0 ≡ 0 = ap
      (λ (found : Option X). unwrap_or (option_map one found) 0) new in
      omega (arith, h, none)

  -- a value that takes the place of one that counts alike
  pub count_by-insert_alike : (p : X → Bool) (m : FinMap R X) (k : K) (v old : X) → get m k ≡ Some old → p v ≡ p old
      → count_by p (values (insert m k v)) ≡ count_by p (values m)
  count_by-insert_alike p m k v old was alike =
      let one : X → ℕ = λ x. cond (p x) 1 0 in
      let h = count_by-insert p m k v in
      let there : unwrap_or (option_map one (get m k)) 0 ≡ one v =
      ap (λ (found : Option X). unwrap_or (option_map one found) 0) was ∙ ap (λ (b : Bool). let n : ℕ = cond b 1 0 in n)
      (sym alike) in
      omega (arith, h, there)

  -- what an insertion leaves at its own key, and at each other key
  pub get-insert_same : (m : FinMap R X) (k : K) (v : X) → get (insert m k v) k ≡ Some v
  get-insert_same m k v = get-insert o m k v k ∙ ap (λ r. cond (is_eq r) (Some v) (get m k)) (tied_itself o k)

  pub get-insert_other : IsAntisymmetric R → (m : FinMap R X) (k : K) (v : X) (q : K) → q ≢ k
      → get (insert m k v) q ≡ get m q
  get-insert_other same m k v q differ =
      get-insert o m k v q
      ∙ elim (R q k) as (λ r. R q k ≡ r → cond (is_eq r) (Some v) (get m q) ≡ get m q) [
        | Less ↦ λ _. refl
        | Equal ↦ λ e. absurd (differ (same q k e))
        | Greater ↦ λ _. refl
      ] refl

-- a value that passes counts
pub counted : {X : Type 0} (p : X → Bool) (xs : List X) (x : X) → Contains xs x → p x ≡ true → 1 ≤ count_by p xs
counted p xs x among passes =
    let bound : cond (p (slice_index_or xs among.0 x)) 1 0 ≤ count_by p xs = get_or-le-sum_by (λ y. cond (p y) 1 0) xs
    among.0 x among.1 in
    subst (λ n. n ≤ count_by p xs) (ap (λ y. cond (p y) 1 0) among.2 ∙ ap (λ b. cond b 1 0) passes) bound
