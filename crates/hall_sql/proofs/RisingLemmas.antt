-- The values of a table's map stand in the order of their keys, and rows in that order are these values.
use Rattle.std.proofs.Common.{◌≡◌, add-one, suc, length, List, [], ◌∷◌, ◌++◌, filter, flat_map, Bool, true, false, not}
use Rattle.std.proofs.Common.{Option, Some, None, refl, sym, ap, ap₂, subst, ◌∙◌, arith}
use Rattle.std.specs.Cmp.{IsTotalOrder}
use Rattle.std.specs.declared.cmp.Ordering.{Ordering}
use Rattle.std.specs.declared.cmp.Ordering.TheVariants.{Less, Equal, Greater}
use Rattle.std.specs.List.{AllByRecursion}
use Rattle.std.specs.List.Sorted.{IsPermutation, IsSorted, IsStrictlySortedBy}
use Rattle.std.specs.Map.{keys_of, values_of}
use Rattle.std.specs.FinMap.{IsAntisymmetric, entries, values, from_entries, empty, put, entries-insert, entries_sorted}
use Rattle.std.specs.FinMap.{len-empty, len-entries}
use Rattle.std.specs.FinMap.Entries.{by_order}
use Rattle.std.specs.Ordering.{is_lt, is_gt, ordering_reverse}
use Rattle.std.proofs.lemmas.Cmp.{on_total, tied_itself, upto, alike_right}
use Rattle.std.proofs.lemmas.List.Elements.{recursion_from_All, All-from_recursion}
use Rattle.std.proofs.lemmas.List.Sorted.{length_permutation, All-permutation}
use Rattle.sqlite.specs.Order.{Row}
use Rattle.sqlite_trees.specs.Tree.{IsAscending}
use Rattle.sqlite_trees.proofs.ListLemmas.{IsPermutation-filter, all_weaker, ascending-filter, filter_all, filter_none}
use Rattle.hall_policy.proofs.Maps.{strictly_sorted}
use Rattle.hall_sql.specs.Rows.{entry, kept}

-- ---- a list that rises has one order
module _ {X : Type 0} (cmp : X → X → Ordering) (total : IsTotalOrder cmp) where
  abbrev pub AtMost : X → X → Type 0
  AtMost a b = is_gt (cmp a b) ≡ false

  turned : (o : Ordering) → is_lt o ≡ false → is_gt (ordering_reverse o) ≡ false
  turned Less h = h
  turned Equal h = refl
  turned Greater h = refl

  least : (x : X) (ys : List X) → IsSorted cmp (x ∷ ys) → IsAscending AtMost ys → AllByRecursion (AtMost x) ys
  least x [] sorted up = tt
  least x (y ∷ ys) sorted up =
      let first : AtMost x y = ap is_gt (total.antisymm x y) ∙ turned _ (sorted 0 x (omega arith) (omega arith)) in
      (first, all_weaker _ (AtMost x) (λ z. upto total x y z first) ys up.0)

  pub ascending : (xs : List X) → IsSorted cmp xs → IsAscending AtMost xs
  ascending [] sorted = tt
  ascending (x ∷ xs) sorted =
      let tail : IsSorted cmp xs = λ k d p q. rw add-one (rw add-one at
      (sorted (suc k) d (omega arith) (omega arith))) in
      let up = ascending xs tail in
      (least x xs sorted up, up)

  abbrev above : X → X → Bool
  above x z = is_lt (cmp x z)

  still_above : (x y z : X) → above x y ≡ true → AtMost y z → above x z ≡ true
  still_above x y z h up = go (cmp x y) (cmp y z) refl refl h up
    where
      go : (a b : Ordering) → cmp x y ≡ a → cmp y z ≡ b → is_lt a ≡ true → is_gt b ≡ false → above x z ≡ true
      go Less Less p q s t = ap is_lt (total.trans x y z p q)
      go Less Equal p q s t = ap is_lt (sym (alike_right total y z x q) ∙ p)
      go Less Greater p q s t = absurd cc
      go Equal b p q s t = absurd cc
      go Greater b p q s t = absurd cc

  -- a sorted list is what is not above x, and then what is
  split : (x : X) (ys : List X) → IsAscending AtMost ys → ys ≡ filter (λ z. not (above x z)) ys ++ filter (above x) ys
  split x [] up = refl
  split x (y ∷ ys) up = go (above x y) refl (split x ys up.1)
    where
      go : (b : Bool) → above x y ≡ b → ys ≡ filter (λ z. not (above x z)) ys ++ filter (above x) ys
          → y ∷ ys ≡ filter (λ z. not (above x z)) (y ∷ ys) ++ filter (above x) (y ∷ ys)
      go false e more = rw e (ap (λ l. y ∷ l) more)
      go true e more =
          let all = all_weaker _ (λ z. above x z ≡ true) (λ z. still_above x y z e) ys up.0 in
          rw (
            e,
            filter_none _ ys (all_weaker _ (λ z. not (above x z) ≡ false) (λ z h. ap not h) ys all),
            filter_all _
                ys all,
          )

  one : (x : X) (ys : List X) → IsPermutation (x ∷ []) ys → ys ≡ x ∷ []
  one x [] same = absurd (omega (arith, length_permutation _ _ same))
  one x (y ∷ []) same =
      ap (λ z. z ∷ []) (recursion_from_All (λ z. z ≡ x) (y ∷ [])
      (All-permutation (λ z. z ≡ x) (x ∷ []) (y ∷ []) same (All-from_recursion (λ z. z ≡ x) (x ∷ []) (refl, tt)))).0
  one x (y ∷ z ∷ ys) same = absurd (omega (arith, length_permutation _ _ same))

  -- Of the orders of a list that rises, one is sorted: what is not above the head is the head, and the rest follows.
  one_order : (xs ys : List X) → IsAscending (λ a b. cmp a b ≡ Less) xs → IsPermutation xs ys → IsAscending AtMost ys
      → ys ≡ xs
  one_order [] [] rises same up = refl
  one_order [] (y ∷ ys) rises same up = absurd (omega (arith, length_permutation _ _ same))
  one_order (x ∷ xs) ys rises same up =
      let here : above x x ≡ false = ap is_lt (tied_itself total x) in
      let all = all_weaker _ (λ z. above x z ≡ true) (λ z h. ap is_lt h) xs rises.0 in
      let first : filter (λ z. not (above x z)) (x ∷ xs) ≡ x ∷ [] =
      rw (here, filter_none _ xs (all_weaker _ (λ z. not (above x z) ≡ false) (λ z h. ap not h) xs all)) in
      let later : filter (above x) (x ∷ xs) ≡ xs = rw (here, filter_all _ xs all) in
      let moved = λ (p : X → Bool) (l : List X) (e : filter p (x ∷ xs) ≡ l).
      subst (λ k. IsPermutation k (filter p ys)) e (IsPermutation-filter p _ _ same) in
      let front = one x _ (moved (λ z. not (above x z)) (x ∷ []) first) in
      let back = one_order xs _ rises.1 (moved (above x) xs later) (ascending-filter AtMost _ ys up) in
      split x ys up ∙ ap₂ ◌++◌ front back

  pub sorted_unique : (xs ys : List X) → IsAscending (λ a b. cmp a b ≡ Less) xs → IsPermutation xs ys → IsSorted cmp ys
      → ys ≡ xs
  sorted_unique xs ys rises same sorted = one_order xs ys rises same (ascending ys sorted)

-- ---- the values of a table
module _ {K X : Type 0} {R : K → K → Ordering} (total : IsTotalOrder R) (same : IsAntisymmetric R) (key : X → K) where
  -- each entry stands under its own key
  abbrev pub AreOwn : List (K × X) → Type 0
  AreOwn = AllByRecursion (λ (e : K × X). e.0 ≡ key e.1)

  own_put : (x : X) (es : List (K × X)) → AreOwn es → AreOwn (put R (key x) x es)
  own_put x [] own = (refl, tt)
  own_put x (e ∷ es) own = go (R (key x) e.0) refl (own_put x es own.1)
    where
      go : (o : Ordering) → R (key x) e.0 ≡ o → AreOwn (put R (key x) x es)
          → AreOwn (by_order o ((key x, x) ∷ e ∷ es) ((e.0, x) ∷ es) (e ∷ put R (key x) x es))
      go Less is more = (refl, own)
      go Equal is more = (sym (same (key x) e.0 is), own.1)
      go Greater is more = (own.0, more)

  own_made : (es : List (K × X)) → AreOwn es → AreOwn (entries (from_entries {R = R} es))
  own_made [] own = none (entries (empty {X = X} {R = R})) (sym (len-entries (empty {X = X} {R = R})) ∙ len-empty R X)
    where
      none : (es : List (K × X)) → length es ≡ 0 → AreOwn es
      none [] e = tt
      none (x ∷ es) e = absurd (omega (arith, e))
  own_made (e ∷ es) own =
      subst AreOwn (sym (entries-insert total (from_entries es) e.0 e.1))
      (subst (λ k. AreOwn (put R k e.1 (entries (from_entries {R = R} es)))) (sym own.0)
      (own_put e.1 _ (own_made es own.1)))

  abbrev by_key : X → X → Ordering
  by_key a b = R (key a) (key b)

  below : (k : K) (es : List (K × X)) → AreOwn es → AllByRecursion (λ y. R k y ≡ Less) (keys_of es)
      → AllByRecursion (λ x. R k (key x) ≡ Less) (values_of es)
  below k [] own all = tt
  below k (e ∷ es) own all = (subst (λ j. R k j ≡ Less) own.0 all.0, below k es own.1 all.1)

  values_ascend : (es : List (K × X)) → AreOwn es → IsStrictlySortedBy R (keys_of es)
      → IsAscending (λ a b. by_key a b ≡ Less) (values_of es)
  unfolding IsStrictlySortedBy
  values_ascend [] own up = tt
  values_ascend (e ∷ es) own up = (
    subst (λ k. AllByRecursion (λ x. R k (key x) ≡ Less) (values_of es)) own.0 (below e.0 es own.1 up.0),
    values_ascend es own.1 up.1,
  )

  module _ (read : Row → Option X) (rows : List Row) where
    own_entries : (rows : List Row) → AreOwn (flat_map (λ r. entry key (read r)) rows)
    own_entries [] = tt
    own_entries (r ∷ rows) = front (read r) _ (own_entries rows)
      where
        front : (o : Option X) (es : List (K × X)) → AreOwn es → AreOwn (entry key o ++ es)
        front None es own = own
        front (Some x) es own = (refl, own)

    pub kept_own : AreOwn (entries (kept R key read rows))
    kept_own = own_made _ (own_entries rows)

    -- the values rise by their keys
    pub values_rise : IsAscending (λ a b. by_key a b ≡ Less) (values (kept R key read rows))
    values_rise =
        let m = kept R key read rows in
        values_ascend (entries m) kept_own (strictly_sorted R (entries m) (entries_sorted m))

    -- those values that pass, in the order of their keys
    pub rows_listed : (test : X → Bool) (out : List X) → IsPermutation (filter test (values (kept R key read rows))) out
        → IsSorted by_key out → out ≡ filter test (values (kept R key read rows))
    rows_listed test out same_rows sorted =
        sorted_unique by_key (on_total key total) _ out
        (ascending-filter (λ a b. by_key a b ≡ Less) test _ values_rise) same_rows sorted
