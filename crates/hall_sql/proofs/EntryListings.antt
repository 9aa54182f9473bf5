-- What queries of rows that read as entries of a map, a key beside a value, say of the map.
use Rattle.std.proofs.Common.{◌≡◌, ◌↔◌, ◌+◌, ◌<◌, ℕ, List, [], ◌∷◌, filter, length, get_or, Bool, IsTrue, Option, Some}
use Rattle.std.proofs.Common.{None, option_map, Contains, refl, sym, ap, subst, ◌∙◌, arith}
use Rattle.std.proofs.lemmas.List.Elements.{recursion_from_All}
use Rattle.std.proofs.lemmas.List.Sorted.{IsPermutation-sym, Contains-permutation}
use Rattle.std.proofs.lemmas.Option.{slice_get-get_or}
use Rattle.std.specs.List.{AllByRecursion}
use Rattle.std.specs.List.Sorted.{IsPermutation, IsSorted, IsStrictlySortedBy}
use Rattle.std.specs.Cmp.{IsTotalOrder}
use Rattle.std.specs.Ordering.{is_lt}
use Rattle.std.specs.declared.cmp.Ordering.{Ordering}
use Rattle.std.specs.declared.cmp.Ordering.TheVariants.{Less}
use Rattle.std.specs.FinMap.{FinMap, IsAntisymmetric, get, values}
use Rattle.sqlite.specs.Order.{Row}
use Rattle.sqlite_trees.proofs.ListLemmas.{all_both, ascending-filter}
use Rattle.sqlite_trees.specs.Tree.{IsAscending}
use Rattle.hall_policy.proofs.Maps.{value_of_get}
use Rattle.hall_store.proofs.Tests.{filter-Contains, contained}
use Rattle.hall_sql.specs.Rows.{kept}
use Rattle.hall_sql.proofs.AmongLemmas.{kept_value, is_among}
use Rattle.hall_sql.proofs.EntryLemmas.{map_of, get_entry}
use Rattle.hall_sql.proofs.MapLemmas.{get_kept}
use Rattle.hall_sql.proofs.RisingLemmas.{rows_listed, values_rise}
use Rattle.hall_sql.proofs.UniqueLemmas.{kept_keyed}

-- what has that value has some
some_of : {K X : Type 0} (o : Option (K × X)) (x : X) → option_map (λ e. e.1) o ≡ Some x → (e : K × X) × (o ≡ Some e)
    × (e.1 ≡ x)
some_of None x h = absurd cc
some_of (Some e) x h = (e, refl, cc)

module _ {K X : Type 0} {R : K → K → Ordering} (total : IsTotalOrder R) (same : IsAntisymmetric R)
    (read : Row → Option (K × X)) (rows : List Row) where
  abbrev key_of : K × X → K
  key_of e = e.0

  -- the entries of the rows, each under its key
  abbrev pub under : FinMap R (K × X)
  under = kept R key_of read rows

  -- the map holds their values
  value_under : (q : K) → get (map_of total same read rows) q ≡ option_map (λ e. e.1) (get under q)
  value_under q = get_entry total same read q rows ∙ ap (option_map (λ e. e.1))
      (sym (get_kept total same key_of read q rows))

  module _ (test : K × X → Bool) (out : List (K × X)) (permuted : IsPermutation (filter test (values under)) out) where
    -- those that pass, in some order, are the map's entries that pass
    pub are_entries : (e : K × X) → Contains out e ↔ ((get (map_of total same read rows) e.0 ≡ Some e.1)
        × IsTrue (test e))
    are_entries e = (there, back)
      where
        there : Contains out e → (get (map_of total same read rows) e.0 ≡ Some e.1) × IsTrue (test e)
        there among =
            let first = Contains-permutation out (filter test (values under)) e (IsPermutation-sym _ _ permuted)
            among in
            let it = filter-Contains test (values under) e first in
            (value_under e.0 ∙ ap (option_map (λ e. e.1)) (kept_value total same key_of read rows e it.0), it.1)

        back : (get (map_of total same read rows) e.0 ≡ Some e.1) × IsTrue (test e) → Contains out e
        back h =
            let it = some_of (get under e.0) e.1 (sym (value_under e.0) ∙ h.0) in
            let own : it.0.0 ≡ e.0 = kept_keyed total same key_of read rows e.0 it.0 it.1 in
            let is : it.0 ≡ e = λ i. (own i, it.2 i) in
            is_among test (values under) out permuted e (subst (Contains (values under)) is
            (value_of_get under e.0 it.0 it.1)) h.1

    -- where they stand in an order that is the order of keys among them, each stands there once
    module _ (cmp : K × X → K × X → Ordering) (by : (a b : K × X) → IsTrue (test a) → IsTrue (test b)
        → R a.0 b.0 ≡ cmp a b) where
      rising : (es : List (K × X)) → AllByRecursion (λ (e : K × X). IsTrue (test e)) es
          → IsAscending (λ (a b : K × X). R a.0 b.0 ≡ Less) es
          → IsStrictlySortedBy cmp es
      unfolding IsStrictlySortedBy
      rising [] all up = tt
      rising (e ∷ es) all up = (
        all_both (λ (b : K × X). IsTrue (test b)) (λ b. R e.0 b.0 ≡ Less) (λ b. cmp e b ≡ Less)
            (λ b q h. sym (by e b all.0 q) ∙ h) es all.1 up.0,
        rising es all.1 up.1,
      )

      pub rise_strictly : IsSorted cmp out → IsStrictlySortedBy cmp out
      rise_strictly sorted =
          let passes : (k : ℕ) (d : K × X) → k < length out → IsTrue (test (get_or out k d)) = λ k d low.
          ((are_entries (get_or out k d)).0 (contained out (get_or out k d) k (slice_get-get_or out k d low))).1 in
          let by_key : IsSorted (λ (a b : K × X). R a.0 b.0) out = λ k d low high.
          ap is_lt (by (get_or out (k + 1) d) (get_or out k d) (passes (k + 1) d high)
          (passes k d (omega (arith, high)))) ∙ sorted k d low high in
          let listed = rows_listed total same key_of read rows test out permuted by_key in
          let up = ascending-filter (λ (a b : K × X). R a.0 b.0 ≡ Less) test _
          (values_rise total same key_of read rows) in
          rising out (recursion_from_All (λ (e : K × X). IsTrue (test e)) out passes)
          (subst (IsAscending (λ (a b : K × X). R a.0 b.0 ≡ Less)) (sym listed) up)
