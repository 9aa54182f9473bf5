-- The records that a query's rows are, where some of the table's rows may be none.
use Rattle.std.proofs.Common.{◌≡◌, List, [], ◌∷◌, ◌++◌, map, filter, is_some, Bool, true, false, cond, Option, Some}
use Rattle.std.proofs.Common.{None, option_to_list, refl, sym, ap, subst, ◌∙◌}
use Rattle.std.specs.List.Sorted.{IsPermutation, IsSorted}
use Rattle.std.specs.Cmp.{IsTotalOrder, IsStrictWeakOrder, on_total, upto}
use Rattle.std.specs.declared.cmp.Ordering.{Ordering}
use Rattle.std.specs.declared.cmp.Ordering.TheVariants.{Less, Equal, Greater}
use Rattle.std.specs.Ordering.{is_lt, is_gt, ordering_reverse}
use Rattle.std.specs.FinMap.{IsAntisymmetric, values}
use Rattle.std.proofs.lemmas.List.Sorted.{IsPermutation-sym, IsPermutation-trans}
use Rattle.std.proofs.lemmas.List.Kept.{IsSortedBy-filter}
use Rattle.sqlite_trees.proofs.ListLemmas.{IsPermutation-flat_map, IsPermutation-filter, flat_map-map}
use Rattle.sqlite_sql.proofs.QueryLemmas.{output_cmp_total}
use Rattle.sqlite.specs.Order.{Row}
use Rattle.sqlite.specs.Query.{output}
use Rattle.hall_sql.specs.Rows.{columns_from, kept}
use Rattle.hall_sql.specs.Standing.{IsSelection}
use Rattle.hall_sql.proofs.ContentLemmas.{kept_records}
use Rattle.hall_sql.proofs.FeedLemmas.{records}
use Rattle.hall_sql.proofs.Queries.{RecordOf, TableQuery, body_of, by_order, passes, record_in, record_of, shows}
use Rattle.hall_sql.proofs.Queries.{width_of}
use Rattle.hall_sql.proofs.RisingLemmas.{rows_listed}
use Rattle.hall_sql.proofs.SortedLemmas.{sorted_records}

-- the rows that are records, as records
read_some : {X : Type 0} (read : Row → Option X) (rows : List Row) → map read (filter (λ r. is_some (read r)) rows) ≡
    map Some (records read rows)
read_some read [] = refl
read_some {X} read (r ∷ rows) = go (read r) refl (read_some read rows)
  where
    go : (o : Option X) → read r ≡ o → map read (filter (λ r. is_some (read r)) rows) ≡ map Some (records read rows)
        → map read (cond (is_some o) (r ∷ filter (λ r. is_some (read r)) rows) (filter (λ r. is_some (read r)) rows)) ≡
        map Some (option_to_list o ++ records read rows)
    go None is more = more
    go (Some x) is more = rw (is, more)

flips : (o : Ordering) → is_gt (ordering_reverse o) ≡ is_lt o
flips Less = refl
flips Equal = refl
flips Greater = refl

below_back : (o : Ordering) → is_lt o ≡ true → is_lt (ordering_reverse o) ≡ false
below_back Less h = refl
below_back Equal h = absurd cc
below_back Greater h = absurd cc

strict_weak : {X : Type 0} {cmp : X → X → Ordering} → IsTotalOrder cmp → IsStrictWeakOrder (λ x y. is_lt (cmp x y))
strict_weak {X} {cmp} order = record {
  one_way = λ x y h. ap is_lt (order.antisymm y x) ∙ below_back (cmp x y) h;
  chain = λ x y z p q.
      let one : is_gt (cmp y x) ≡ false = ap is_gt (order.antisymm y x) ∙ flips (cmp x y) ∙ p in
      let two : is_gt (cmp z y) ≡ false = ap is_gt (order.antisymm z y) ∙ flips (cmp y z) ∙ q in
      let three = upto order z y x two one in
      sym (flips (cmp x z)) ∙ ap is_gt (sym (order.antisymm z x)) ∙ three;
}

module _ (q : TableQuery) (table rows : List Row) (sel : IsSelection (body_of q) table q.params rows) where
  found_records : records (record_of q.table) sel.found ≡ records (record_in q.table) rows
  found_records =
      sym (flat_map-map (λ r. option_to_list (record_in q.table r)) (columns_from 1 (width_of q.table)) sel.found)
      ∙ ap (records (record_in q.table)) (sym (λ i. map (λ r. shows q.table q.params r i) sel.found) ∙ sym sel.shown)

  -- the records that pass, in some order
  pub records_selected : (test : RecordOf q.table → Bool)
      → ((r : Row) (x : RecordOf q.table) → record_of q.table r ≡ Some x → passes q r ≡ test x)
      → (held : List (RecordOf q.table)) → IsPermutation (records (record_of q.table) table) held
      → IsPermutation (filter test held) (records (record_in q.table) rows)
  records_selected test agrees held whole =
      let back = IsPermutation-filter test _ _ (IsPermutation-sym _ _ whole) in
      let kept = subst (IsPermutation (filter test held)) (sym
      (kept_records (record_in q.table) (columns_from 1 (width_of q.table)) (passes q) test agrees table)) back in
      IsPermutation-trans _ _ _ kept
      (subst (IsPermutation (records (record_of q.table) (filter (passes q) table))) found_records
      (IsPermutation-flat_map _ _ _ sel.same))

  -- in this order, where ORDER BY is this order of the records
  pub records_in_order : (by : RecordOf q.table → RecordOf q.table → Ordering)
      → ((a b : Row) (x y : RecordOf q.table) → record_of q.table a ≡ Some x → record_of q.table b ≡ Some y
      → by_order q a b ≡ by x y)
      → IsSorted by (records (record_in q.table) rows)
  records_in_order by agree =
      let total = on_total (λ r. output (body_of q) (q.params ∷ r ∷ [])) (output_cmp_total (body_of q)) in
      let up = IsSortedBy-filter _ (strict_weak total) (λ r. is_some (record_of q.table r)) sel.found sel.sorted in
      sorted_records (record_of q.table) (by_order q) by agree
      (filter (λ r. is_some (record_of q.table r)) sel.found) (records (record_in q.table) rows)
      (read_some (record_of q.table) sel.found ∙ ap (map Some) found_records) up

  -- the map's values that pass, where ORDER BY is the order of keys
  pub values_selected : {K : Type 0} {R : K → K → Ordering} → IsTotalOrder R → IsAntisymmetric R
      → (key : RecordOf q.table → K)
      → IsPermutation (records (record_of q.table) table) (values (kept R key (record_of q.table) table))
      → (test : RecordOf q.table → Bool)
      → ((r : Row) (x : RecordOf q.table) → record_of q.table r ≡ Some x → passes q r ≡ test x)
      → ((a b : Row) (x y : RecordOf q.table) → record_of q.table a ≡ Some x → record_of q.table b ≡ Some y
      → by_order q a b ≡ R (key x) (key y))
      → records (record_in q.table) rows ≡ filter test (values (kept R key (record_of q.table) table))
  values_selected {K} {R} total same key whole test agrees keyed =
      rows_listed total same key (record_of q.table) table test (records (record_in q.table) rows)
      (records_selected test agrees _ whole) (records_in_order (λ a b. R (key a) (key b)) keyed)
