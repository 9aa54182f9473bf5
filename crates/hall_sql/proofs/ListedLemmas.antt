-- What a query of a table's rows gives of the records, and of the map that the table stands for.
use Rattle.std.proofs.Common.{◌≡◌, List, map, filter, flat_map, Bool, Some, option_to_list, sym, ap, ◌∙◌}
use Rattle.std.specs.List.Sorted.{IsPermutation, IsSorted}
use Rattle.std.specs.Cmp.{IsTotalOrder}
use Rattle.std.specs.declared.cmp.Ordering.{Ordering}
use Rattle.std.specs.FinMap.{IsAntisymmetric, values}
use Rattle.sqlite.specs.Order.{Row}
use Rattle.sqlite.specs.Schema.{Schema}
use Rattle.sqlite.specs.State.{State, Shown}
use Rattle.sqlite_trees.proofs.ListLemmas.{map-map}
use Rattle.hall_sql.specs.Rows.{columns_from, kept}
use Rattle.hall_sql.specs.Scan.{tree_of}
use Rattle.hall_sql.specs.Standing.{IsSelection}
use Rattle.hall_sql.proofs.Queries as queries
use Rattle.hall_sql.proofs.Queries.{Computes, RecordOf, TableQuery, body_of, by_order, passes, record_in, record_of}
use Rattle.hall_sql.proofs.Queries.{shows}
use Rattle.hall_sql.proofs.Queries.{width_of}
use Rattle.hall_sql.proofs.SortedLemmas.{sorted_records, selection_of_values}
use Rattle.hall_sql.proofs.RisingLemmas.{rows_listed}

module _ {q : TableQuery} {schema : Schema} (computes : Computes q schema) (old new : State) (rows : List Row)
    (out : List (RecordOf q.table)) (has : old.now.schema ≡ schema) (shown : Shown q.text q.params old new rows)
    (reads : map (record_in q.table) rows ≡ map Some out) where
  selection : IsSelection (body_of q) (old.now.trees (tree_of q.table)) q.params rows
  selection = queries.selection computes old new rows has shown

  found_read : map (record_in q.table) (map (columns_from 1 (width_of q.table)) selection.found) ≡ map Some out
  found_read = sym (λ i. map (record_in q.table) (map (λ r. shows q.table q.params r i) selection.found))
      ∙ ap (map (record_in q.table)) (sym selection.shown) ∙ reads

  abbrev records : List (RecordOf q.table)
  records = flat_map (λ r. option_to_list (record_of q.table r)) (old.now.trees (tree_of q.table))

  -- where ORDER BY is this order of the records, they stand in it
  pub records_sorted : (by : RecordOf q.table → RecordOf q.table → Ordering)
      → ((a b : Row) (x y : RecordOf q.table) → record_of q.table a ≡ Some x → record_of q.table b ≡ Some y
      → by_order q a b ≡ by x y)
      → IsSorted by out
  records_sorted by agree =
      sorted_records (record_of q.table) (by_order q) by agree selection.found out
      (sym (map-map (record_in q.table) (columns_from 1 (width_of q.table)) selection.found) ∙ found_read)
      selection.sorted

  module _ (test : RecordOf q.table → Bool)
      (agrees : (r : Row) (x : RecordOf q.table) → record_of q.table r ≡ Some x → passes q r ≡ test x) where
    -- the records that pass, in some order
    pub records_asked : (held : List (RecordOf q.table)) → IsPermutation records held
        → IsPermutation (filter test held) out
    records_asked held whole =
        selection_of_values (record_in q.table) (columns_from 1 (width_of q.table)) (passes q) test agrees
        (old.now.trees (tree_of q.table)) selection.found out held selection.same found_read whole

    -- the map's values that pass, where ORDER BY is the order of keys
    pub values_asked : {K : Type 0} {R : K → K → Ordering} → IsTotalOrder R → IsAntisymmetric R
        → (key : RecordOf q.table → K)
        → IsPermutation records (values (kept R key (record_of q.table) (old.now.trees (tree_of q.table))))
        → ((a b : Row) (x y : RecordOf q.table) → record_of q.table a ≡ Some x → record_of q.table b ≡ Some y
        → by_order q a b ≡ R (key x) (key y))
        → out ≡ filter test (values (kept R key (record_of q.table) (old.now.trees (tree_of q.table))))
    values_asked {K} {R} total same key whole keyed =
        rows_listed total same key (record_of q.table) (old.now.trees (tree_of q.table)) test out
        (records_asked _ whole) (records_sorted (λ a b. R (key a) (key b)) keyed)
