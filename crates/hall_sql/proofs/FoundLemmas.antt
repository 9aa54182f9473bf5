-- The record under a key is the one that a query by the key gives.
use Rattle.std.proofs.Common.{◌≡◌, ◌≤◌, inl, suc, List, [], ◌∷◌, ◌++◌, length, map, filter, slice_get, Bool, true}
use Rattle.std.proofs.Common.{false, Option, Some, None, IfSome, refl, sym, ap, subst, ◌∙◌, arith}
use Rattle.std.proofs.lemmas.List.Sorted.{IsPermutation-sym, length_permutation}
use Rattle.std.specs.List.Sorted.{IsPermutation}
use Rattle.std.specs.Cmp.{IsTotalOrder, eq_by_cmp_equiv}
use Rattle.std.specs.declared.cmp.Ordering.{Ordering}
use Rattle.std.specs.Ordering.{eq_by_cmp}
use Rattle.std.specs.FinMap.{IsAntisymmetric, find as find_key, get}
use Rattle.sqlite.specs.Order.{Row}
use Rattle.sqlite.proofs.Callers.{one_permutation}
use Rattle.sqlite_rules.specs.Lists.{Has}
use Rattle.sqlite_trees.proofs.ListLemmas.{map-map}
use Rattle.sqlite_rules.proofs.ListLemmas.{all_from, has_filtered}
use Rattle.sqlite.specs.State.{State, Shown}
use Rattle.sqlite.specs.Schema.{Schema}
use Rattle.hall_sql.specs.Rows.{columns_from, entry, kept}
use Rattle.hall_sql.specs.Scan.{tree_of}
use Rattle.hall_sql.specs.Standing.{IsSelection}
use Rattle.hall_sql.proofs.Queries.{Computes, RecordOf, TableQuery, body_of, passes, record_in, record_of, selection}
use Rattle.hall_sql.proofs.Queries.{shows, width_of}
use Rattle.hall_sql.proofs.MapLemmas.{Lacks, found, filter_found, get_kept}

no_more : {A : Type 0} (xs : List A) → length xs ≡ 0 → xs ≡ []
no_more [] e = refl
no_more (x ∷ xs) e = absurd (omega (arith, e))

pub length_read : {X : Type 0} (read : Row → Option X) (rows : List Row) (out : List X) → map read rows ≡ map Some out
    → length rows ≡ length out
length_read read [] [] e = refl
length_read read [] (x ∷ out) e = absurd cc
length_read read (r ∷ rows) [] e = absurd cc
length_read read (r ∷ rows) (x ∷ out) e = let tail = length_read read rows out cc in ap (λ n. suc n) tail

-- where at most one row is read, it is the only one
one_alone : {X : Type 0} (read : Row → Option X) (rows found_rows : List Row) (out : List X)
    → IsPermutation rows found_rows → map read found_rows ≡ map Some out → length out ≤ 1
    → IfSome (slice_get out 0) (λ x. (r : Row) × (rows ≡ r ∷ []) × (read r ≡ Some x))
one_alone read rows [] [] same is short = tt
one_alone read rows [] (x ∷ out) same is short = absurd cc
one_alone read rows (r ∷ some) [] same is short = tt
one_alone read rows (r ∷ []) (x ∷ []) same is short = (r, one_permutation r rows (IsPermutation-sym _ _ same), cc)
one_alone read rows (r ∷ some) (x ∷ y ∷ out) same is short = absurd (omega (arith, short))
one_alone read rows (r ∷ y ∷ some) (x ∷ []) same is short = absurd
    (let long = length_read read (r ∷ y ∷ some) (x ∷ []) is in omega (arith, long))

module _ {K X : Type 0} {R : K → K → Ordering} (total : IsTotalOrder R) (same : IsAntisymmetric R) (key : X → K)
    (read : Row → Option X) (k : K) (keeps : Row → Bool)
    (agrees : (r : Row) (x : X) → read r ≡ Some x → keeps r ≡ eq_by_cmp R (key x) k) where
  -- a row that WHERE passes over does not have the key
  pub unkept : (r : Row) → keeps r ≡ false → Lacks total same key read k r
  unkept r passed = go (read r) refl
    where
      go : (o : Option X) → read r ≡ o → find_key R k (entry key o) ≡ None
      go None is = refl
      go (Some x) is = let no : eq_by_cmp R k (key x) ≡ false = (eq_by_cmp_equiv total).symm k (key x)
          ∙ sym (agrees r x is) ∙ passed in rw no

  -- one row that WHERE takes, and that is a record, has the key
  one_row : (r : Row) (x : X) → keeps r ≡ true → read r ≡ Some x → find_key R k (entry key (read r) ++ []) ≡ Some x
  one_row r x taken is =
      let tied : eq_by_cmp R k (key x) ≡ true = (eq_by_cmp_equiv total).symm k (key x) ∙ sym (agrees r x is)
      ∙ taken in rw (is, tied)

  pub one_found : (rows found_rows : List Row) (out : List X) → IsPermutation (filter keeps rows) found_rows
      → map read found_rows ≡ map Some out → length out ≤ 1
      → slice_get out 0 ≡ get (kept R key read rows) k
  one_found rows found_rows out permuted is short = go found_rows out permuted is short
      ∙ filter_found total same key read k keeps rows (all_from _ rows (λ r h passed. unkept r passed))
      ∙ sym (get_kept total same key read k rows)
    where
      go : (some : List Row) (out : List X) → IsPermutation (filter keeps rows) some → map read some ≡ map Some out
          → length out ≤ 1 → slice_get out 0 ≡ found total same key read k (filter keeps rows)
      go [] [] permuted is short = let none : filter keeps rows ≡ [] = no_more (filter keeps rows)
          (sym (length_permutation (filter keeps rows) [] permuted)) in rw none
      go [] (x ∷ out) permuted is short = absurd cc
      go (r ∷ []) [] permuted is short = absurd cc
      go (r ∷ []) (x ∷ []) permuted is short =
          let one : filter keeps rows ≡ r ∷ [] = one_permutation r (filter keeps rows)
          (IsPermutation-sym _ _ permuted) in
          let reads : read r ≡ Some x = cc in
          let there = has_filtered keeps rows r (subst (λ l. Has l r) (sym one) (inl refl)) in
          sym (ap (found total same key read k) one ∙ one_row r x there.1 reads)
      go (r ∷ []) (x ∷ y ∷ out) permuted is short = absurd (omega (arith, short))
      go (r ∷ y ∷ some) out permuted is short = absurd (let long = length_read read (r ∷ y ∷ some) out is in omega
          (arith, long, short))

-- a query by a key
module _ {K : Type 0} {R : K → K → Ordering} (total : IsTotalOrder R) (same : IsAntisymmetric R) {q : TableQuery}
    {schema : Schema}
    (computes : Computes q schema) (key : RecordOf q.table → K) (k : K)
    (agrees : (r : Row) (x : RecordOf q.table) → record_of q.table r ≡ Some x → passes q r ≡ eq_by_cmp R (key x) k)
    (old new : State) (rows : List Row) (out : List (RecordOf q.table)) (has : old.now.schema ≡ schema)
    (shown : Shown q.text q.params old new rows) (is_read : map (record_in q.table) rows ≡ map Some out)
    (short : length out ≤ 1) where
  sel : IsSelection (body_of q) (old.now.trees (tree_of q.table)) q.params rows
  sel = selection computes old new rows has shown

  found_read : map (record_of q.table) sel.found ≡ map Some out
  found_read = sym (map-map (record_in q.table) (columns_from 1 (width_of q.table)) sel.found)
      ∙ sym (λ i. map (record_in q.table) (map (λ r. shows q.table q.params r i) sel.found))
      ∙ ap (map (record_in q.table)) (sym sel.shown) ∙ is_read

  -- the record that it gives is the one under the key
  pub asked_found : slice_get out 0 ≡ get (kept R key (record_of q.table) (old.now.trees (tree_of q.table))) k
  asked_found =
      one_found total same key (record_of q.table) k (passes q) agrees (old.now.trees (tree_of q.table)) sel.found out
      sel.same found_read short

  -- and its row is the only one under the key
  pub asked_alone : IfSome (slice_get out 0) (λ x. (r : Row)
      × (filter (passes q) (old.now.trees (tree_of q.table)) ≡ r ∷ []) × (record_of q.table r ≡ Some x))
  asked_alone =
      one_alone (record_of q.table) (filter (passes q) (old.now.trees (tree_of q.table))) sel.found out sel.same
      found_read short
