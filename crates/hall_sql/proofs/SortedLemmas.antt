-- The order of rows by ORDER BY is the order of their records.
use Rattle.std.proofs.Common.{◌≡◌, ◌<◌, ◌+◌, ℕ, zero, suc, List, [], ◌∷◌, length, map, filter, flat_map, slice_index_or}
use Rattle.std.proofs.Common.{Bool, Option, Some, option_to_list, refl, sym, ap, subst, ◌∙◌, arith}
use Rattle.std.specs.List.Sorted.{IsPermutation, IsSorted}
use Rattle.std.proofs.lemmas.List.Sorted.{IsPermutation-sym, IsPermutation-trans}
use Rattle.std.specs.declared.cmp.Ordering.{Ordering}
use Rattle.std.specs.Ordering.{is_lt}
use Rattle.sqlite_trees.proofs.ListLemmas.{IsPermutation-flat_map, IsPermutation-filter, flat_map-map}
use Rattle.sqlite.specs.Order.{Row}
use Rattle.hall_sql.proofs.ContentLemmas.{all_read, kept_records}

pub same_lengths : {X : Type 0} (read : Row → Option X) (rows : List Row) (out : List X) → map read rows ≡ map Some out
    → length rows ≡ length out
same_lengths read [] [] is = refl
same_lengths read [] (x ∷ out) is = absurd cc
same_lengths read (r ∷ rows) [] is = absurd cc
same_lengths read (r ∷ rows) (x ∷ out) is = ap suc (same_lengths read rows out cc)

read_at : {X : Type 0} (read : Row → Option X) (rows : List Row) (out : List X) (k : ℕ) (r : Row) (d : X)
    → map read rows ≡ map Some out → k < length out → read (slice_index_or rows k r) ≡ Some (slice_index_or out k d)
read_at read [] [] k r d is low = absurd (omega (arith, low))
read_at read [] (x ∷ out) k r d is low = absurd cc
read_at read (y ∷ rows) [] k r d is low = absurd cc
read_at read (y ∷ rows) (x ∷ out) zero r d is low = cc
read_at read (y ∷ rows) (x ∷ out) (suc k) r d is low = let tail : map read rows ≡ map Some out = cc in read_at read rows
    out k r d tail (omega (arith, low))

pub sorted_records : {X : Type 0} (read : Row → Option X) (by_rows : Row → Row → Ordering) (by : X → X → Ordering)
    → ((a b : Row) (x y : X) → read a ≡ Some x → read b ≡ Some y → by_rows a b ≡ by x y)
    → (rows : List Row) (out : List X) → map read rows ≡ map Some out → IsSorted by_rows rows → IsSorted by out
sorted_records read by_rows by agree rows out is up k d low high =
    let same = same_lengths read rows out is in
    let next = read_at read rows out (k + 1) [] d is high in
    let this = read_at read rows out k [] d is (omega (arith, high)) in
    ap is_lt (sym (agree _ _ _ _ next this)) ∙ up k [] low (omega (arith, same, high))

-- a selection of rows gives the records that pass, where the table's records are these values
pub selection_of_values : {X : Type 0} (read : Row → Option X) (columns : Row → Row) (keeps : Row → Bool)
    (means : X → Bool) (agree : (r : Row) (x : X) → read (columns r) ≡ Some x → keeps r ≡ means x)
    → (rows found : List Row) (out held : List X) → IsPermutation (filter keeps rows) found
    → map read (map columns found) ≡ map Some out → IsPermutation
    (flat_map (λ r. option_to_list (read (columns r))) rows) held
    → IsPermutation (filter means held) out
selection_of_values read columns keeps means agree rows found out held same is listed =
    let reads = flat_map (λ r. option_to_list (read (columns r))) in
    let whole = IsPermutation-filter means _ _ (IsPermutation-sym _ _ listed) in
    let kept = subst (IsPermutation (filter means held)) (sym (kept_records read columns keeps means agree rows))
    whole in
    let read_out : reads found ≡ out = sym (flat_map-map (λ r. option_to_list (read r)) columns found)
    ∙ all_read read (map columns found) out is in
    IsPermutation-trans _ _ _ kept (subst (IsPermutation (reads (filter keeps rows))) read_out
    (IsPermutation-flat_map _ _ _ same))
