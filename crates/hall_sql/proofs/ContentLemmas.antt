-- What a selection of rows says of the records that the rows are.
use Rattle.std.proofs.Common.{◌≡◌, List, [], ◌∷◌, ◌++◌, map, flat_map, filter, Bool, true, false, cond, Option, Some}
use Rattle.std.proofs.Common.{None, option_to_list, refl, sym, ap, ◌∙◌}
use Rattle.std.proofs.lemmas.List.Elements.{filter-append}
use Rattle.sqlite.specs.Order.{Row}

-- rows that all read as records give these records
pub all_read : {X : Type 0} (read : Row → Option X) (rows : List Row) (out : List X) → map read rows ≡ map Some out
    → flat_map (λ r. option_to_list (read r)) rows ≡ out
all_read read [] [] is = refl
all_read read [] (x ∷ out) is = absurd cc
all_read read (r ∷ rows) [] is = absurd cc
all_read read (r ∷ rows) (x ∷ out) is =
    let head : read r ≡ Some x = cc in
    let tail = all_read read rows out cc in rw (head, tail)

module _ {X : Type 0} (read : Row → Option X) (columns : Row → Row) (keeps : Row → Bool) (means : X → Bool)
    (agree : (r : Row) (x : X) → read (columns r) ≡ Some x → keeps r ≡ means x) where
  abbrev reads : List Row → List X
  reads = flat_map (λ r. option_to_list (read (columns r)))

  one_kept : (r : Row) (o : Option X) → read (columns r) ≡ o → (rest : List X)
      → cond (keeps r) (option_to_list o ++ rest) rest ≡ filter means (option_to_list o) ++ rest
  one_kept r None is rest = elim (keeps r) as (λ b. cond b rest rest ≡ rest) [ true ↦ refl | false ↦ refl ]
  one_kept r (Some x) is rest = rw (agree r x is) (elim (means x) as
      (λ b. cond b (x ∷ rest) rest ≡ cond b (x ∷ []) [] ++ rest) [ true ↦ refl | false ↦ refl ])

  -- WHERE on the rows is the test on the records
  pub kept_records : (rows : List Row) → reads (filter keeps rows) ≡ filter means (reads rows)
  kept_records [] = refl
  kept_records (r ∷ rows) =
      let kept = filter keeps rows in
      let head : reads (cond (keeps r) (r ∷ kept) kept) ≡ cond (keeps r)
      (option_to_list (read (columns r)) ++ reads kept) (reads kept) =
      elim (keeps r) as (λ b. reads (cond b (r ∷ kept) kept) ≡ cond b (option_to_list (read (columns r)) ++ reads kept)
      (reads kept)) [ true ↦ refl | false ↦ refl ] in
      head ∙ one_kept r (read (columns r)) refl (reads kept)
      ∙ ap (λ l. filter means (option_to_list (read (columns r))) ++ l) (kept_records rows)
      ∙ sym (filter-append means (option_to_list (read (columns r))) (reads rows))
