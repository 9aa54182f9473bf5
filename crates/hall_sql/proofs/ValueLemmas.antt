-- Where no two rows have one key, the map has each record once.
use Rattle.std.proofs.Common.{length, arith, ◌≡◌, List, [], ◌∷◌, ◌++◌, map, flat_map, Bool, true, false, cond, Option}
use Rattle.std.proofs.Common.{Some, None, option_to_list, refl, sym, ap, subst, ◌∙◌}
use Rattle.std.proofs.lemmas.List.Sorted.{IsPermutation-refl, IsPermutation-cons, IsPermutation-trans}
use Rattle.std.proofs.lemmas.List.Sorted.{IsPermutation-middle, IsPermutation-map}
use Rattle.std.specs.List.Sorted.{IsPermutation}
use Rattle.std.specs.List.{AllByRecursion}
use Rattle.std.specs.Cmp.{IsTotalOrder}
use Rattle.std.specs.declared.cmp.Ordering.{Ordering}
use Rattle.std.specs.declared.cmp.Ordering.TheVariants.{Less, Equal, Greater}
use Rattle.std.specs.Ordering.{is_eq, eq_by_cmp}
use Rattle.std.specs.FinMap.{find as find_key, entries, values, from_entries, get-from_entries, get-entries}
use Rattle.std.specs.FinMap.{entries-insert, empty, len-empty, len-entries}
use Rattle.std.specs.FinMap.Entries.{put, by_order}
use Rattle.sqlite.specs.Order.{Row}
use Rattle.hall_sql.specs.Rows.{entry, kept}

pub no_more : {A : Type 0} (xs : List A) → length xs ≡ 0 → xs ≡ []
no_more [] e = refl
no_more (x ∷ xs) e = absurd (omega (arith, e))

module _ {K X : Type 0} {R : K → K → Ordering} (total : IsTotalOrder R) where
  -- no key stands twice
  abbrev pub AreApart : List (K × X) → Type 0
  AreApart [] = Unit {0}
  AreApart (e ∷ es) = (find_key R e.0 es ≡ None) × AreApart es

  put_new : (k : K) (v : X) (es : List (K × X)) → find_key R k es ≡ None → IsPermutation ((k, v) ∷ es) (put R k v es)
  put_new k v [] none = IsPermutation-refl _
  put_new k v (e ∷ es) none = go (R k e.0) none (put_new k v es)
    where
      go : (o : Ordering) → cond (is_eq o) (Some e.1) (find_key R k es) ≡ None
          → (find_key R k es ≡ None → IsPermutation ((k, v) ∷ es) (put R k v es))
          → IsPermutation ((k, v) ∷ e ∷ es) (by_order o ((k, v) ∷ e ∷ es) ((e.0, v) ∷ es) (e ∷ put R k v es))
      go Less none more = IsPermutation-refl _
      go Equal none more = absurd cc
      go Greater none more = IsPermutation-trans _ _ _ (IsPermutation-middle ((k, v) ∷ []) e es)
          (IsPermutation-cons e _ _ (more none))

  pub entries_permute : (es : List (K × X)) → AreApart es → IsPermutation es (entries (from_entries {R = R} es))
  entries_permute [] apart = subst (IsPermutation []) (sym (no_more (entries (empty {X = X} {R = R}))
      (sym (len-entries (empty {X = X} {R = R})) ∙ len-empty R X))) (IsPermutation-refl [])
  entries_permute (e ∷ es) apart =
      let fresh : find_key R e.0 (entries (from_entries {R = R} es)) ≡ None = sym (get-entries (from_entries es) e.0)
      ∙ get-from_entries total es e.0 ∙ apart.0 in
      subst (IsPermutation (e ∷ es)) (sym (entries-insert total (from_entries es) e.0 e.1))
      (IsPermutation-trans _ _ _ (IsPermutation-cons e _ _ (entries_permute es apart.1))
      (put_new e.0 e.1 (entries (from_entries {R = R} es)) fresh))

  module _ (key : X → K) (read : Row → Option X) where
    one_record : (o : Option X) (es : List (K × X)) → map (λ e. e.1) (entry key o ++ es) ≡ option_to_list o
        ++ map (λ e. e.1) es
    one_record None es = refl
    one_record (Some x) es = refl

    records : (rows : List Row) → map (λ e. e.1) (flat_map (λ r. entry key (read r)) rows) ≡ flat_map
        (λ r. option_to_list (read r)) rows
    records [] = refl
    records (r ∷ rows) = one_record (read r) _ ∙ ap (λ l. option_to_list (read r) ++ l) (records rows)

    -- the records of the rows are the values of the map
    pub values_permute : (rows : List Row) → AreApart (flat_map (λ r. entry key (read r)) rows)
        → IsPermutation (flat_map (λ r. option_to_list (read r)) rows) (values (kept R key read rows))
    values_permute rows apart = subst (λ l. IsPermutation l (values (kept R key read rows))) (records rows)
        (IsPermutation-map (λ e. e.1) _ _ (entries_permute _ apart))

    one_apart : (o : Option X) (es : List (K × X)) → ((x : X) → o ≡ Some x → find_key R (key x) es ≡ None) → AreApart es
        → AreApart (entry key o ++ es)
    one_apart None es fresh apart = apart
    one_apart (Some x) es fresh apart = (fresh x refl, apart)

    lacked : (q : K) (o : Option X) (es : List (K × X)) → find_key R q (entry key o) ≡ None → find_key R q es ≡ None
        → find_key R q (entry key o ++ es) ≡ None
    lacked q None es one more = more
    lacked q (Some y) es one more = go (eq_by_cmp R q (key y)) one
      where
        go : (b : Bool) → cond b (Some y) None ≡ None → cond b (Some y) (find_key R q es) ≡ None
        go true h = absurd cc
        go false h = more

    pub all_lack : (q : K) (rows : List Row) → AllByRecursion (λ r. find_key R q (entry key (read r)) ≡ None) rows
        → find_key R q (flat_map (λ r. entry key (read r)) rows) ≡ None
    all_lack q [] all = refl
    all_lack q (r ∷ rows) all = lacked q (read r) _ all.0 (all_lack q rows all.1)

    -- each row lacks the keys of the rows behind it
    abbrev pub AreAlone : List Row → Type 0
    AreAlone [] = Unit {0}
    AreAlone (r ∷ rows) = ((x : X) → read r ≡ Some x → AllByRecursion
        (λ y. find_key R (key x) (entry key (read y)) ≡ None) rows) × AreAlone rows

    pub alone_apart : (rows : List Row) → AreAlone rows → AreApart (flat_map (λ r. entry key (read r)) rows)
    alone_apart [] alone = tt
    alone_apart (r ∷ rows) alone = one_apart (read r) _ (λ x is. all_lack (key x) rows (alone.0 x is))
        (alone_apart rows alone.1)
