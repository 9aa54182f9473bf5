-- Rows that read as entries of a map, a key beside a value.
use lib.Dec.{T}
use Rattle.std.proofs.Common.{◌≡◌, inl, inr, ℤ, List, [], ◌∷◌, ◌++◌, map, filter, flat_map, Bool, true, false, not}
use Rattle.std.proofs.Common.{cond, ◌||◌, ◌&&◌, ap₂, Option, Some, None, option_map, option_to_list, refl, sym, ap}
use Rattle.std.proofs.Common.{subst, ◌∙◌}
use Rattle.std.proofs.lemmas.Bool.{cases_Bool}
use Rattle.std.proofs.lemmas.List.Sorted.{IsPermutation-sym}
use Rattle.std.specs.List.{AllByRecursion, list_any}
use Rattle.std.specs.List.Sorted.{IsPermutation}
use Rattle.std.specs.Cmp.{IsTotalOrder}
use Rattle.std.specs.declared.cmp.Ordering.{Ordering}
use Rattle.std.specs.declared.cmp.Ordering.TheVariants.{Equal}
use Rattle.std.specs.Ordering.{eq_by_cmp, is_lt}
use Rattle.std.specs.FinMap.{FinMap, IsAntisymmetric, find as find_key, is_sorted, entries, values, get}
use Rattle.std.specs.FinMap.{insert as put_in, retain_keys, from_entries, from_sorted, entries_sorted}
use Rattle.std.specs.FinMap.{entries-from_sorted, get-entries, get-from_entries, get-from_sorted, get-insert}
use Rattle.std.specs.FinMap.{get-retain_keys, same_map}
use Rattle.std.specs.FinMap.Entries.{below_all}
use Rattle.sqlite.specs.Order.{Row}
use Rattle.sqlite.specs.declared.types.Value.TheVariants.{Int}
use Rattle.sqlite_value.specs.Order.{value_cmp}
use Rattle.sqlite_trees.specs.Tree.{rowid, put_row, without_rowid, has_rowid}
use Rattle.sqlite_trees.proofs.ListLemmas.{filter_same, all-permutation}
use Rattle.sqlite_rules.specs.Lists.{Has}
use Rattle.sqlite_rules.specs.Calls.{ids_of}
use Rattle.sqlite_rules.specs.Edit.{id_in, is_taken, without_all}
use Rattle.sqlite_rules.proofs.ListLemmas.{all_has, all_from, has_filtered, has_kept, some_has, some_from}
use Rattle.sqlite_rules.proofs.ProbeLemmas.{has_mapped, mapped_has}
use Rattle.sqlite_rules.proofs.TableLemmas.{int_is}
use Rattle.hall_sql.specs.Standing.{AreKeyed}
use Rattle.hall_sql.specs.Rows.{entry, kept}
use Rattle.hall_sql.proofs.MapLemmas.{equal_is, Lacks, found, get_kept, put_found, filter_found}
use Rattle.hall_sql.proofs.RisingLemmas.{AreOwn, kept_own}
use Rattle.hall_sql.proofs.KeyedLemmas.{keyed_same}
use Rattle.hall_sql.proofs.UpdateLemmas.{has_itself}

module _ {K X : Type 0} {R : K → K → Ordering} (total : IsTotalOrder R) (same : IsAntisymmetric R)
    (read : Row → Option (K × X)) where
  abbrev pub map_of : List Row → FinMap R X
  map_of rows = from_entries (flat_map (λ r. option_to_list (read r)) rows)

  abbrev key_in : K × X → K
  key_in e = e.0

  behind : (q : K) (o : Option (K × X)) (es : List (K × X)) (fs : List (K × (K × X)))
      → find_key R q es ≡ option_map (λ e. e.1) (find_key R q fs)
      → find_key R q (option_to_list o ++ es) ≡ option_map (λ e. e.1) (find_key R q (entry key_in o ++ fs))
  behind q None es fs h = h
  behind q (Some e) es fs h = go (eq_by_cmp R q e.0)
    where
      go : (b : Bool) → cond b (Some e.1) (find_key R q es) ≡ option_map (λ e. e.1) (cond b (Some e) (find_key R q fs))
      go true = refl
      go false = h

  found_value : (q : K) (rows : List Row) → find_key R q (flat_map (λ r. option_to_list (read r)) rows) ≡ option_map
      (λ e. e.1) (found total same key_in read q rows)
  found_value q [] = refl
  found_value q (r ∷ rows) = behind q (read r) _ _ (found_value q rows)

  pub get_entry : (q : K) (rows : List Row) → get (map_of rows) q ≡ option_map (λ e. e.1)
      (found total same key_in read q rows)
  get_entry q rows = get-from_entries total _ q ∙ found_value q rows

  -- ---- as entries

  abbrev beside : K × (K × X) → K × X
  beside e = (e.0, e.1.1)

  find_beside : (q : K) (es : List (K × (K × X))) → find_key R q (map beside es) ≡ option_map (λ e. e.1)
      (find_key R q es)
  find_beside q [] = refl
  find_beside q (e ∷ es) = go (eq_by_cmp R q e.0) (find_beside q es)
    where
      go : (b : Bool) → find_key R q (map beside es) ≡ option_map (λ e. e.1) (find_key R q es)
          → cond b (Some e.1.1) (find_key R q (map beside es)) ≡ option_map (λ e. e.1)
          (cond b (Some e.1) (find_key R q es))
      go true more = refl
      go false more = more

  below_beside : (k : K) (es : List (K × (K × X))) → below_all R k (map beside es) ≡ below_all R k es
  below_beside k [] = refl
  below_beside k (e ∷ es) = ap (λ b. is_lt (R k e.0) && b) (below_beside k es)

  sorted_beside : (es : List (K × (K × X))) → is_sorted R (map beside es) ≡ is_sorted R es
  sorted_beside [] = refl
  sorted_beside (e ∷ es) = ap₂ ◌&&◌ (below_beside e.0 es) (sorted_beside es)

  own_beside : (es : List (K × (K × X))) → AreOwn total same key_in es → map beside es ≡ map (λ e. e.1) es
  own_beside [] own = refl
  own_beside (e ∷ es) own = λ i. (own.0 i, e.1.1) ∷ own_beside es own.1 i

  -- the map's entries are the rows' records, in the order of their keys
  pub entries_kept : (rows : List Row) → values (kept R key_in read rows) ≡ entries (map_of rows)
  entries_kept rows =
      let m = kept R key_in read rows in
      let es = entries m in
      let up : T (is_sorted R (map beside es)) = subst T (sym (sorted_beside es)) (entries_sorted m) in
      let is : map_of rows ≡ from_sorted (map beside es) = same_map total same _ _ (λ q.
      get_entry q rows ∙ ap (option_map (λ e. e.1)) (sym (get_kept total same key_in read q rows) ∙ get-entries m q)
      ∙ sym (find_beside q es) ∙ sym (get-from_sorted R (map beside es) q up)) in
      sym (ap entries is ∙ entries-from_sorted R (map beside es) up
      ∙ own_beside es (kept_own total same key_in read rows))

  no_value : (o : Option (K × X)) → option_map (λ e. e.1) o ≡ None → o ≡ None
  no_value None h = refl
  no_value (Some e) h = absurd cc

  -- where the map has no such key, no row has it
  all_lack : (q : K) (rows : List Row) → found total same key_in read q rows ≡ None
      → AllByRecursion (Lacks total same key_in read q) rows
  all_lack q [] h = tt
  all_lack q (r ∷ rows) h = step (read r) refl (all_lack q rows)
    where
      split : (e : K × X) (b : Bool) (fs : List (K × (K × X))) → eq_by_cmp R q e.0 ≡ b
          → cond b (Some e) (find_key R q fs) ≡ None → (find_key R q (entry key_in (Some e)) ≡ None)
          × (find_key R q fs ≡ None)
      split e true fs is h = absurd cc
      split e false fs is h = (rw is, h)

      step : (o : Option (K × X)) → read r ≡ o → (found total same key_in read q rows ≡ None
          → AllByRecursion (Lacks total same key_in read q) rows) → AllByRecursion (Lacks total same key_in read q)
          (r ∷ rows)
      step None is more = (
        ap (λ o. find_key R q (entry key_in o)) is,
        more
            (subst (λ o. find_key R q (entry key_in o ++ flat_map (λ r. entry key_in (read r)) rows) ≡ None) is h),
      )
      step (Some e) is more =
          let both = split e (eq_by_cmp R q e.0) (flat_map (λ r. entry key_in (read r)) rows) refl
          (subst (λ o. find_key R q (entry key_in o ++ flat_map (λ r. entry key_in (read r)) rows) ≡ None) is h) in
          (ap (λ o. find_key R q (entry key_in o)) is ∙ both.0, more both.1)

  -- a row that is put under a key that the map lacks
  pub put_entry : (k : K) (x : X) (new : Row) (rows out : List Row) → get (map_of rows) k ≡ None
      → read new ≡ Some (k, x) → is_taken rows new ≡ false → out ≡ put_row new rows
      → map_of out ≡ put_in (map_of rows) k x
  put_entry k x new rows out none is free put =
      let lacks = all_lack k rows (no_value _ (sym (get_entry k rows) ∙ none)) in
      same_map total same _ _ (λ q. get_entry q out ∙ ap (λ l. option_map (λ e. e.1) (found total same key_in read q l))
      put
      ∙ ap (option_map (λ e. e.1)) (put_found total same key_in read q (k, x) new is rows free lacks)
      ∙ picked (eq_by_cmp R q k) (found total same key_in read q rows)
      ∙ ap (λ o. cond (eq_by_cmp R q k) (Some x) o) (sym (get_entry q rows))
      ∙ sym (get-insert total (map_of rows) k x q))
    where
      picked : (b : Bool) (o : Option (K × X)) → option_map (λ e. e.1) (cond b (Some (k, x)) o) ≡ cond b (Some x)
          (option_map (λ e. e.1) o)
      picked true o = refl
      picked false o = refl

  module _ (drops : K → Bool) (keeps : Row → Bool) (agree : (r : Row) (e : K × X) → read r ≡ Some e
      → keeps r ≡ drops e.0) where
    lacks_if : (q : K) (r : Row) (b : Bool) → keeps r ≡ b → ((k : K) → drops k ≡ b → eq_by_cmp R q k ≡ false)
        → Lacks total same key_in read q r
    lacks_if q r b is apart = go (read r) refl
      where
        go : (o : Option (K × X)) → read r ≡ o → find_key R q (entry key_in o) ≡ None
        go None e = refl
        go (Some p) e = let no = apart p.0 (sym (agree r p e) ∙ is) in rw no

    differ_if : (q k : K) (b : Bool) → drops q ≡ not b → drops k ≡ b → eq_by_cmp R q k ≡ false
    differ_if q k b p h = elim (cases_Bool (eq_by_cmp R q k)) [
      | inl tie ↦ absurd (clash b (sym p ∙ ap drops (same q k (equal_is _ tie)) ∙ h))
      | inr apart ↦ apart
    ]
      where
        clash : (b : Bool) → not b ≡ b → ⊥
        clash true h = cc
        clash false h = cc

    all_lack_in : (q : K) (rows : List Row) → AllByRecursion (Lacks total same key_in read q) rows
        → found total same key_in read q rows ≡ None
    all_lack_in q [] all = refl
    all_lack_in q (r ∷ rows) all = step (read r) all.0 (all_lack_in q rows all.1)
      where
        step : (o : Option (K × X)) → find_key R q (entry key_in o) ≡ None → found total same key_in read q rows ≡ None
            → find_key R q (entry key_in o ++ flat_map (λ r. entry key_in (read r)) rows) ≡ None
        step None one more = more
        step (Some e) one more = go (eq_by_cmp R q e.0) one
          where
            go : (b : Bool) → cond b (Some e) None ≡ None → cond b (Some e)
                (find_key R q (flat_map (λ r. entry key_in (read r)) rows)) ≡ None
            go true h = absurd cc
            go false h = more

    -- what is taken out of the table is taken out of the map
    pub cut_entries : (rows : List Row) → map_of (filter (λ r. not (keeps r)) rows) ≡ retain_keys (map_of rows)
        (λ k. not (drops k))
    cut_entries rows =
        same_map total same _ _ (λ q. get_entry q _ ∙ at_key q (drops q) refl
        ∙ sym (get-retain_keys (map_of rows) (λ k. not (drops k)) q
        (λ x tie. ap (λ k. not (drops k)) (sym (same q x tie)))))
      where
        not_false : (b : Bool) → not b ≡ false → b ≡ true
        not_false true h = refl
        not_false false h = absurd cc

        not_true : (b : Bool) → not b ≡ true → b ≡ false
        not_true true h = absurd cc
        not_true false h = refl

        at_key : (q : K) (b : Bool) → drops q ≡ b → option_map (λ e. e.1)
            (found total same key_in read q (filter (λ r. not (keeps r)) rows)) ≡ cond (not (drops q))
            (get (map_of rows) q) None
        at_key q true is =
            let none = all_lack_in q (filter (λ r. not (keeps r)) rows)
            (all_from _ _ (λ r h. lacks_if q r false (not_true _ (has_filtered (λ r. not (keeps r)) rows r h).1)
            (λ k e. differ_if q k false is e))) in
            ap (option_map (λ e. e.1)) none ∙ ap (λ b. cond (not b) (get (map_of rows) q) None) (sym is)
        at_key q false is =
            ap (option_map (λ e. e.1)) (filter_found total same key_in read q (λ r. not (keeps r)) rows
            (all_from _ rows (λ r h gone. lacks_if q r true (not_false _ gone) (λ k e. differ_if q k true is e))))
            ∙ sym (get_entry q rows) ∙ ap (λ b. cond (not b) (get (map_of rows) q) None) (sym is)

-- two insertions change turns, where they put one value if their keys are one
swapped : {X : Type 0} (a b : Bool) (x y z : X) → (a ≡ true → b ≡ true → x ≡ y)
    → cond a x (cond b y z) ≡ cond b y (cond a x z)
swapped true true x y z one = one refl refl
swapped true false x y z one = refl
swapped false b x y z one = refl

pub inserts_swapped : {K X : Type 0} {R : K → K → Ordering} (total : IsTotalOrder R) (same : IsAntisymmetric R)
    (m : FinMap R X) (a b : K) (x y : X) → (a ≡ b → x ≡ y)
    → put_in (put_in m a x) b y ≡ put_in (put_in m b y) a x
inserts_swapped {R = R} total same m a b x y one =
    same_map total same _ _ (λ q.
    get-insert total (put_in m a x) b y q
    ∙ ap (cond (eq_by_cmp R q b) (Some y)) (get-insert total m a x q)
    ∙ swapped (eq_by_cmp R q b) (eq_by_cmp R q a) (Some y) (Some x) (get m q)
    (λ tie_b tie_a. ap Some (sym (one (sym (same q a (equal_is _ tie_a)) ∙ same q b (equal_is _ tie_b)))))
    ∙ ap (cond (eq_by_cmp R q a) (Some x)) (sym (get-insert total m b y q))
    ∙ sym (get-insert total (put_in m b y) a x q))

-- ---- the rows that a DELETE takes out

without_filter : (ids : List ℤ) (rows : List Row) → without_all rows ids ≡ filter
    (λ r. not (list_any (λ id. has_rowid id r) ids)) rows
without_filter [] rows = sym (all_kept rows)
  where
    all_kept : (rows : List Row) → filter (λ r. true) rows ≡ rows
    all_kept [] = refl
    all_kept (r ∷ rows) = ap (λ l. r ∷ l) (all_kept rows)
without_filter (id ∷ ids) rows = without_filter ids (without_rowid id rows) ∙ twice rows
  where
    twice : (rows : List Row) → filter (λ r. not (list_any (λ id. has_rowid id r) ids))
        (filter (λ r. not (has_rowid id r)) rows) ≡ filter (λ r. not
        (has_rowid id r || list_any (λ id. has_rowid id r) ids)) rows
    twice [] = refl
    twice (r ∷ rows) = elim (cases_Bool (has_rowid id r)) [
      | inl gone ↦ rw gone (twice rows)
      | inr stays ↦ rw stays (elim (cases_Bool (list_any (λ id. has_rowid id r) ids))
          [ inl also ↦ rw also (twice rows) | inr none ↦ rw none (ap (λ l. r ∷ l) (twice rows)) ])
    ]

-- where no rowid stands twice, what is gone is what passed
pub cut_rows : (keeps : Row → Bool) (rows found : List Row) → AreKeyed rows → IsPermutation (filter keeps rows) found
    → without_all rows (ids_of found) ≡ filter (λ r. not (keeps r)) rows
cut_rows keeps rows found keyed perm =
    without_filter (ids_of found) rows ∙ filter_same (λ r. not (list_any (λ id. has_rowid id r) (ids_of found)))
    (λ r. not (keeps r)) rows (all_from _ rows (λ r h. ap not (same_test r h (keeps r) refl)))
  where
    there : (r : Row) → Has found r → Has rows r × (keeps r ≡ true)
    there r h = has_filtered keeps rows r (all_has (Has (filter keeps rows)) found r
        (all-permutation (Has (filter keeps rows)) (filter keeps rows) found perm
        (all_from (Has (filter keeps rows)) (filter keeps rows) (λ e k. k))) h)

    back : (r : Row) → Has rows r → keeps r ≡ true → Has found r
    back r h k = all_has (Has found) (filter keeps rows) r (all-permutation (Has found) found (filter keeps rows)
        (IsPermutation-sym _ _ perm) (all_from (Has found) found (λ e k. k))) (has_kept keeps rows r h k)

    same_test : (r : Row) → Has rows r → (b : Bool) → keeps r ≡ b → list_any (λ id. has_rowid id r) (ids_of found) ≡
        keeps r
    same_test r h true k =
        some_from (λ id. has_rowid id r) (ids_of found) (id_in (rowid r))
        (mapped_has (λ r. id_in (rowid r)) found r (back r h k)) (has_itself r (all_has _ rows r keyed.ints h))
        ∙ sym k
    same_test r h false k = elim (cases_Bool (list_any (λ id. has_rowid id r) (ids_of found))) [
      | inl some ↦ absurd (
          let one = some_has (λ id. has_rowid id r) (ids_of found) some in
          let f = has_mapped (λ r. id_in (rowid r)) found one.0 one.1 in
          let in_rows = there f.0 f.1 in
          let tie : value_cmp (rowid r) (rowid f.0) ≡ Equal =
          subst (λ v. value_cmp (rowid r) v ≡ Equal) (ap Int f.2
          ∙ sym (int_is (rowid f.0) (all_has _ rows f.0 keyed.ints in_rows.0))) (equal_is _ one.2) in
          let is : r ≡ f.0 = keyed_same rows r f.0 keyed h in_rows.0 tie in
          let no : true ≡ false = sym in_rows.1 ∙ ap keeps (sym is) ∙ k in cc
          )
      | inr none ↦ none ∙ sym k
    ]
