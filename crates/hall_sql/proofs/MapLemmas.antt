-- A row that is put in a table is put in the map that the table stands for.
use Rattle.std.proofs.Common.{◌≡◌, List, [], ◌∷◌, ◌++◌, filter, flat_map, Bool, true, false, cond, Option, Some, None}
use Rattle.std.proofs.Common.{refl, sym, ap, subst, ◌∙◌}
use Rattle.std.proofs.lemmas.Bool.{or_parts}
use Rattle.std.specs.List.{AllByRecursion}
use Rattle.std.specs.Cmp.{IsTotalOrder}
use Rattle.std.specs.declared.cmp.Ordering.{Ordering}
use Rattle.std.specs.declared.cmp.Ordering.TheVariants.{Less, Equal, Greater}
use Rattle.std.specs.Ordering.{is_eq, eq_by_cmp, match_ordering}
use Rattle.std.specs.FinMap.{IsAntisymmetric, find as find_key, get, insert as put_in, get-from_entries, get-insert}
use Rattle.std.specs.FinMap.{same_map}
use Rattle.sqlite.specs.Order.{Row}
use Rattle.sqlite_value.specs.Order.{value_cmp}
use Rattle.sqlite_trees.specs.Tree.{rowid, put_row}
use Rattle.sqlite_rules.specs.Edit.{is_taken}
use Rattle.hall_sql.specs.Rows.{entry, kept}

pub equal_is : (o : Ordering) → is_eq o ≡ true → o ≡ Equal
equal_is Less h = absurd cc
equal_is Equal h = refl
equal_is Greater h = absurd cc

module _ {K X : Type 0} {R : K → K → Ordering} (total : IsTotalOrder R) (same : IsAntisymmetric R) (key : X → K)
    (read : Row → Option X) where
  abbrev pub found : K → List Row → Option X
  found q rows = find_key R q (flat_map (λ r. entry key (read r)) rows)

  -- the row stands for no record with the key
  abbrev pub Lacks : K → Row → Type 0
  Lacks q r = find_key R q (entry key (read r)) ≡ None

  not_some : (b : Bool) (y : X) → cond b (Some y) None ≡ None → b ≡ false
  not_some true y h = absurd cc
  not_some false y h = refl

  tied_keys : (q x y : K) → eq_by_cmp R q x ≡ true → eq_by_cmp R q y ≡ true → eq_by_cmp R x y ≡ true
  tied_keys q x y a b = let one : q ≡ x = same q x (equal_is _ a) in subst (λ k. eq_by_cmp R k y ≡ true) one b

  swapped : (a b : Bool) (x y z : Option X) → (a ≡ true → b ≡ true → ⊥) → cond a x (cond b y z) ≡ cond b y (cond a x z)
  swapped true true x y z apart = absurd (apart refl refl)
  swapped true false x y z apart = refl
  swapped false b x y z apart = refl

  abbrev puts : K → X → Option X → Option X
  puts q x before = cond (eq_by_cmp R q (key x)) (Some x) before

  -- one more entry in front
  behind : (q : K) (x : X) (o : Option X) (es fs : List (K × X)) → find_key R (key x) (entry key o) ≡ None
      → find_key R q es ≡ puts q x (find_key R q fs)
      → find_key R q (entry key o ++ es) ≡ puts q x (find_key R q (entry key o ++ fs))
  behind q x None es fs lacks more = more
  behind q x (Some y) es fs lacks more =
      ap (λ f. cond (eq_by_cmp R q (key y)) (Some y) f) more
      ∙ swapped _ _ _ _ _ (λ a b. let no = not_some _ y lacks in let yes = tied_keys q (key x) (key y) b a in cc)

  pub put_found : (q : K) (x : X) (new : Row) → read new ≡ Some x → (rows : List Row) → is_taken rows new ≡ false
      → AllByRecursion (Lacks (key x)) rows → found q (put_row new rows) ≡ puts q x (found q rows)
  put_found q x new is [] free lacks = rw is
  put_found q x new is (r ∷ rows) free lacks = go (value_cmp (rowid r) (rowid new)) (or_parts _ _ free).0
      (put_found q x new is rows (or_parts _ _ free).1 lacks.1)
    where
      go : (o : Ordering) → is_eq o ≡ false → found q (put_row new rows) ≡ puts q x (found q rows)
          → found q (match_ordering o (r ∷ put_row new rows) (new ∷ rows) (new ∷ r ∷ rows)) ≡ puts q x
          (found q (r ∷ rows))
      go Less other more = behind q x (read r) _ _ lacks.0 more
      go Equal other more = absurd cc
      go Greater other more = rw is

  one_less : (q : K) (o : Option X) (es fs : List (K × X)) → find_key R q (entry key o) ≡ None
      → find_key R q es ≡ find_key R q fs → find_key R q es ≡ find_key R q (entry key o ++ fs)
  one_less q None es fs lacks more = more
  one_less q (Some y) es fs lacks more = let no = not_some _ y lacks in rw no more

  -- rows that are taken out and lack the key
  pub filter_found : (q : K) (keep : Row → Bool) (rows : List Row) → AllByRecursion (λ r. keep r ≡ false → Lacks q r)
      rows → found q (filter keep rows) ≡ found q rows
  filter_found q keep [] lacks = refl
  filter_found q keep (r ∷ rows) lacks = go (keep r) refl (filter_found q keep rows lacks.1)
    where
      go : (b : Bool) → keep r ≡ b → found q (filter keep rows) ≡ found q rows
          → found q (cond b (r ∷ filter keep rows) (filter keep rows)) ≡ found q (r ∷ rows)
      go true is more = ap (λ f. find_key R q (entry key (read r) ++ f)) refl ∙ behind_same (read r) _ _ more
        where
          behind_same : (o : Option X) (es fs : List (K × X)) → find_key R q es ≡ find_key R q fs
              → find_key R q (entry key o ++ es) ≡ find_key R q (entry key o ++ fs)
          behind_same None es fs e = e
          behind_same (Some y) es fs e = ap (λ f. cond (eq_by_cmp R q (key y)) (Some y) f) e
      go false is more = one_less q (read r) _ _ (lacks.0 is) more

  pub get_kept : (q : K) (rows : List Row) → get (kept R key read rows) q ≡ found q rows
  get_kept q rows = get-from_entries total _ q

  -- a row that is put where no other has its key, and what was taken out had at most that key: insert or replace
  pub replaced : (x : X) (new : Row) (left old out : List Row) → out ≡ put_row new left → read new ≡ Some x
      → is_taken left new ≡ false → AllByRecursion (Lacks (key x)) left
      → ((q : K) → eq_by_cmp R q (key x) ≡ false → found q left ≡ found q old)
      → kept R key read out ≡ put_in (kept R key read old) (key x) x
  replaced x new left old out put is free lacks others =
      same_map total same _ _ (λ q. get_kept q out ∙ ap (found q) put ∙ put_found q x new is left free lacks
      ∙ picked (eq_by_cmp R q (key x)) (found q left) (found q old) (others q)
      ∙ ap (puts q x) (sym (get_kept q old)) ∙ sym (get-insert total (kept R key read old) (key x) x q))
    where
      picked : (b : Bool) (f g : Option X) → (b ≡ false → f ≡ g) → cond b (Some x) f ≡ cond b (Some x) g
      picked true f g e = refl
      picked false f g e = e refl

  both_lack : (q : K) (o : Option X) (es : List (K × X)) → find_key R q (entry key o ++ es) ≡ None
      → (find_key R q (entry key o) ≡ None) × (find_key R q es ≡ None)
  both_lack q None es h = (refl, h)
  both_lack q (Some y) es h = go (eq_by_cmp R q (key y)) h
    where
      go : (b : Bool) → cond b (Some y) (find_key R q es) ≡ None → (cond b (Some y) None ≡ None)
          × (find_key R q es ≡ None)
      go true h = absurd cc
      go false h = (refl, h)

  rows_lack : (q : K) (rows : List Row) → found q rows ≡ None → AllByRecursion (Lacks q) rows
  rows_lack q [] h = tt
  rows_lack q (r ∷ rows) h = let both = both_lack q (read r) _ h in (both.0, rows_lack q rows both.1)

  -- a row that is put under a key that the map lacks
  pub put_new : (x : X) (new : Row) (rows out : List Row) → out ≡ put_row new rows → read new ≡ Some x
      → is_taken rows new ≡ false → get (kept R key read rows) (key x) ≡ None
      → kept R key read out ≡ put_in (kept R key read rows) (key x) x
  put_new x new rows out put is free lacks =
      replaced x new rows rows out put is free (rows_lack (key x) rows (sym (get_kept (key x) rows) ∙ lacks))
      (λ q apart. refl)
