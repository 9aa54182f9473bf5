-- A statement spares the rows that it doesn't write.
use Rattle.std.proofs.Common.{◌≡◌, ◌≢◌, ◌==◌, inl, inr, ℕ, List, [], ◌∷◌, filter, Bool, true, false, not, cond, Option}
use Rattle.std.proofs.Common.{Some, refl, sym, ap, subst, ◌∙◌}
use Rattle.std.proofs.lemmas.Bool.{cases_Bool}
use Rattle.std.proofs.lemmas.Cmp.{tied_itself}
use Rattle.std.specs.List.{AllByRecursion}
use Rattle.std.specs.Cmp.{IsTotalOrder}
use Rattle.std.specs.declared.cmp.Ordering.{Ordering}
use Rattle.std.specs.declared.cmp.Ordering.TheVariants.{Less, Equal, Greater}
use Rattle.std.specs.Ordering.{is_eq, eq_by_cmp, match_ordering}
use Rattle.sqlite.specs.Order.{Row}
use Rattle.sqlite.specs.Table.{Table}
use Rattle.sqlite.specs.Tree.{Trees}
use Rattle.sqlite_value.specs.Order.{value_cmp}
use Rattle.sqlite_trees.specs.Tree.{rowid, put_row, without_rowid, has_rowid}
use Rattle.sqlite_rules.specs.Lists.{Has}
use Rattle.sqlite_rules.specs.Edit.{id_in, is_taken}
use Rattle.sqlite_rules.proofs.ListLemmas.{all_from, has_filtered}
use Rattle.hall_sql.specs.Spared.{is_keyed_by, AreOtherRowsKept, KeptOtherRows}
use Rattle.hall_sql.specs.Standing.{AreKeyed, IsReplaced}
use Rattle.hall_sql.specs.Tables.{hall_schema}
use Rattle.hall_sql.proofs.KeyedLemmas.{same_tree, other_tree}
use Rattle.hall_sql.proofs.ReplaceLemmas.{true_of_not, gone_is}

-- a key is itself
pub own_key : {K : Type 0} {R : K → K → Ordering} → IsTotalOrder R → (k : K) → eq_by_cmp R k k ≡ true
own_key total k = ap is_eq (tied_itself total k)

-- a row that is a record under the key is taken
pub taken_record : {K X : Type 0} {R : K → K → Ordering} → IsTotalOrder R → (key : X → K) (k : K) (o : Option X) (x : X)
    → o ≡ Some x → key x ≡ k → is_keyed_by R key k o ≡ true
taken_record {R = R} total key k o x is own = ap (is_keyed_by R key k) is ∙ ap (λ q. eq_by_cmp R q k) own
    ∙ own_key total k

module _ (takes : Row → Bool) where
  abbrev stays : Row → Bool
  stays r = not (takes r)

  -- a row that is taken, with a rowid of its own, is put beside the others
  put_spared : (new : Row) (rows : List Row) → takes new ≡ true → is_taken rows new ≡ false
      → filter stays (put_row new rows) ≡ filter stays rows
  put_spared new [] taken free = ap (λ b. cond (not b) (new ∷ []) []) taken
  put_spared new (r ∷ rows) taken free = at (put_spared new rows taken) (value_cmp (rowid r) (rowid new)) refl
    where
      at : (is_taken rows new ≡ false → filter stays (put_row new rows) ≡ filter stays rows) → (o : Ordering)
          → value_cmp (rowid r) (rowid new) ≡ o
          → filter stays (match_ordering o (r ∷ put_row new rows) (new ∷ rows) (new ∷ r ∷ rows)) ≡ filter stays
          (r ∷ rows)
      at more Less e =
          let rest : is_taken rows new ≡ false = rw e at free in
          ap (λ l. cond (stays r) (r ∷ l) l) (more rest)
      at more Equal e = absurd (let no : true ≡ false = rw e at free in cc)
      at more Greater e = ap (λ b. cond (not b) (new ∷ filter stays (r ∷ rows)) (filter stays (r ∷ rows))) taken

  pub added_spared : (rows out : List Row) (new : Row) → takes new ≡ true → is_taken rows new ≡ false
      → out ≡ put_row new rows → AreOtherRowsKept takes rows out
  added_spared rows out new taken free put = ap (filter stays) put ∙ put_spared new rows taken free

  -- what is cut out is taken
  pub cut_spared : (keeps : Row → Bool) (rows : List Row) → AllByRecursion (λ r. keeps r ≡ false → takes r ≡ true) rows
      → AreOtherRowsKept takes rows (filter keeps rows)
  cut_spared keeps [] all = refl
  cut_spared keeps (r ∷ rows) all = at (cut_spared keeps rows all.1) (keeps r) refl
    where
      at : AreOtherRowsKept takes rows (filter keeps rows) → (b : Bool) → keeps r ≡ b
          → filter stays (cond b (r ∷ filter keeps rows) (filter keeps rows)) ≡ filter stays (r ∷ rows)
      at more true e = ap (λ l. cond (stays r) (r ∷ l) l) more
      at more false e = more ∙ sym (ap (λ b. cond (not b) (r ∷ filter stays rows) (filter stays rows)) (all.0 e))

  pub replaced_spared : (keeps : Row → Bool) (made : Row → Row) (rows out : List Row) → AreKeyed rows
      → (it : IsReplaced keeps made rows out)
      → takes it.one ≡ true → takes (made it.one) ≡ true → AreOtherRowsKept takes rows out
  replaced_spared keeps made rows out keyed it was is =
      let one = it.one in
      let id = id_in (rowid one) in
      let there = (has_filtered keeps rows one (subst (λ l. Has l one) (sym it.found) (inl refl))).0 in
      let only = all_from (λ r. not (has_rowid id r) ≡ false → takes r ≡ true) rows
      (λ r h gone. ap takes (gone_is rows one r keyed there h gone) ∙ was) in
      added_spared (without_rowid id rows) out (made one) is it.free it.put
      ∙ cut_spared (λ r. not (has_rowid id r)) rows only

  pub dropped_spared : (rows out : List Row) → out ≡ filter stays rows → AreOtherRowsKept takes rows out
  dropped_spared rows out left = ap (filter stays) left ∙ cut_spared stays rows
      (all_from (λ r. stays r ≡ false → takes r ≡ true) rows (λ r h. true_of_not _))

-- what a narrower test leaves is spared
wider_rows : (takes wider : Row → Bool) → ((r : Row) → takes r ≡ true → wider r ≡ true) → (old new : List Row)
    → AreOtherRowsKept takes old new → AreOtherRowsKept wider old new
wider_rows takes wider more old new it =
    let cut = λ (rows : List Row). cut_spared wider (λ r. not (takes r)) rows
    (all_from (λ r. not (takes r) ≡ false → wider r ≡ true) rows (λ r h gone. more r (true_of_not _ gone))) in
    sym (cut new) ∙ ap (filter (λ r. not (wider r))) it ∙ cut old

pub wider_spared : (takes wider : ℕ → Row → Bool) → ((tree : ℕ) (r : Row) → takes tree r ≡ true → wider tree r ≡ true)
    → (old new : Trees) → KeptOtherRows takes old new
    → KeptOtherRows wider old new
wider_spared takes wider more old new = go hall_schema.tables
  where
    go : (tables : List Table) → AllByRecursion (λ (t : Table). AreOtherRowsKept (takes t.tree) (old t.tree)
        (new t.tree)) tables
        → AllByRecursion (λ (t : Table). AreOtherRowsKept (wider t.tree) (old t.tree) (new t.tree)) tables
    go [] all = tt
    go (t ∷ tables) all = (
      wider_rows (takes t.tree) (wider t.tree) (more t.tree) (old t.tree) (new t.tree) all.0,
      go
          tables all.1,
    )

-- where one table alone was written, all are spared if that one is
module _ (takes : ℕ → Row → Bool) where
  pub alone_spared : (tree : ℕ) (old new : Trees) → AreOtherRowsKept (takes tree) (old tree) (new tree)
      → AllByRecursion (λ (t : Table). t.tree ≢ tree → new t.tree ≡ old t.tree) hall_schema.tables
      → KeptOtherRows takes old new
  alone_spared tree old new here = go hall_schema.tables
    where
      go : (tables : List Table) → AllByRecursion (λ (t : Table). t.tree ≢ tree → new t.tree ≡ old t.tree) tables
          → AllByRecursion (λ (t : Table). AreOtherRowsKept (takes t.tree) (old t.tree) (new t.tree)) tables
      go [] others = tt
      go (t ∷ tables) others = (
        elim (cases_Bool (t.tree == tree)) [
          | inl is ↦ subst (λ n. AreOtherRowsKept (takes n) (old n) (new n)) (sym (same_tree t.tree tree is)) here
          | inr apart ↦ ap (filter (λ r. not (takes t.tree r))) (others.0 (other_tree t.tree tree apart))
        ],
        go tables others.1,
      )

  -- what isn't written is spared
  pub same_spared : (trees : Trees) → KeptOtherRows takes trees trees
  same_spared trees = go hall_schema.tables
    where
      go : (tables : List Table) → AllByRecursion (λ (t : Table). AreOtherRowsKept (takes t.tree) (trees t.tree)
          (trees t.tree)) tables
      go [] = tt
      go (t ∷ tables) = (refl, go tables)

  pub then_spared : (a b c : Trees) → KeptOtherRows takes a b → KeptOtherRows takes b c → KeptOtherRows takes a c
  then_spared a b c = go hall_schema.tables
    where
      go : (tables : List Table) → AllByRecursion (λ (t : Table). AreOtherRowsKept (takes t.tree) (a t.tree) (b t.tree))
          tables
          → AllByRecursion (λ (t : Table). AreOtherRowsKept (takes t.tree) (b t.tree) (c t.tree)) tables
          → AllByRecursion (λ (t : Table). AreOtherRowsKept (takes t.tree) (a t.tree) (c t.tree)) tables
      go [] one two = tt
      go (t ∷ tables) one two = (two.0 ∙ one.0, go tables one.1 two.1)
