-- What is known of the rowids of a table, and what it is enough for: they are integers, and none stands twice.
use Rattle.std.proofs.Common.{find, unwrap_or, Option, Some, None, ◌≢◌, ◌==◌, ℕ, ℤ, refl, arith, ◌≡◌, inl, inr, List}
use Rattle.std.proofs.Common.{[], ◌∷◌, filter, Bool, true, false, cond, IsTrue, sym, ap, subst, ◌∙◌}
use Rattle.std.proofs.lemmas.Bool.{or_parts, cases_Bool}
use Rattle.std.proofs.lemmas.Bool.Decides.{nat_tests}
use Rattle.sqlite.specs.Table.{Table}
use Rattle.sqlite.specs.Tree.{Trees}
use Rattle.hall_sql.proofs.InsertLemmas.{put_permutes}
use Rattle.sqlite.specs.declared.types.Value.TheVariants.{Int}
use Rattle.std.proofs.lemmas.Cmp.{tied_back}
use Rattle.sqlite_rules.specs.Edit.{row_at}
use Rattle.sqlite_trees.specs.Tree.{has_rowid}
use Rattle.sqlite_rules.proofs.ListLemmas.{has_found}
use Rattle.hall_sql.proofs.MapLemmas.{equal_is}
use Rattle.std.specs.List.{AllByRecursion}
use Rattle.std.specs.List.Sorted.{IsPermutation}
use Rattle.std.specs.declared.cmp.Ordering.TheVariants.{Equal}
use Rattle.std.specs.Ordering.{is_eq, ordering_reverse}
use Rattle.sqlite.specs.Order.{Row}
use Rattle.sqlite_value.specs.Order.{value_cmp}
use Rattle.sqlite_value.proofs.OrderLemmas.{value_cmp_total}
use Rattle.sqlite_trees.specs.Tree.{rowid, put_row}
use Rattle.sqlite_trees.specs.View.{is_int}
use Rattle.sqlite_trees.proofs.ListLemmas.{along_permutation, all-permutation}
use Rattle.sqlite_rules.specs.Lists.{Has}
use Rattle.sqlite_rules.specs.Edit.{is_taken}
use Rattle.sqlite_rules.proofs.ListLemmas.{all_has}
use Rattle.sqlite.specs.Effect.{Database}
use Rattle.sqlite_rules.specs.Edit.{next_rowid}
use Rattle.hall_sql.specs.Inside.{IsHallData}
use Rattle.hall_sql.specs.Standing.{Apart, AreDistinct, AreKeyed, HasAdded}
use Rattle.hall_sql.specs.Tables.{IsHallSchema, hall_schema}

apart_back : (r y : Row) → Apart r y → Apart y r
apart_back r y h e = h (value_cmp_total.antisymm (rowid r) (rowid y) ∙ ap ordering_reverse e)

distinct_permuted : (xs ys : List Row) → IsPermutation xs ys → (AreDistinct xs → AreDistinct ys)
    × ((r : Row) → AllByRecursion (Apart r) xs → AllByRecursion (Apart r) ys)
distinct_permuted =
    along_permutation (λ xs ys. (AreDistinct xs → AreDistinct ys)
    × ((r : Row) → AllByRecursion (Apart r) xs → AllByRecursion (Apart r) ys)) (λ xs. ((λ d. d), (λ r a. a)))
    (λ x xs ys h. ((λ d. (h.1 x d.0, h.0 d.1)), (λ r a. (a.0, h.1 r a.1))))
    (λ x y xs. ((λ d. ((apart_back x y d.0.0, d.1.0), (d.0.1, d.1.1))), (λ r a. (a.1.0, (a.0, a.1.1)))))
    (λ xs ys zs p q. ((λ d. q.0 (p.0 d)), (λ r a. q.1 r (p.1 r a))))

-- whatever the order of the rows is
pub keyed_permuted : (xs ys : List Row) → IsPermutation xs ys → AreKeyed xs → AreKeyed ys
keyed_permuted xs ys same it = record {
  ints = all-permutation _ xs ys same it.ints;
  distinct =
      (distinct_permuted xs ys same).0 it.distinct;
}

-- ---- what the statements ask of it

pub keyed_same : (rows : List Row) (a b : Row) → AreKeyed rows → Has rows a → Has rows b
    → value_cmp (rowid a) (rowid b) ≡ Equal → a ≡ b
keyed_same rows a b it h k tie = go rows it.distinct h k
  where
    go : (rows : List Row) → AreDistinct rows → Has rows a → Has rows b → a ≡ b
    go [] d h k = absurd h
    go (r ∷ rows) d (inl h) (inl k) = h ∙ sym k
    go (r ∷ rows) d (inl h) (inr k) = absurd (all_has _ rows b d.0 k
        (subst (λ x. value_cmp (rowid x) (rowid b) ≡ Equal) h tie))
    go (r ∷ rows) d (inr h) (inl k) = absurd (apart_back r a (all_has _ rows a d.0 h)
        (subst (λ x. value_cmp (rowid a) (rowid x) ≡ Equal) k tie))
    go (r ∷ rows) d (inr h) (inr k) = go rows d.1 h k

some_at : (id : ℤ) (x : Row) → has_rowid id x ≡ true → (rows : List Row) → Has rows x → find (has_rowid id) rows ≡ None
    → ⊥
some_at id x is [] h none = absurd h
some_at id x is (r ∷ rows) h none = go (has_rowid id r) refl none (some_at id x is rows)
  where
    go : (b : Bool) → has_rowid id r ≡ b → cond b (Some r) (find (has_rowid id) rows) ≡ None
        → (Has rows x → find (has_rowid id) rows ≡ None → ⊥) → ⊥
    go true at none more = absurd cc
    go false at none more = elim h [
      | inl e ↦ absurd (let both : true ≡ false = sym is ∙ subst (λ y. has_rowid id y ≡ false) (sym e) at in cc)
      | inr k ↦ more k none
    ]

-- a row is the row at its rowid
pub keyed_row_at : (rows : List Row) (id : ℤ) (x : Row) → AreKeyed rows → Has rows x → has_rowid id x ≡ true
    → row_at rows id ≡ x
keyed_row_at rows id x it h is = go (find (has_rowid id) rows) refl
  where
    go : (o : Option Row) → find (has_rowid id) rows ≡ o → unwrap_or o [] ≡ x
    go None e = absurd (some_at id x is rows h e)
    go (Some y) e =
        let found = has_found (has_rowid id) rows y e in
        let tie = value_cmp_total.congr (rowid y) (Int id) (rowid x) (equal_is _ found.1)
        ∙ tied_back value_cmp_total (rowid x) (Int id) (equal_is _ is) in
        keyed_same rows y x it found.0 h tie

pub keyed_filter : (p : Row → Bool) (rows : List Row) → AreKeyed rows → AreKeyed (filter p rows)
keyed_filter p rows it = record {
  ints = kept (λ r. IsTrue (is_int (rowid r))) rows it.ints;
  distinct = apart rows
      it.distinct;
}
  where
    kept : (P : Row → Type 0) (rows : List Row) → AllByRecursion P rows → AllByRecursion P (filter p rows)
    kept P [] all = tt
    kept P (r ∷ rows) all = elim (p r) as (λ b. AllByRecursion P (cond b (r ∷ filter p rows) (filter p rows)))
        [ true ↦ (all.0, kept P rows all.1) | false ↦ kept P rows all.1 ]

    apart : (rows : List Row) → AreDistinct rows → AreDistinct (filter p rows)
    apart [] d = tt
    apart (r ∷ rows) d = elim (p r) as (λ b. AreDistinct (cond b (r ∷ filter p rows) (filter p rows)))
        [ true ↦ (kept (Apart r) rows d.0, apart rows d.1) | false ↦ apart rows d.1 ]

-- a row whose rowid is free
pub keyed_put : (new : Row) (rows : List Row) → IsTrue (is_int (rowid new)) → is_taken rows new ≡ false
    → IsPermutation (new ∷ rows) (put_row new rows) → AreKeyed rows → AreKeyed (put_row new rows)
keyed_put new rows int free same it = keyed_permuted (new ∷ rows) (put_row new rows) same
    (record { ints = (int, it.ints); distinct = (apart rows free, it.distinct) })
  where
    apart : (rows : List Row) → is_taken rows new ≡ false → AllByRecursion (Apart new) rows
    apart [] free = tt
    apart (r ∷ rows) free =
        let parts = or_parts _ _ free in (
          (λ tie. let no : true ≡ false = sym (ap is_eq (value_cmp_total.antisymm (rowid r) (rowid new)
              ∙ ap ordering_reverse tie)) ∙ parts.0 in cc),
          apart rows parts.1,
        )

-- ---- tables stay keyed

pub same_tree : (m n : ℕ) → (m == n) ≡ true → m ≡ n
same_tree m n e = grind (arith, nat_tests)

pub other_tree : (m n : ℕ) → (m == n) ≡ false → m ≢ n
other_tree m n e same = grind (arith, nat_tests)

pub keyed_after : (tree : ℕ) (old new : Trees) (tables : List Table) → AreKeyed (new tree)
    → AllByRecursion (λ (t : Table). t.tree ≢ tree → new t.tree ≡ old t.tree) tables
    → AllByRecursion (λ (t : Table). AreKeyed (old t.tree)) tables
    → AllByRecursion (λ (t : Table). AreKeyed (new t.tree)) tables
keyed_after tree old new [] here others keyed = tt
keyed_after tree old new (t ∷ tables) here others keyed = (
  elim (cases_Bool (t.tree == tree)) [
    | inl is ↦ subst (λ n. AreKeyed (new n)) (sym (same_tree t.tree tree is)) here
    | inr apart ↦ subst AreKeyed (sym (others.0 (other_tree t.tree tree apart))) keyed.0
  ],
  keyed_after tree old new tables here others.1 keyed.1,
)

pub added_keyed : (id : ℤ) (values : Row) (rows out : List Row) → out ≡ put_row (Int id ∷ values) rows
    → is_taken rows (Int id ∷ values) ≡ false → AreKeyed rows → AreKeyed out
added_keyed id values rows out put free keyed =
    subst AreKeyed (sym put) (keyed_put (Int id ∷ values) rows refl free (put_permutes (Int id ∷ values) rows free)
    keyed)

-- one row more leaves the hall's tables
pub data_added : (tree : ℕ) (values : Row) (old new : Database) → HasAdded hall_schema tree values old new
    → IsHallData old → AreKeyed (old.trees tree)
    → IsHallData new
data_added tree values old new it held keyed =
    let after = added_keyed (next_rowid (old.trees tree)) values (old.trees tree) (new.trees tree) it.put it.free
    keyed in
    record {
      schema = subst IsHallSchema (sym it.same) held.schema;
      keyed = keyed_after tree old.trees new.trees
          hall_schema.tables after it.others held.keyed;
    }
