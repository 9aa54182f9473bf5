-- An UPDATE that counts one row replaces that row.
use Rattle.std.proofs.Common.{◌≡◌, ◌≢◌, inl, ℕ, List, [], ◌∷◌, length, map, filter, slice_get, Bool, true, false, not}
use Rattle.std.proofs.Common.{◌&&◌, IsTrue, Option, Some, None, Ok, refl, sym, ap, subst, ◌∙◌, arith}
use Rattle.std.proofs.lemmas.Cmp.{tied_itself}
use Rattle.std.specs.List.{AllByRecursion, list_all}
use Rattle.sqlite.specs.declared.types.Value.TheVariants.{Null, Int}
use Rattle.sqlite.specs.Order.{Row}
use Rattle.sqlite_value.proofs.OrderLemmas.{value_cmp_total}
use Rattle.sqlite.specs.Term.{Term, holds, eval_all, col}
use Rattle.sqlite.specs.Table.{Table}
use Rattle.sqlite.specs.Schema.{Schema}
use Rattle.sqlite.specs.Tree.{Trees}
use Rattle.sqlite.specs.Query.{IsAnswer}
use Rattle.sqlite.specs.Program.{overlay}
use Rattle.sqlite_schema.specs.declared.program.Program.{Program}
use Rattle.sqlite.specs.Command.TheVariants.{Update}
use Rattle.sqlite_trees.specs.Tree.{rowid, put_row, without_rowid, has_rowid}
use Rattle.sqlite_trees.specs.View.{is_int}
use Rattle.sqlite_schema.specs.declared.schema.Keys.TheVariants.{Enforced}
use Rattle.sqlite_rules.specs.Lists.{Has}
use Rattle.sqlite_rules.proofs.ListLemmas.{all_has, has_filtered}
use Rattle.sqlite_rules.proofs.TableLemmas.{int_is}
use Rattle.sqlite_rules.specs.Action.{works, Writes as Settled}
use Rattle.sqlite_rules.specs.Cast.{cast_row}
use Rattle.sqlite_rules.specs.Calls.{ids_of}
use Rattle.sqlite_rules.specs.Edit.{id_in, edit_of, Applies}
use Rattle.sqlite_rules.specs.declared.error.Rowids.TheVariants.{Given}
use Rattle.sqlite.specs.Does.{Tally, Does}
use Rattle.sqlite.specs.Effect.{Database}
use Rattle.sqlite.specs.Rows.{Written, Task, Updates}
use Rattle.sqlite.specs.State.{State, mode_of, Writes}
use Rattle.sqlite.proofs.Callers.{one_step, one_permutation}
use Rattle.std.specs.List.Sorted.{IsPermutation}
use Rattle.hall_sql.specs.Statements.{plain_query}
use Rattle.hall_sql.specs.Standing.{AreKeyed, IsSelection, IsReplaced, HasReplaced}
use Rattle.hall_sql.proofs.KeyedLemmas.{keyed_filter, keyed_put, keyed_row_at}
use Rattle.hall_sql.proofs.Selections.{selected}
use Rattle.hall_sql.proofs.InsertLemmas.{went, same_value, not_taken, put_permutes}

pub alone : {A : Type 0} (xs : List A) → length xs ≡ 1 → (x : A) × (xs ≡ x ∷ [])
alone [] e = absurd (omega (arith, e))
alone (x ∷ []) e = (x, refl)
alone (x ∷ y ∷ xs) e = absurd (omega (arith, e))

alone_true : (b : Bool) → b && true ≡ true → b ≡ true
alone_true true h = refl
alone_true false h = absurd cc

pub has_itself : (r : Row) → IsTrue (is_int (rowid r)) → has_rowid (id_in (rowid r)) r ≡ true
has_itself r int = rw (int_is (rowid r) int, tied_itself value_cmp_total (Int (id_in (rowid r))))

-- What is asked of the table is computed for each statement.
module _ (schema : Schema) (table : Table) (terms columns : List Term)
    (apart : (db : Trees) → overlay db [] table.tree ≡ db table.tree) where
  abbrev pub update : Program
  update = record { lets = []; body = plain_query table.tree terms (col 1 0 ∷ columns) [] }

  abbrev pub passes_with : Row → Row → Bool
  passes_with params r = list_all (holds (params ∷ r ∷ [])) terms

  -- the row that is made of a row
  abbrev pub made_with : Row → Row → Row
  made_with params r = cast_row table (eval_all columns (params ∷ r ∷ []))

  module _ (params : Row) (quiet : (r : Row) → passes_with params r ≡ true → works schema Enforced 0 table.tree (r ∷ [])
      (made_with params r ∷ []) ≡ []) where
    abbrev task_of : Option ℕ → Row → Task
    task_of limit own = record { limit = limit; keys = Enforced; schema = schema; table = table; params = own }

    abbrev chosen : Row → Row
    chosen r = eval_all (col 1 0 ∷ columns) (params ∷ r ∷ [])

    selects : (db : Trees) (rows : List Row) → IsAnswer (plain_query table.tree terms (col 1 0 ∷ columns) [])
        (overlay db []) params rows
        → IsSelection (plain_query table.tree terms (col 1 0 ∷ columns) []) (db table.tree) params rows
    selects db rows a =
        subst (λ l. IsSelection (plain_query table.tree terms (col 1 0 ∷ columns) []) l params rows) (apart db)
        (selected table.tree terms (col 1 0 ∷ columns) [] (overlay db []) params rows a)

    one_row : (db : Trees) (rows : List Row) → IsSelection (plain_query table.tree terms (col 1 0 ∷ columns) [])
        (db table.tree) params rows → length (filter (passes_with params) (db table.tree)) ≡ 1
        → (r : Row) × (filter (passes_with params) (db table.tree) ≡ r ∷ []) × (rows ≡ chosen r ∷ [])
    one_row db rows sel single =
        let r = alone (filter (passes_with params) (db table.tree)) single in
        let found = one_permutation r.0 sel.found (subst (λ l. IsPermutation l sel.found) r.1 sel.same) in
        (r.0, r.1, sel.shown ∙ ap (map chosen) found)

    -- the one step of the UPDATE of one row
    stepped : (db next : Trees) (r : Row) → AreKeyed (db table.tree) → filter (passes_with params) (db table.tree) ≡ r
        ∷ []
        → Settled schema Enforced db (edit_of db table (ids_of (chosen r ∷ [])) Given 1 (chosen r ∷ [])) (Ok next)
        → Applies schema Enforced db (edit_of db table (ids_of (chosen r ∷ [])) Given 1 (chosen r ∷ [])) next
    stepped db next r keyed found step =
        let there = has_filtered (passes_with params) (db table.tree) r (subst (λ l. Has l r) (sym found) (inl refl)) in
        let int = all_has _ (db table.tree) r keyed.ints there.0 in
        let same = keyed_row_at (db table.tree) (id_in (rowid r)) r keyed there.0 (has_itself r int) in
        one_step schema Enforced db next (edit_of db table (ids_of (chosen r ∷ [])) Given 1 (chosen r ∷ []))
        (ap (λ x. works schema Enforced 0 table.tree (x ∷ []) (made_with params r ∷ [])) same ∙ quiet r there.1) step

    pub updated : (limit : Option ℕ) (own : Row) (db : Trees) (w : Written) → AreKeyed (db table.tree)
        → Updates (task_of limit own) update params db (Ok w) → length (filter (passes_with params) (db table.tree)) ≡ 1
        → IsReplaced (passes_with params) (made_with params) (db table.tree) (w.trees table.tree)
        × AreKeyed (w.trees table.tree)
        × AllByRecursion (λ (t : Table). t.tree ≢ table.tree → w.trees t.tree ≡ db t.tree) schema.tables
    updated limit own db w keyed h single =
        let got = went h in
        let sel = selects db got.0 (got.1.answer Null) in
        let step = went got.2 in
        let is = same_value step.2 in
        let r = one_row db got.0 sel single in
        let applied = stepped db step.0 r.0 keyed r.1 (subst
        (λ rows. Settled schema Enforced db (edit_of db table (ids_of rows) Given 1 rows) (Ok step.0)) r.2
        step.1) in
        let trees : w.trees ≡ step.0 = ap (λ (it : Written). it.trees) is in
        let left = without_rowid (id_in (rowid r.0)) (db table.tree) in
        let put : w.trees table.tree ≡ put_row (made_with params r.0) left = ap (λ (t : Trees). t table.tree) trees
        ∙ applied.rows in
        let int : IsTrue (is_int (rowid (made_with params r.0))) = alone_true _ applied.keyed in (
          record { one = r.0; found = r.1; free = not_taken _ applied.fresh; put = put },
          subst AreKeyed (sym put) (keyed_put (made_with params r.0) left int (not_taken _ applied.fresh)
              (put_permutes (made_with params r.0) left (not_taken _ applied.fresh))
              (keyed_filter (λ x. not (has_rowid (id_in (rowid r.0)) x)) (db table.tree) keyed)),
          subst (λ (t : Trees). AllByRecursion (λ (u : Table). u.tree ≢ table.tree → t u.tree ≡ db u.tree)
              schema.tables) (sym trees) applied.tables,
        )

  -- the same of the statement
  pub updates : (at : ℕ) → slice_get schema.tables at ≡ Some table → (params : Row)
      → ((r : Row) → passes_with params r ≡ true → works schema Enforced 0 table.tree (r ∷ []) (made_with params r ∷ [])
      ≡ [])
      → (old new : State) (text : List ℕ) (count : ℕ) → old.now.schema ≡ schema → AreKeyed (old.now.trees table.tree)
      → Writes old new None (Update at update) text params count
      → length (filter (passes_with params) (old.now.trees table.tree)) ≡ 1
      → HasReplaced schema table.tree (passes_with params) (made_with params) old.now new.now
  updates at there params quiet old new text count has keyed w single =
      let db = old.now.trees in
      let done = went (rw there at (subst (λ s. Does old.step_limit (mode_of old) params (record old.now { schema = s })
      text None (Update at update) (Ok (w.tally, new.now))) has w.changed)) in
      let is = same_value (went (went done.2).2).2 in
      let now : new.now ≡ record { schema = schema; trees = done.0.trees } = ap (λ (p : Tally × Database). p.1) is in
      let it = updated params quiet old.step_limit params db done.0 keyed done.1 single in
      let trees : new.now.trees ≡ done.0.trees = ap (λ (d : Database). d.trees) now in
      record {
        same = ap (λ (d : Database). d.schema) now ∙ sym has;
        rows = subst (λ (t : Trees). IsReplaced (passes_with params) (made_with params) (db table.tree) (t table.tree))
            (sym trees) it.0;
        keyed = subst (λ (t : Trees). AreKeyed (t table.tree)) (sym trees) it.1;
        others = subst (λ (t : Trees). AllByRecursion (λ (u : Table). u.tree ≢ table.tree → t u.tree ≡ db u.tree)
            schema.tables) (sym trees) it.2;
      }
