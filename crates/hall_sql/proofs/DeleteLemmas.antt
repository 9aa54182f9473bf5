-- A DELETE takes out the rows that pass, where RESTRICT alone refers to the table.
use Rattle.std.proofs.Common.{◌≡◌, ◌≢◌, inl, inr, ℕ, List, [], ◌∷◌, map, filter, slice_get, Bool, Some, None, Ok, sym}
use Rattle.std.proofs.Common.{ap, subst, ◌∙◌}
use Rattle.std.specs.List.{AllByRecursion, list_all}
use Rattle.std.specs.List.Sorted.{IsPermutation}
use Rattle.sqlite.specs.Order.{Row}
use Rattle.sqlite.specs.declared.types.Value.TheVariants.{Null}
use Rattle.sqlite.specs.Term.{Term, holds, eval_all, col}
use Rattle.sqlite.specs.Table.{Table}
use Rattle.sqlite.specs.Schema.{Schema}
use Rattle.sqlite.specs.Tree.{Trees}
use Rattle.sqlite.specs.Query.{IsAnswer}
use Rattle.sqlite.specs.Program.{overlay}
use Rattle.sqlite_schema.specs.declared.program.Program.{Program}
use Rattle.sqlite.specs.Command.TheVariants.{Delete}
use Rattle.sqlite_schema.specs.declared.schema.Keys.TheVariants.{Enforced}
use Rattle.sqlite_rules.specs.Action.{works, Writes as Settled}
use Rattle.sqlite_rules.specs.Calls.{ids_of}
use Rattle.sqlite_rules.specs.Edit.{edit_of, Edit, taken_by, without_all, Applies}
use Rattle.sqlite_rules.specs.declared.error.Rowids.TheVariants.{Given}
use Rattle.sqlite.specs.Does.{Tally, Does}
use Rattle.sqlite.specs.Effect.{Database}
use Rattle.sqlite.specs.Rows.{Written}
use Rattle.sqlite.specs.State.{State, mode_of, Writes}
use Rattle.hall_sql.specs.Statements.{plain_query}
use Rattle.hall_sql.specs.Standing.{IsSelection}
use Rattle.hall_sql.proofs.Selections.{selected}
use Rattle.hall_sql.proofs.InsertLemmas.{went, same_value}
use Rattle.hall_sql.proofs.RestrictLemmas.{Restricts, restricted}

-- Where only RESTRICT refers to the rows that a step takes out, a write is its one step.
pub restricted_step : (schema : Schema) (db next : Trees) (edit : Edit)
    → Restricts (works schema Enforced 0 edit.table.tree (taken_by db edit) edit.news)
    → Settled schema Enforced db edit (Ok next) → Applies schema Enforced db edit next
restricted_step schema db next edit all (inl refused) = absurd (let e = refused.2 in cc)
restricted_step schema db next edit all (inr (inl big)) = absurd (let e = big.3 in cc)
restricted_step schema db next edit all (inr (inr went)) =
    let ends = went.2.1 in
    subst (Applies schema Enforced db edit) (restricted schema Enforced went.2.0 went.0 next
    (works schema Enforced 0 edit.table.tree (taken_by db edit) edit.news) all ends) went.1

module _ (schema : Schema) (table : Table) (terms : List Term)
    (apart : (db : Trees) → overlay db [] table.tree ≡ db table.tree)
    (restricts : (olds : List Row) → Restricts (works schema Enforced 0 table.tree olds [])) where
  abbrev pub deletion : Program
  deletion = record { lets = []; body = plain_query table.tree terms (col 1 0 ∷ []) [] }

  abbrev pub deletes_with : Row → Row → Bool
  deletes_with params r = list_all (holds (params ∷ r ∷ [])) terms

  abbrev rowid_of : Row → Row → Row
  rowid_of params r = eval_all (col 1 0 ∷ []) (params ∷ r ∷ [])

  -- the rowids of what passes are taken out, and nothing is put in
  pub record IsCut (params : Row) (rows out : List Row) : Type 0 where
    pub found : List Row
    pub same : IsPermutation (filter (deletes_with params) rows) found
    pub cut : out ≡ without_all rows (ids_of (map (rowid_of params) found))

  pub deletes : (at : ℕ) → slice_get schema.tables at ≡ Some table → (params : Row) (old new : State) (text : List ℕ)
      (count : ℕ) → old.now.schema ≡ schema → Writes old new None (Delete at deletion) text params count
      → (new.now.schema ≡ old.now.schema) × IsCut params (old.now.trees table.tree) (new.now.trees table.tree)
      × AllByRecursion (λ (t : Table). t.tree ≢ table.tree → new.now.trees t.tree ≡ old.now.trees t.tree)
      schema.tables
  deletes at there params old new text count has w =
      let db = old.now.trees in
      let done = went (rw there at (subst (λ s. Does old.step_limit (mode_of old) params (record old.now { schema = s })
      text None (Delete at deletion) (Ok (w.tally, new.now))) has w.changed)) in
      let is = same_value (went (went done.2).2).2 in
      let now : new.now ≡ record { schema = schema; trees = done.0.trees } = ap (λ (p : Tally × Database). p.1) is in
      let got = went done.1 in
      let a : IsAnswer (plain_query table.tree terms (col 1 0 ∷ []) []) (overlay db []) params got.0 = got.1.answer
      Null in
      let sel : IsSelection (plain_query table.tree terms (col 1 0 ∷ []) []) (db table.tree) params got.0 =
      subst (λ l. IsSelection (plain_query table.tree terms (col 1 0 ∷ []) []) l params got.0) (apart db)
      (selected table.tree terms (col 1 0 ∷ []) [] (overlay db []) params got.0 a) in
      let step = went got.2 in
      let edit = edit_of db table (ids_of got.0) Given 0 [] in
      let applied = restricted_step schema db step.0 edit (restricts (taken_by db edit)) step.1 in
      let trees : new.now.trees ≡ step.0 = ap (λ (d : Database). d.trees) now
      ∙ ap (λ (it : Written). it.trees) (same_value step.2) in (
        ap (λ (d : Database). d.schema) now ∙ sym has,
        record {
          found = sel.found;
          same = sel.same;
          cut = ap (λ (t : Trees). t table.tree) trees ∙ applied.rows
              ∙ ap (λ rows. without_all (db table.tree) (ids_of rows)) sel.shown;
        },
        subst (λ (t : Trees). AllByRecursion (λ (u : Table). u.tree ≢ table.tree → t u.tree ≡ db u.tree) schema.tables)
            (sym trees) applied.tables,
      )
