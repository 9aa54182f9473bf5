-- A CREATE TABLE makes the table that its text defines.
use Rattle.std.proofs.Common.{◌≡◌, ℕ, List, [], ◌∷◌, ◌++◌, false, not, ◌&&◌, None, Ok, Result, refl, sym, ap, subst}
use Rattle.std.proofs.Common.{◌∙◌, is_some}
use Rattle.std.specs.List.{AllByRecursion, list_any}
use Rattle.sqlite.specs.Rows.{sequence}
use Rattle.sqlite.specs.State.{Executes}
use Rattle.sqlite.proofs.Callers.{runs_as}
use Rattle.hall_sql.specs.declared.tables.HallTable.{HallTable}
use Rattle.hall_sql.specs.declared.tables.HallTable.TheVariants.{People, Puzzles, Rounds, Places, Answers, Protests}
use Rattle.hall_sql.specs.declared.tables.HallTable.TheVariants.{Testers}
use Rattle.hall_sql.specs.Made.{table_text, schema_before, Awaits}
use Rattle.hall_sql.specs.Tables.{shape_of}
use Rattle.hall_sql.proofs.TableTexts.{table_is, making_is}
use Rattle.sqlite_resolve.specs.declared.error.CompileError.{CompileError}
use Rattle.sqlite.specs.Table.{Table}
use Rattle.sqlite.specs.Schema.{Schema}
use Rattle.sqlite.specs.Compile.{table_defined_by}
use Rattle.sqlite.specs.Command.TheVariants.{CreateTable}
use Rattle.sqlite.specs.Change.{created, next_tree}
use Rattle.sqlite_catalog.specs.Change.{KeepsRows}
use Rattle.sqlite.specs.Does.{Tally, Does, lacks_sequence}
use Rattle.sqlite.specs.Effect.{Database, IsDatabase}
use Rattle.sqlite.specs.State.{State, mode_of, Writes}
use Rattle.hall_sql.proofs.InsertLemmas.{went, same_value}

pub same_table : (text : List ℕ) (made table : Table) → table_defined_by text ≡ Ok made
    → table_defined_by text ≡ Ok table → made ≡ table
same_table text made table p q = let both : ◌≡◌ {A = Result Table CompileError} (Ok made) (Ok table) = sym p
    ∙ q in same_value both

record HasCreated (schema : Schema) (table : Table) (old new : Database) : Type 0 where
  pub is : new.schema ≡ created schema table
  pub empty : new.trees (next_tree schema) ≡ []
  pub others : KeepsRows schema.tables old.trees new.trees

makes : (schema : Schema) (text : List ℕ) (table : Table) (old new : State) (count : ℕ)
    → table_defined_by text ≡ Ok table → lacks_sequence (created schema table) ≡ false → old.now.schema ≡ schema
    → Writes old new None CreateTable text [] count → HasCreated schema table old.now new.now
makes schema text table old new count defines plain has w =
    let all = went (subst (λ s. Does old.step_limit (mode_of old) [] (record old.now { schema = s }) text None
    CreateTable (Ok (w.tally, new.now))) has w.changed) in
    let first = went all.1 in
    let made = first.1 in
    let same : made.table ≡ table = same_table text made.table table made.defined defines in
    let is : first.0.schema ≡ created schema table = made.is ∙ ap (created schema) same in
    let none : lacks_sequence first.0.schema ≡ false = ap lacks_sequence is ∙ plain in
    let now : new.now ≡ first.0 = ap (λ (p : Tally × Database). p.1) (same_value all.2)
    ∙ same_value (rw none at first.2) in
    record {
      is = ap (λ (d : Database). d.schema) now ∙ is;
      empty = ap (λ (d : Database). d.trees (next_tree schema)) now ∙ made.empty;
      others = subst (λ (d : Database). KeepsRows schema.tables old.now.trees d.trees) (sym now) made.others;
    }

-- what holds of the tables and of one more
all_with : (P : Table → Type 0) (tables : List Table) (more : Table) → AllByRecursion P tables → P more
    → AllByRecursion P (tables ++ more ∷ [])
all_with P [] more all here = (here, tt)
all_with P (t ∷ tables) more all here = (all.0, all_with P tables more all.1 here)

none_counted : (tables : List Table) → AllByRecursion (λ (t : Table). t.is_counted ≡ false) tables
    → list_any (λ (t : Table). t.is_counted) tables ≡ false
none_counted [] all = refl
none_counted (t ∷ tables) all = rw (all.0, none_counted tables all.1)

uncounted_shape : (table : HallTable) → (shape_of table).is_counted ≡ false
uncounted_shape People = refl
uncounted_shape Puzzles = refl
uncounted_shape Rounds = refl
uncounted_shape Places = refl
uncounted_shape Answers = refl
uncounted_shape Protests = refl
uncounted_shape Testers = refl

still_empty : (tables : List Table) (old new : Database) → KeepsRows tables old.trees new.trees
    → AllByRecursion (λ (t : Table). old.trees t.tree ≡ []) tables
    → AllByRecursion (λ (t : Table). new.trees t.tree ≡ []) tables
still_empty [] old new kept all = tt
still_empty (t ∷ tables) old new kept all = (kept.0 ∙ all.0, still_empty tables old new kept.1 all.1)

-- the statement that makes the next table
pub made_next : (table : HallTable) (old new : State) (count : ℕ) → Executes (table_text table) [] old new (Ok count)
    → (tables : List HallTable) → Awaits (table ∷ tables) old.now → Awaits tables new.now
made_next table old new count ran tables it =
    let text = table_text table in
    let schema = it.schema in
    let is = making_is table in
    let w = runs_as text [] old new (schema_before table) (it.bare.is ∙ it.lacks.0) CreateTable is.0 is.2 count ran in
    let after = created schema (shape_of table) in
    let shape : Table = record (shape_of table) { tree = next_tree schema } in
    let uncounted : AllByRecursion (λ (t : Table). t.is_counted ≡ false) after.tables = all_with
    (λ t. t.is_counted ≡ false) schema.tables shape it.uncounted (uncounted_shape table) in
    let plain : lacks_sequence after ≡ false = ap (λ b. b && not (is_some (sequence after)))
    (none_counted after.tables uncounted) in
    let done = makes schema text (shape_of table) old new count (table_is table) plain it.bare.is
    (subst (λ t. Writes old new None CreateTable t [] count) is.1 w) in
    record {
      schema = after;
      bare = record {
        is = done.is;
        empty = all_with (λ t. new.now.trees t.tree ≡ []) schema.tables shape
            (still_empty schema.tables old.now new.now done.others it.bare.empty) done.empty;
      };
      uncounted = uncounted;
      lacks = it.lacks.1;
    }

-- and what holds it is a database
pub made_sound : (table : HallTable) (old new : State) (count : ℕ) → Executes (table_text table) [] old new (Ok count)
    → (tables : List HallTable) → Awaits (table ∷ tables) old.now → IsDatabase new.now
made_sound table old new count ran tables it =
    let is = making_is table in
    (runs_as (table_text table) [] old new (schema_before table) (it.bare.is ∙ it.lacks.0) CreateTable is.0 is.2 count
    ran).sound
