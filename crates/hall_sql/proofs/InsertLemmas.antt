-- An INSERT of one row adds that row to its table.
use Rattle.std.proofs.Common.{◌≡◌, ◌≢◌, ◌⊎◌, inl, inr, ℕ, ℤ, MatchBool, List, [], ◌∷◌, length, ◌/◌, slice_get, Bool}
use Rattle.std.proofs.Common.{true, false, if◌then◌else◌, not, ◌&&◌, Option, Some, None, Ok, Err, Result, refl, sym, ap}
use Rattle.std.proofs.Common.{subst, ◌∙◌}
use Rattle.std.specs.List.{AllByRecursion}
use Rattle.std.specs.declared.cmp.Ordering.{Ordering}
use Rattle.std.specs.declared.cmp.Ordering.TheVariants.{Less, Equal, Greater}
use Rattle.std.specs.Ordering.{is_lt, int_cmp, match_ordering}
use Rattle.std.specs.List.Sorted.{IsPermutation}
use Rattle.std.proofs.lemmas.List.Sorted.{IsPermutation-refl, IsPermutation-cons, IsPermutation-trans}
use Rattle.std.proofs.lemmas.List.Sorted.{IsPermutation-middle}
use Rattle.sqlite.specs.declared.types.Value.TheVariants.{Null, Int}
use Rattle.sqlite.specs.Order.{Row}
use Rattle.sqlite_value.specs.Order.{value_cmp}
use Rattle.sqlite.specs.Term.{Term}
use Rattle.sqlite.specs.Table.{Table}
use Rattle.sqlite.specs.Source.TheVariants.{Values}
use Rattle.sqlite.specs.Command.TheVariants.{Insert}
use Rattle.sqlite.specs.Tree.{Trees}
use Rattle.sqlite_trees.specs.Tree.{rowid, put_row}
use Rattle.sqlite_schema.specs.declared.schema.Keys.TheVariants.{Enforced}
use Rattle.sqlite_rules.specs.Action.{works}
use Rattle.sqlite_rules.specs.Cast.{cast_row}
use Rattle.sqlite.specs.Edit.{edit_of}
use Rattle.sqlite_rules.specs.Edit.{next_rowid, is_taken, are_fresh, with_rowid}
use Rattle.sqlite.specs.Rowids.TheVariants.{Chosen, Above}
use Rattle.sqlite_rules.specs.Action.{Writes as Settled}
use Rattle.sqlite.specs.Does.{Tally, Does}
use Rattle.sqlite.specs.Effect.{Database, value_rows}
use Rattle.sqlite.specs.Rows.{Written, stamped, count_of, Task, Counts, CountsIn, Gives, sequence}
use Rattle.sqlite.specs.State.{State, mode_of, Writes}
use Rattle.sqlite.proofs.Callers.{one_step}
use Rattle.sqlite.specs.Schema.{Schema}
use Rattle.hall_sql.specs.Standing.{HasAdded}

-- a part that gave a value did not stop on the way
pub went : {B E R : Type 0} {b : B} {Stops : E → Type 0} → ((stop : E) × Stops stop × (Ok b ≡ Err stop)) ⊎ R → R
went (inl stopped) = absurd (let e = stopped.2 in cc)
went (inr on) = on

pub same_value : {B E : Type 0} {a b : B} → ◌≡◌ {A = Result B E} (Ok a) (Ok b) → a ≡ b
same_value e = cc

put_before : (new r : Row) (rows : List Row) → is_taken (r ∷ rows) new ≡ false
    → (is_taken rows new ≡ false → IsPermutation (new ∷ rows) (put_row new rows)) → (o : Ordering)
    → value_cmp (rowid r) (rowid new) ≡ o
    → IsPermutation (new ∷ r ∷ rows) (match_ordering o (r ∷ put_row new rows) (new ∷ rows) (new ∷ r ∷ rows))
put_before new r rows free more Less e =
    let rest : is_taken rows new ≡ false = rw e at free in IsPermutation-trans _ _ _
    (IsPermutation-middle (new ∷ []) r rows) (IsPermutation-cons r _ _ (more rest))
put_before new r rows free more Equal e = absurd (let no : true ≡ false = rw e at free in cc)
put_before new r rows free more Greater e = IsPermutation-refl _

-- a row with a rowid of its own is put beside the others
pub put_permutes : (new : Row) (rows : List Row) → is_taken rows new ≡ false
    → IsPermutation (new ∷ rows) (put_row new rows)
put_permutes new [] free = IsPermutation-refl _
put_permutes new (r ∷ rows) free = put_before new r rows free (put_permutes new rows) (value_cmp (rowid r) (rowid new))
    refl

-- a table with no AUTOINCREMENT counts nothing
pub counts_nothing : (task : Task) (db next : Trees) (counter : Option Row) (top : ℤ) → task.table.is_counted ≡ false
    → Counts task db counter top (Ok next) → next ≡ db
counts_nothing task db next counter top e h =
    same_value (subst (λ b. MatchBool (if b then is_lt (int_cmp (count_of counter) top) else false)
    (CountsIn task db counter top (sequence task.schema) (Ok next)) (Gives db (Ok next))) e h)

pub not_taken : (b : Bool) → not b && true ≡ true → b ≡ false
not_taken true h = cc
not_taken false h = refl

-- What is asked of the text and of the table is computed for each statement.
module _ (schema : Schema) (at : ℕ) (table : Table) (there : slice_get schema.tables at ≡ Some table)
    (uncounted : table.is_counted ≡ false) (terms : List Term) (width : ℕ) (params row values : Row)
    (unstamped : stamped table params ≡ params) (source : value_rows params width (length terms / width) terms ≡ row
    ∷ []) (casts : cast_row table row ≡ Null ∷ values)
    (quiet : (new : Row) → works schema Enforced 0 table.tree [] (new ∷ []) ≡ []) where
  abbrev Does_writes : Bool → Option Row → List Row → Trees → Trees → Type 0
  Does_writes b counter rows db next = Settled schema Enforced db
      (edit_of db table [] (if b then Above (count_of counter) else Chosen) 0 rows) (Ok next)

  pub inserts : (old new : State) (text : List ℕ) (count : ℕ) → old.now.schema ≡ schema
      → Writes old new None (Insert at (Values terms width)) text params count
      → HasAdded schema table.tree values old.now new.now
  inserts old new text count has w =
      let db = old.now.trees in
      let task : Task = record {
        limit = old.step_limit;
        keys = Enforced;
        schema = schema;
        table = table;
        params =
            params;
      } in
      let done = went (rw there at (subst (λ s. Does old.step_limit (mode_of old) params (record old.now { schema = s })
      text None (Insert at (Values terms width)) (Ok (w.tally, new.now))) has w.changed)) in
      let now : new.now ≡ record { schema = schema; trees = done.0.trees } = ap (λ (p : Tally × Database). p.1)
      (same_value (went (went done.2).2).2) in
      let given = went done.1 in
      let rows : given.0 ≡ row ∷ [] = given.1.1 ∙ ap (λ p. value_rows p width (length terms / width) terms) unstamped
      ∙ source in
      let counter = went given.2 in
      let written = went counter.2 in
      let counted = went written.2 in
      let last : counted.0 ≡ written.0 = counts_nothing task written.0 counted.0 counter.0 _ uncounted counted.1 in
      let trees : done.0.trees ≡ written.0 = ap (λ (it : Written). it.trees) (same_value counted.2) ∙ last in
      let chosen = subst (λ b. Does_writes b counter.0 given.0 db written.0) uncounted written.1 in
      let step = subst (λ rows. Does_writes false counter.0 rows db written.0) rows chosen in
      let applied = one_step schema Enforced db written.0 (edit_of db table [] Chosen 0 (row ∷ []))
      (quiet (with_rowid Chosen (db table.tree) (cast_row table row))) step in
      let is_new : with_rowid Chosen (db table.tree) (cast_row table row) ≡ Int (next_rowid (db table.tree))
      ∷ values = ap (with_rowid Chosen (db table.tree)) casts in
      record {
        same = ap (λ (d : Database). d.schema) now ∙ sym has;
        free = not_taken _ (subst (λ r. are_fresh (db table.tree) (r ∷ []) ≡ true) is_new applied.fresh);
        put = ap (λ (d : Database). d.trees table.tree) now ∙ ap (λ (t : Trees). t table.tree) trees ∙ applied.rows
            ∙ ap (λ r. put_row r (db table.tree)) is_new;
        others = subst (λ (t : Trees). AllByRecursion (λ (u : Table). u.tree ≢ table.tree → t u.tree ≡ db u.tree)
            schema.tables) (sym (ap (λ (d : Database). d.trees) now ∙ trees)) applied.tables;
      }
