-- A text that is a query under one schema shows nothing of a write under any.
use Rattle.std.proofs.Common.{◌≡◌, ◌⊎◌, inl, inr, ℕ, List, [], length, ◌==◌, Bool, true, false, if◌then◌else◌, Option}
use Rattle.std.proofs.Common.{None, Result, Ok, Err, refl, sym, ◌∙◌}
use Rattle.std.proofs.lemmas.Bool.{cases_Bool}
use Rattle.sqlite_ast.specs.declared.Statement.{Statement}
use Rattle.sqlite_ast.specs.declared.Statement.TheVariants as written
use Rattle.sqlite_ast.specs.declared.Conflict.TheVariants as conflict
use Rattle.sqlite_schema.specs.declared.schema.Table.{Table}
use Rattle.sqlite_schema.specs.declared.command.Command.{Command}
use Rattle.sqlite_schema.specs.declared.command.Command.TheVariants.{Select, Insert, InsertOr, Update, Delete}
use Rattle.sqlite_schema.specs.declared.command.Returning.{Returning}
use Rattle.sqlite_resolve.specs.declared.compiled.Compiled.{Compiled}
use Rattle.sqlite_resolve.specs.declared.error.CompileError.{CompileError}
use Rattle.sqlite_resolve.specs.Lowering.{Checked, and_then}
use Rattle.sqlite_resolve.specs.Compile.{compiled, planned, meaning, returning, command, first, insert, insert_or}
use Rattle.sqlite_resolve.specs.Compile.{insert_or_abort, update, delete, on_table, with_command, new_rows, target}
use Rattle.sqlite_resolve.specs.Body.{table_at}
use Rattle.sqlite_resolve.specs.Program.{program}
use Rattle.sqlite_resolve.specs.Write.{updated, deleted}
use Rattle.sqlite_resolve.specs.Given.{upserts}
use Rattle.sqlite_syntax.specs.declared.statement.Parsed.{Parsed}
use Rattle.sqlite_ast.specs.declared.Rows.{Rows}
use Rattle.sqlite_ast.specs.declared.Upsert.{Upsert}
use Rattle.sqlite_ast.specs.declared.Expr.{Expr}
use Rattle.sqlite_schema.specs.declared.command.Conflict as how
use Rattle.sqlite_schema.specs.declared.command.Conflict.TheVariants as ways
use Rattle.sqlite.specs.Order.{Row}
use Rattle.sqlite.specs.Schema.{Schema}
use Rattle.sqlite.specs.Listing.{understood, reads_listing, if_select, is_select, listing_schema}
use Rattle.sqlite.proofs.Callers.{command_of}
use Rattle.hall_sql.specs.Tables.{IsLike}
use Rattle.hall_sql.proofs.Wordings.{like_itself}
use Rattle.hall_sql.specs.Asked.{HasNoReturning, ReturnsNothing, IsAskedIn, IsSafe}

-- it is no query
abbrev NoSelect : Checked Command → Type 0
NoSelect (Ok c) = is_select c ≡ false
NoSelect (Err e) = Unit {0}

abbrev NoQuery : Result Compiled CompileError → Type 0
NoQuery (Ok c) = is_select c.command ≡ false
NoQuery (Err e) = Unit {0}

then_none : {A : Type 0} (r : Checked A) (f : A → Checked Command) → ((a : A) → NoSelect (f a))
    → NoSelect (and_then r f)
then_none (Ok a) f none = none a
then_none (Err e) f none = tt

if_none : (b : Bool) (x y : Checked Command) → NoSelect x → NoSelect y → NoSelect (if b then x else y)
if_none true x y one other = one
if_none false x y one other = other

on_none : (schema : Schema) (name : List ℕ) (f : ℕ → Table → Checked Command)
    → ((at : ℕ) (table : Table) → NoSelect (f at table)) → NoSelect (on_table schema name f)
on_none schema name f none =
    then_none (target schema name) (λ at. and_then (table_at schema at) (f at))
    (λ at. then_none (table_at schema at) (f at) (none at))

module _ (schema : Schema) (base : ℕ) (name : List ℕ) (columns : List (List ℕ)) (rows : Rows) where
  inserted_no : NoSelect (insert schema base name columns rows)
  unfolding insert
  inserted_no =
      on_none schema name (λ at table. and_then (new_rows schema table base columns rows) (λ s. Ok (Insert at s)))
      (λ at table. then_none (new_rows schema table base columns rows) (λ s. Ok (Insert at s)) (λ s. refl))

  inserted_or : (way : how.Conflict) (clauses : List Upsert)
      → NoSelect (insert_or schema base way name columns rows clauses)
  unfolding insert_or
  inserted_or way clauses =
      on_none schema name (λ at table. and_then (new_rows schema table base columns rows)
      (λ s. and_then (upserts schema at table base clauses) (λ found. Ok (InsertOr at way s found))))
      (λ at table. then_none (new_rows schema table base columns rows)
      (λ s. and_then (upserts schema at table base clauses) (λ found. Ok (InsertOr at way s found)))
      (λ s. then_none (upserts schema at table base clauses) (λ found. Ok (InsertOr at way s found)) (λ found. refl)))

  inserted_or_abort : (clauses : List Upsert) → NoSelect (insert_or_abort schema base name columns rows clauses)
  unfolding insert_or_abort
  inserted_or_abort clauses = if_none (length clauses == 0) (insert schema base name columns rows)
      (insert_or schema base ways.Abort name columns rows clauses) inserted_no (inserted_or ways.Abort clauses)

updated_no : (schema : Schema) (name : List ℕ) (sets : List (List ℕ × Expr)) (test : Option Expr)
    → NoSelect (update schema name sets test)
unfolding update
updated_no schema name sets test =
    on_none schema name (λ at table. and_then (updated schema at table sets test)
    (λ d. and_then (program schema [] d) (λ p. Ok (Update at p))))
    (λ at table. then_none (updated schema at table sets test)
    (λ d. and_then (program schema [] d) (λ p. Ok (Update at p)))
    (λ d. then_none (program schema [] d) (λ p. Ok (Update at p)) (λ p. refl)))

deleted_no : (schema : Schema) (name : List ℕ) (test : Option Expr) → NoSelect (delete schema name test)
unfolding delete
deleted_no schema name test =
    on_none schema name (λ at table. and_then (deleted schema at table test)
    (λ d. and_then (program schema [] d) (λ p. Ok (Delete at p))))
    (λ at table. then_none (deleted schema at table test) (λ d. and_then (program schema [] d) (λ p. Ok (Delete at p)))
    (λ d. then_none (program schema [] d) (λ p. Ok (Delete at p)) (λ p. refl)))

-- a statement that may have RETURNING is no query
either : (st : Statement) → ((schema : Schema) (formats : _) (base : ℕ) → NoSelect (command schema formats base st))
    ⊎ ((schema : Schema) (base : ℕ) → returning schema base st ≡ Ok None)
unfolding command returning
either (written.Insert conflict.Abort name columns rows clauses shown) = inl
    (λ schema formats base. inserted_or_abort schema base name columns rows clauses)
either (written.Insert conflict.Ignore name columns rows clauses shown) = inl
    (λ schema formats base. inserted_or schema base name columns rows ways.Ignore clauses)
either (written.Insert conflict.Replace name columns rows clauses shown) = inl
    (λ schema formats base. inserted_or schema base name columns rows ways.Replace clauses)
either (written.Update name sets test shown) = inl (λ schema formats base. updated_no schema name sets test)
either (written.Delete name test shown) = inl (λ schema formats base. deleted_no schema name test)
either _ = inr (λ schema base. refl)

module _ (p : Parsed) (formats : List (List ℕ)) where
  abbrev whole : Checked (Option Returning) → Checked Command → Result Compiled CompileError
  whole shown r = and_then (and_then (and_then shown (λ sh. and_then r (λ c. Ok (c, sh))))
      (λ found. Ok (formats, found))) (λ plan. Ok (with_command p plan))

  whole_none : (shown : Checked (Option Returning)) (r : Checked Command) → shown ≡ Ok None
      → HasNoReturning (whole shown r)
  whole_none (Ok sh) (Ok c) is = cc
  whole_none (Ok sh) (Err e) is = tt
  whole_none (Err e) r is = absurd (cc)

  whole_no : (shown : Checked (Option Returning)) (r : Checked Command) → NoSelect r → NoQuery (whole shown r)
  whole_no (Ok sh) (Ok c) other = other
  whole_no (Ok sh) (Err e) other = tt
  whole_no (Err e) r other = tt

-- of a text: no schema makes it a query, or none makes it show a write
text : (sql : List ℕ) → ((schema : Schema) → NoQuery (compiled schema sql))
    ⊎ ((schema : Schema) → HasNoReturning (compiled schema sql))
unfolding compiled planned meaning
text sql = by (first sql)
  where
    by : (r : _) → ((schema : Schema) → NoQuery (and_then r (λ p. and_then (planned schema p)
        (λ plan. Ok (with_command p plan)))))
        ⊎ ((schema : Schema) → HasNoReturning (and_then r (λ p. and_then (planned schema p)
        (λ plan. Ok (with_command p plan)))))
    by (Err e) = inl (λ schema. tt)
    by (Ok p) = elim (either p.statement) [
      | inl other ↦ inl (λ schema. whole_no p _ _ _ (other schema _ _))
      | inr none ↦ inr (λ schema. whole_none p _ _ _ (none schema _))
    ]

listed_none : (r : Result Compiled CompileError) → HasNoReturning r → HasNoReturning (if_select r)
listed_none (Ok c) none = elim (cases_Bool (is_select c.command)) [ inl is ↦ rw is none | inr other ↦ rw other tt ]
listed_none (Err e) none = tt

query_no : (r : Result Compiled CompileError) → NoQuery r → is_select (command_of r) ≡ false
query_no (Ok c) other = other
query_no (Err e) other = refl

listed_no : (r : Result Compiled CompileError) → NoQuery r → is_select (command_of (if_select r)) ≡ false
listed_no (Ok c) other = rw other refl
listed_no (Err e) other = refl

pub shows_nothing : (sql : List ℕ) (schema any : Schema) → is_select (command_of (understood schema sql)) ≡ true
    → HasNoReturning (understood any sql)
unfolding understood
shows_nothing sql schema any is = elim (text sql) [
  | inr none ↦ elim (cases_Bool (reads_listing any sql)) [
    | inl listed ↦ rw listed (listed_none (compiled listing_schema sql) (none listing_schema))
    | inr plain ↦ rw plain (none any)
  ]
  | inl other ↦ elim (cases_Bool (reads_listing schema sql)) [
    | inl listed ↦ absurd (let no_query = listed_no (compiled listing_schema sql) (other listing_schema) in let was =
        rw listed at is in let e : true ≡ false = sym was ∙ no_query in cc)
    | inr plain ↦ absurd (let no_query = query_no (compiled schema sql) (other schema) in let was = rw plain at is in
        let e : true ≡ false = sym was ∙ no_query in cc)
  ]
]

safe_query : (schema : Schema) (command : Command) (params : Row) → IsSafe schema command params
    → is_select command ≡ true
safe_query schema (Select q names) params safe = refl
safe_query schema _ params safe = absurd safe

-- so does one that is asked
pub asked_quiet : {schema : Schema} (sql : List ℕ) (params : Row)
    → ((found : Schema) → IsLike schema found → IsAskedIn sql params found) → ReturnsNothing sql
asked_quiet {schema} sql params asked = λ any.
    shows_nothing sql schema any (safe_query schema (command_of (understood schema sql)) params
    (asked schema (like_itself schema)).safe)
