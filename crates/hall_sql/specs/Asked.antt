-- The text of a query that is refused for no cause of its own.
use Rattle.std.specs.Prelude.{◌≡◌, ◌≤◌, ◌&&◌, ℕ, Bool, true, false, List, [], length, nat_le, nat_eq, Result, Ok, Err}
use Rattle.std.specs.Prelude.{None}
use Rattle.sqlite_trees.specs.declared.store.Store.{Ghosts}
use Rattle.sqlite.specs.Effect.{IsDatabase}
use Rattle.sqlite.specs.Held.{Held, state}
use Rattle.sqlite.specs.Order.{Row}
use Rattle.sqlite.specs.Schema.{Schema}
use Rattle.sqlite.specs.State.{Shown}
use Rattle.sqlite.specs.Tree.{Trees}
use Rattle.sqlite.specs.Given.{IsPlain}
use Rattle.sqlite.specs.Listing.{understood, reads_listing}
use Rattle.sqlite.proofs.Callers.{command_of}
use Rattle.sqlite_schema.specs.declared.command.Command.{Command}
use Rattle.sqlite_schema.specs.declared.command.Command.TheVariants.{Select}
use Rattle.sqlite_schema.specs.Program.{lets_of}
use Rattle.sqlite_sql.specs.Program.{ProgramOverflows}
use Rattle.sqlite_typing.specs.Types.{accepts_program}
use Rattle.sqlite_resolve.specs.declared.compiled.Compiled.{Compiled}
use Rattle.sqlite_resolve.specs.declared.error.CompileError.{CompileError}
use Rattle.hall_sql.specs.Inside.{IsHallData}
use Rattle.hall_sql.specs.Tables.{IsHallSchema}

-- it has no RETURNING
abbrev pub HasNoReturning : Result Compiled CompileError → Type 0
HasNoReturning (Ok c) = c.returning ≡ None
HasNoReturning (Err fault) = Unit {0}

-- the text shows nothing of a write, whatever the tables are
abbrev pub ReturnsNothing : List ℕ → Type 0
ReturnsNothing sql = (schema : Schema) → HasNoReturning (understood schema sql)

-- the text is one statement, and takes so many parameters
abbrev pub is_whole : List ℕ → ℕ → Result Compiled CompileError → Bool
is_whole sql count (Ok c) = nat_le (length sql) c.tail && nat_eq count (length c.names)
is_whole sql count (Err fault) = false

-- the command is a query whose types go with these parameters, and sums nothing up that could overflow
abbrev pub IsSafe : Schema → Command → Row → Type 0
IsSafe schema (Select q names) params =
    (accepts_program schema (lets_of q) q.body params ≡ true)
    × ((db : Trees) → ¬ (ProgramOverflows db params [] (lets_of q) q.body))
IsSafe schema _ params = ⊥

-- over the tables of the schema the text is one query of these parameters, with no cause of its own to fail
pub record IsAskedIn (sql : List ℕ) (params : Row) (schema : Schema) : Type 0 where
  pub plain : IsPlain (understood schema sql)
  pub unlisted : reads_listing schema sql ≡ false
  pub whole : is_whole sql (length params) (understood schema sql) ≡ true
  pub safe : IsSafe schema (command_of (understood schema sql)) params

-- over the tables of a hall, also where another made them, the text is one query that may be asked
abbrev pub IsAsked : List ℕ → Row → Type 0
IsAsked sql params = (schema : Schema) → IsHallSchema schema → IsAskedIn sql params schema

-- over a hall's tables that obey their rules, the query answers one row at most
abbrev pub AsksOne : {S : Type 0} → Ghosts S → List ℕ → Row → Type 0
AsksOne {S} g sql params =
    (old new : Held S) (rows : List Row) → IsHallData (state g old).now → IsDatabase (state g old).now
    → Shown sql params (state g old) (state g new) rows → length rows ≤ 1
