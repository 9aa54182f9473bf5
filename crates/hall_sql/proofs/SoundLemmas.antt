-- A statement that writes rows leaves a database.
use Rattle.std.proofs.Common.{ℕ, List, Ok, None, refl}
use Rattle.sqlite_schema.specs.declared.command.Command.{Command}
use Rattle.sqlite_schema.specs.declared.command.Command.TheVariants.{Insert, InsertOr, Update, Delete}
use Rattle.sqlite.specs.Order.{Row}
use Rattle.sqlite.specs.Effect.{IsDatabase}
use Rattle.sqlite.specs.Listing.{understood}
use Rattle.sqlite.specs.State.{State, Executes, Runs}
use Rattle.sqlite.proofs.Callers.{command_of, runs_as}
use Rattle.hall_sql.specs.Tables.{IsHallSchema}
use Rattle.hall_sql.specs.WriteCause.{IsEdit, IsWritten}

-- the statements that write rows
abbrev pub IsRowWrite : Command → Type 0
IsRowWrite (Insert at from) = Unit {0}
IsRowWrite (InsertOr at way from clauses) = Unit {0}
IsRowWrite (Update at q) = Unit {0}
IsRowWrite (Delete at q) = Unit {0}
IsRowWrite _ = ⊥

written_sound : (old new : State) (command : Command) (text : List ℕ) (params : Row) (count : ℕ) → IsRowWrite command
    → Runs old new None command text params count
    → IsDatabase new.now
written_sound old new (Insert at from) text params count is w = w.sound
written_sound old new (InsertOr at way from clauses) text params count is w = w.sound
written_sound old new (Update at q) text params count is w = w.sound
written_sound old new (Delete at q) text params count is w = w.sound
written_sound old new _ text params count is w = absurd is

-- the statements that the hall runs write rows
pub writes_rows : (command : Command) → IsEdit command → IsRowWrite command
writes_rows (Insert at from) edit = tt
writes_rows (Update at q) edit = tt
writes_rows (Delete at q) edit = tt
writes_rows _ edit = absurd edit

-- and where they ran they left a database
pub ran_sound : (sql : List ℕ) (params : Row) (old new : State) (count : ℕ) → IsHallSchema old.now.schema
    → IsWritten sql params
    → Executes sql params old new (Ok count) → IsDatabase new.now
ran_sound sql params old new count has written ran =
    let it = written old.now.schema has in
    let command = command_of (understood old.now.schema sql) in
    written_sound old new command _ params count (writes_rows command it.edits)
    (runs_as sql params old new old.now.schema refl command refl it.plain count ran)
