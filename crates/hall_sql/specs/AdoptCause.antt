-- Why a connection is not taken over.
use Rattle.std.specs.Prelude.{◌≡◌, ◌≢◌, ◌⊎◌, ℤ, IsSome, IsTrue, List, Option, Some}
use Rattle.std.specs.List.{AllByRecursion}
use Rattle.sqlite_trees.specs.declared.store.Store.{Ghosts}
use Rattle.sqlite_value.specs.Order.{column}
use Rattle.sqlite.specs.declared.error.Error.{Error}
use Rattle.sqlite.specs.declared.error.Error.TheVariants.{SqliteFailure}
use Rattle.sqlite.specs.declared.error.ErrorCode.TheVariants.{OutOfMemory}
use Rattle.sqlite.specs.declared.types.Value.TheVariants.{Int}
use Rattle.sqlite.specs.Effect.{Database}
use Rattle.sqlite.specs.Given.{Advances, FailsToAdvance}
use Rattle.sqlite.specs.Held.{Held, state}
use Rattle.sqlite.specs.Order.{Row}
use Rattle.sqlite.specs.State.{State, IsUnchanged}
use Rattle.hall_sql.specs.Cause.{IsStoreCause}
use Rattle.hall_sql.specs.Inside.{IsHallData}
use Rattle.hall_sql.specs.Standing.{AreKeyedIn}
use Rattle.hall_sql.specs.Scan.{IsAbove, IsTableKeyed}
use Rattle.hall_sql.specs.Tables.{no_schema, old_schema}
use Rattle.hall_sql.specs.declared.tables.HallTable.{HallTable}

-- the row shows no integer that is above the last
abbrev pub IsUnfit : Option ℤ → Row → Type 0
IsUnfit last shown = (id : ℤ) → column shown 0 ≡ Int id → ¬ IsAbove last id

-- Why no next rowid is read: the query fails, though not by being out of memory, or its next row is unfit.
abbrev pub NextFails : {S : Type 0} → Ghosts S → Held S → Held S → Option ℤ → Type 0
NextFails g old new last =
    ((e : Error) × (e ≢ SqliteFailure OutOfMemory) × FailsToAdvance g old new e)
    ⊎ (IsUnchanged (state g old) (state g new) × (shown : Row) × Advances g old new (Some shown) × IsUnfit last shown)

-- Why the rowids of these tables are refused: the cause lies in the store, or the connection has a limit on the steps
-- of a query, or in one of the tables not all rowids are integers, or one stands twice.
abbrev pub ScanFails : List HallTable → State → State → Type 0
ScanFails tables old new =
    IsStoreCause old new ⊎ (IsSome old.step_limit ⊎ ¬ AllByRecursion (IsTableKeyed old) tables)

-- Why a connection with the tables of the version before is refused: a transaction is open, or the cause lies in the
-- store, or it has a limit on the steps of a query, or in one of the tables not all rowids are integers, or one stands
-- twice.
abbrev pub AdoptOldFails : State → State → Type 0
AdoptOldFails old new =
    IsTrue old.in_transaction ⊎ (IsStoreCause old new ⊎ (IsSome old.step_limit ⊎ ¬ AreKeyedIn old_schema old.now.trees))

-- the database has tables, indexes or views, and they are not the hall's with rowids as the hall makes them
abbrev pub IsForeign : Database → Type 0
IsForeign held = (held.schema ≢ no_schema) × ¬ IsHallData held

-- Why a connection is refused: a transaction is open, or the cause lies in the store, or it has a limit on the steps of
-- a query, or its database is another's.
abbrev pub AdoptFails : State → State → Type 0
AdoptFails old new =
    IsTrue old.in_transaction ⊎ (IsStoreCause old new ⊎ (IsSome old.step_limit ⊎ IsForeign old.now))
