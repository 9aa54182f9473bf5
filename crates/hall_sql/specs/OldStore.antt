-- What a connection with the tables of the version before is.
use Rattle.sqlite_trees.specs.declared.store.Store.{Ghosts}
use Rattle.sqlite.specs.Held.{Held, state}
use Rattle.sqlite.specs.State.{HasCleanDisk}
use Rattle.hall_sql.specs.declared.old_store.Taken.{Taken}
use Rattle.hall_sql.specs.declared.old_store.Taken.TheVariants.{Old, Other}
use Rattle.hall_sql.specs.Standing.{AddsNoOutcome, HasAdoptedOld, HasDeclined}
use Rattle.hall_sql.specs.Tables.{IsOldSchema}

-- it was taken over, or its tables are others, and it was left as it was, also after a stop
abbrev pub IsStoreTaken : {S : Type 0} → Ghosts S → Held S → Taken S → Type 0
IsStoreTaken g conn (Old store) = HasAdoptedOld (state g conn) (state g store)
IsStoreTaken g conn (Other left) =
    HasDeclined (state g conn) (state g left)
    × AddsNoOutcome (state g conn) (state g left)
    × (HasCleanDisk (state g left) → ¬ IsOldSchema (state g conn).now.schema)
