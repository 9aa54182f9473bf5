-- What is written of a database that is checked, how it is found, and how the command ends.
use Rattle.std.specs.Prelude.{◌≡◌, ◌⊎◌, ◌++◌, ℕ, List, Option, Result, Err, IsTrue}
use Rattle.sqlite_trees.specs.declared.store.Store.{Ghosts}
use Rattle.sqlite.specs.Held.{Held, state}
use Rattle.sqlite.specs.State.{State, HasCleanDisk}
use Rattle.hall_grid.specs.Device.{Tally}
use Rattle.hall_store.specs.Store.{Kept}
use Rattle.hall_sql.specs.AllRead.{AreAllRead}
use Rattle.hall_sql.specs.BadRows.{AreNone, AreToldBad, HaveRoom}
use Rattle.hall_sql.specs.CanFail.{StoreCanFail}
use Rattle.hall_sql.specs.Cause.{IsStoreCause}
use Rattle.hall_sql.specs.CopyCause.{CannotCopy}
use Rattle.hall_sql.specs.FillCause.{TablesFail}
use Rattle.hall_sql.specs.Made.{all_tables, old_tables}
use Rattle.hall_sql.specs.Migrate.{old_content_of}
use Rattle.hall_sql.specs.OpenedRead.{IsCauseToRead, OpensToRead, StartsToRead}
use Rattle.hall_sql.specs.Content.{content_of}
use Rattle.hall_sql.specs.Standing.{KeptTablesIn}
use Rattle.hall_sql.specs.Tables.{hall_schema, old_schema}
use Rattle.hall_sql.specs.declared.bad_rows.BadRows.{BadRows}
use Rattle.hall_sql.specs.declared.open.OpenFault.{OpenFault}
use Rattle.hall_sql.specs.declared.open_read.FoundHall.{FoundHall}
use Rattle.hall_sql.specs.declared.open_read.FoundHall.TheVariants.{Present, Old}
use Rattle.hall_sql.specs.declared.tables.HallTable.{HallTable}
use Rattle.hall_tool.specs.BadText.{bad_text}
use Rattle.hall_tool.specs.Machine.{Files}
use Rattle.hall_tool.specs.Shown.{IsShownBy}
use Rattle.hall_tool.specs.Tasks.{command_end}
use Rattle.hall_tool.specs.WorldText.{WorldText}
use Rattle.hall_tool.specs.declared.check.TheConstants.{FIRST_VERSION}
use Rattle.hall_tool.specs.declared.fault.CommandFault.{CommandFault}
use Rattle.hall_tool.specs.declared.fault.CommandFault.TheVariants.{Database}
use Rattle.hall_tool.specs.declared.fault.ToolFault.{ToolFault}
use Rattle.hall_tool.specs.declared.fault.ToolFault.TheVariants.{Memory, Store}

-- some rows of the tables are no record, or some of the tables are full, which is told, and 1
abbrev pub IsBadTold : List HallTable → State → State → List ℕ → ℕ → Type 0
IsBadTold tables old new text status =
    (bad : List BadRows) × (¬ AreNone bad) × (HasCleanDisk new → AreToldBad tables old new bad)
    × (text ≡ bad_text bad) × (status ≡ 1)

-- what is written of tables of the present version: some rows are no record, or some tables are full; or each row is
-- one, each table takes more, and their world, as it was found, was checked
abbrev pub PresentText : Option ℕ → State → State → List ℕ → ℕ → Type 0
PresentText budget old new text status =
    IsBadTold all_tables old new text status
    ⊎ ((HasCleanDisk new → IsTrue new.is_open × AreAllRead hall_schema old.now.trees
    × HaveRoom all_tables old.now.trees)
    × WorldText budget (HasCleanDisk new) (content_of old).world text status)

-- what is written of the world of tables of the version before, as they were found, which was checked in a copy
abbrev pub CopyText : Option ℕ → State → State → List ℕ → ℕ → Type 0
CopyText budget old new = WorldText budget (HasCleanDisk new) (old_content_of old).world

-- what is found in tables of the version before
abbrev pub OldFound : Option ℕ → State → State → List ℕ → ℕ → Type 0
OldFound budget old new text status =
    IsBadTold old_tables old new text status
    ⊎ ((HasCleanDisk new → AreAllRead old_schema old.now.trees) × CopyText budget old new text status)

-- so it is written, after a line that tells the version
abbrev pub OldText : Option ℕ → State → State → List ℕ → ℕ → Type 0
OldText budget old new text status =
    (found : List ℕ) × (text ≡ FIRST_VERSION.now ++ found) × OldFound budget old new found status

-- what is written of a hall that was found, which was left so
abbrev pub FoundText : {S : Type 0} → Ghosts S → Option ℕ → FoundHall S → Held S → List ℕ → ℕ → Type 0
FoundText g budget (Present held) last = PresentText budget (state g held) (state g last)
FoundText g budget (Old held) last = OldText budget (state g held) (state g last)

-- how a hall that was found is left: of the present version with its world, of the version before with its tables
abbrev pub FoundStays : {S : Type 0} → Ghosts S → FoundHall S → Held S → Type 0
FoundStays g (Present held) last = Kept (content_of (state g held)) (content_of (state g last))
FoundStays g (Old held) last = KeptTablesIn old_schema (state g held) (state g last)

-- ---- why nothing was found, where it wasn't out of memory

-- Why nothing was found of the world of tables of the version before, where their device was honest to the end: they
-- aren't read whole, or their world can't be copied into memory.
abbrev pub CopyFails : State → State → Type 0
CopyFails old new = HasCleanDisk new → TablesFail old_schema old new ⊎ CannotCopy (old_content_of old).world

-- Why nothing was found of such tables: the cause lies in their store, or each of their rows is a record, and their
-- world can't be copied. A row that is no record is told, and so is no cause.
abbrev pub OldFails : State → State → Type 0
OldFails old new =
    HasCleanDisk new
    → IsStoreCause old new ⊎ (AreAllRead old_schema old.now.trees × CannotCopy (old_content_of old).world)

-- Why nothing was found of a hall, which was left so: of tables of the present version, for nothing that they keep.
abbrev pub FoundFails : {S : Type 0} → Ghosts S → FoundHall S → Held S → Type 0
FoundFails g (Present held) last = StoreCanFail (state g held) (state g last)
FoundFails g (Old held) last = OldFails (state g held) (state g last)

-- ---- the command

-- a text was found and written, with which its status goes; or none was, out of memory or as the store failed for a
-- cause of this kind, and nothing was written
abbrev pub IsFoundWritten : {W : Type 0} → (List ℕ → ℕ → Type 0) → Type 0 → (W → Option (List ℕ)) → Tally W → Tally W
    → Result ℕ ToolFault → Type 0
IsFoundWritten Text Why contents old new ended =
    ((text : List ℕ) × (status : ℕ) × Text text status × IsShownBy status contents text old new ended)
    ⊎ ((new ≡ old) × ((ended ≡ Err Memory) ⊎ ((ended ≡ Err Store) × Why)))

-- the files handed out the database at the path, a hall's, what was found of it was written, and they were given it
-- back as it was left; or they refused it, or it was refused, for this cause, and nothing was written
abbrev pub IsCheckAt : {G S W : Type 0} → Files G S → (W → Option (List ℕ)) → List ℕ → Option ℕ → G → G → Tally W
    → Tally W → Result ℕ CommandFault → Type 0
IsCheckAt {G} {S} files contents db budget old new writer written result =
    ((found : FoundHall S) × (between : G) × (last : Held S) × (ended : Result ℕ ToolFault)
    × OpensToRead files.store files.paths.image_at files.paths.tells files.paths.opens old db found between
    × StartsToRead files.store (files.paths.image_at db) found × FoundStays files.store found last
    × files.paths.closes between last new
    × IsFoundWritten (FoundText files.store budget found last) (FoundFails files.store found last) contents writer
    written ended
    × (result ≡ command_end ended))
    ⊎ ((cause : OpenFault)
    × IsCauseToRead files.store files.paths.image_at files.paths.tells files.paths.refuses files.paths.sees
    files.paths.opens files.paths.closes old db new cause
    × (written ≡ writer) × (result ≡ Err (Database cause)))
