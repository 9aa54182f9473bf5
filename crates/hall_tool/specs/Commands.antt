-- The commands over files: what was done with a hall, or where a command stopped before it did anything.
use Rattle.std.specs.Prelude.{◌≡◌, ◌⊎◌, ℕ, List, Result, Ok, Err}
use Rattle.std.specs.declared.io.Error.{Error}
use Rattle.sqlite_trees.specs.declared.memory.MemStore.{MemStore}
use Rattle.sqlite_trees.specs.declared.store.Store.{Ghosts}
use Rattle.sqlite.specs.Held.{Held, state}
use Rattle.sqlite.specs.Steps.{over_memory}
use Rattle.hall_store.specs.Maps.{empty_world}
use Rattle.hall_sql.specs.Opened.{Starts}
use Rattle.hall_sql.specs.Standing.{IsBareDatabase, IsHall}
use Rattle.hall_sql.specs.Content.{content_of}
use Rattle.hall_sql.specs.Tables.{hall_schema}
use Rattle.hall_sql.specs.declared.open.OpenFault.{OpenFault}
use Rattle.hall_tool.specs.Machine.{Files, HandsOut, HandsOutThere, Kinds, OnHost, Refuses, RefusesThere, Streams}
use Rattle.hall_tool.specs.Machine.{keeping, kinds}
use Rattle.hall_tool.specs.Tasks.{DoesInit, DoesReplay}
use Rattle.hall_tool.specs.declared.fault.CommandFault.{CommandFault}
use Rattle.hall_tool.specs.declared.fault.CommandFault.TheVariants as stop
use Rattle.hall_tool.specs.declared.fault.ToolFault.TheVariants.{Memory}

-- the list was withheld by this error; or the database was refused for this cause; or memory was wanting
abbrev pub StopsAt : (Error → Type 0) → (OpenFault → Type 0) → Type 0 → CommandFault → Type 0
StopsAt Withheld Refused Wants (stop.List error) = Withheld error
StopsAt Withheld Refused Wants (stop.Database cause) = Refused cause
StopsAt Withheld Refused Wants (stop.Tool Memory) = Wants
StopsAt Withheld Refused Wants other = ⊥

-- the command stopped so, and the machine, the reader and the writer are as they were
abbrev pub IsStopped : {N F R W : Type 0} → (Error → Type 0) → (OpenFault → Type 0) → Type 0 → OnHost N F R W
    → OnHost N F R W → Result ℕ CommandFault → Type 0
IsStopped Withheld Refused Wants before after (Ok status) = ⊥
IsStopped Withheld Refused Wants before after (Err fault) =
    StopsAt Withheld Refused Wants fault × (after.host ≡ before.host)
    × (after.stand.reader ≡ before.stand.reader) × (after.stand.writer ≡ before.stand.writer)

-- what the connections of a database say
abbrev pub tables : {S R W : Type 0} → Ghosts S → Streams R W → Kinds (Held S) R W
tables g known = kinds (λ s. content_of (state g s)) known

-- The files handed out the database at the path, this was done from the world that they held to the one in the database
-- that they were given back, a hall's; or they refused it, and nothing was done.
abbrev pub IsTaskAt : {F N S R W : Type 0} → Files F S
    → (OnHost N (Held S) R W → OnHost N (Held S) R W → Result ℕ CommandFault → Type 0) → List ℕ
    → OnHost N F R W → OnHost N F R W → Result ℕ CommandFault → Type 0
IsTaskAt {F} {N} {S} files does db before after result =
    ((first last : Held S) × (between : F)
    × HandsOutThere files before.stand.kept db first between × files.paths.closes between last after.stand.kept
    × IsHall (state files.store last) × Starts (files.paths.image_at db) (content_of (state files.store first))
    × does (keeping before first) (keeping after last) result)
    ⊎ IsStopped (λ error. ⊥) (RefusesThere files before.stand.kept db after.stand.kept) ⊥ before after result

-- The files gave the list and handed out the database at the path, the people of the list were imported into the world
-- that they held, and they were given the database back, a hall's; or they withheld or refused one of the two, and
-- nothing was done.
abbrev pub IsInitAt : {F N S R W : Type 0} → Files F S → Streams R W → List ℕ → List ℕ → OnHost N F R W
    → OnHost N F R W → Result ℕ CommandFault → Type 0
IsInitAt {F} {N} {S} files known db people before after result =
    ((list : List ℕ) × (listed between : F) × (first last : Held S)
    × files.paths.gives before.stand.kept people list listed
    × HandsOut files listed db first between × files.paths.closes between last after.stand.kept
    × IsHall (state files.store last) × Starts (files.paths.image_at db) (content_of (state files.store first))
    × DoesInit (tables files.store known) list (keeping before first) (keeping after last) result)
    ⊎ IsStopped (λ error. files.paths.withholds before.stand.kept people error after.stand.kept)
    (λ cause. (list : List ℕ) × (listed : F) × files.paths.gives before.stand.kept people list listed
    × Refuses files listed db after.stand.kept cause) ⊥ before after result

-- The files gave the list, and the records of the reader were answered over a hall in memory that was empty before the
-- list, without a row; or they withheld it, or memory was wanting, and nothing was done.
abbrev pub IsReplayInMemory : {F N S R W : Type 0} → Files F S → Streams R W → List ℕ → OnHost N F R W
    → OnHost N F R W → Result ℕ CommandFault → Type 0
IsReplayInMemory files known people before after result =
    ((list : List ℕ) × (first last : Held MemStore)
    × files.paths.gives before.stand.kept people list after.stand.kept
    × ((content_of (state over_memory first)).world ≡ empty_world)
    × IsBareDatabase hall_schema (state over_memory first).now
    × DoesReplay (tables over_memory known) list (keeping before first) (keeping after last) result)
    ⊎ IsStopped (λ error. files.paths.withholds before.stand.kept people error after.stand.kept) (λ cause. ⊥)
    ((list : List ℕ) × files.paths.gives before.stand.kept people list after.stand.kept) before after result
