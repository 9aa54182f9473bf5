-- What is done with a database of the first version and one of the second, what is written of it, and the exit status.
use Rattle.std.specs.Prelude.{◌≡◌, ◌⊎◌, ℕ, List, ◌++◌, codes, decimal, Option, Some, None, Result, Ok, Err, IfOk}
use Rattle.std.specs.Prelude.{IsErrOf}
use Rattle.std.specs.Io.KnownBytes.{Appends}
use Rattle.sqlite_trees.specs.declared.store.Store.{Ghosts}
use Rattle.sqlite.specs.Held.{Held, state}
use Rattle.hall_grid.specs.Device.{Rises}
use Rattle.sqlite.specs.State.{State, HasCleanDisk}
use Rattle.hall_store.specs.Store.{IsSettled, LeavesNoOther}
use Rattle.hall_sql.specs.Migrate.{MigrateFails, Migrates, StopsAtWorld, old_content_of}
use Rattle.hall_sql.specs.Opened.{Starts, StartsOld}
use Rattle.hall_sql.specs.Standing.{IsHall, KeptTablesIn, KeptRows}
use Rattle.hall_sql.specs.Content.{content_of}
use Rattle.hall_sql.specs.Tables.{old_schema}
use Rattle.hall_sql.specs.declared.migration.Migrated.{Migrated}
use Rattle.hall_sql.specs.declared.migration.Migrated.TheVariants.{Done, Occupied}
use Rattle.hall_sql.specs.declared.open.OpenFault.{OpenFault}
use Rattle.hall_desk.specs.Sane.{Sane}
use Rattle.hall_http.specs.Device.{WritesPart}
use Rattle.hall_tool.specs.JudgeText.{on_own_line, refusal_of}
use Rattle.hall_tool.specs.Machine.{AllFiles, AskedForOld, Copying, Files, HandsOut, Refuses, copying}
use Rattle.hall_tool.specs.Shown.{IsShownBy}
use Rattle.hall_tool.specs.Tasks.{command_end}
use Rattle.hall_tool.specs.declared.fault.CommandFault.{CommandFault}
use Rattle.hall_tool.specs.declared.fault.CommandFault.TheVariants.{Database}
use Rattle.hall_tool.specs.declared.fault.ToolFault.{ToolFault}
use Rattle.hall_tool.specs.declared.fault.ToolFault.TheVariants as tool

-- where a migration was done, and the devices of both were honest to the end, the target's world is sane if the
-- source's was
abbrev pub KeepsSanity : State → State → State → State → Type 0
KeepsSanity source left old new =
    (count : ℕ) → Migrates source left old new (Ok (Done count)) → HasCleanDisk left → HasCleanDisk new →
    Sane (old_content_of source).world → Sane (content_of new).world

-- how many rows were copied, or that the target holds others, as it is written
abbrev pub migrated_line : Migrated → List ℕ
migrated_line (Done count) = codes "migrated " ++ on_own_line (decimal count)
migrated_line Occupied = refusal_of (codes "target")

-- 0 where the target holds the rows, 2 where it is refused
abbrev pub migrated_status : Migrated → ℕ
migrated_status (Done count) = 0
migrated_status Occupied = 2

-- the source isn't there, or is of another version, as it is written
abbrev pub no_source_line : List ℕ
no_source_line = refusal_of (codes "source")

-- what became of the migration, as it is written, and the exit status
abbrev pub MigrateText : State → State → State → State → List ℕ → ℕ → Type 0
MigrateText source left old new line status =
    (migrated : Migrated) × Migrates source left old new (Ok migrated) × (line ≡ migrated_line migrated)
    × (status ≡ migrated_status migrated)

-- The tables of the source are never changed, also by a stop, which leaves a world that it could leave of the target
-- before or the source's. What became of the migration was written on a line; at a device's fault, a first part of it;
-- another fault left the target's tables and the writer, and where both devices were honest, a store failed for a cause
-- of a migration's alone. However it ended, both are settled: while a store serves and its device was honest, a stop
-- leaves its world and no other.
pub record IsMigrateRun {O S W : Type 0} (g : Ghosts O) (h : Ghosts S) (contents : W → Option (List ℕ))
    (before after : Copying (Held O) (Held S) W) (result : Result ℕ ToolFault) : Type 0 where
  pub rested : KeptTablesIn old_schema (state g before.source) (state g after.source)
  pub kept : LeavesNoOther (old_content_of (state g before.source)) (old_content_of (state g after.source))
  pub stops : HasCleanDisk (state g after.source)
      → StopsAtWorld (old_content_of (state g before.source)).world (state h before.target) (state h after.target)
  pub settled : IsSettled (content_of (state h after.target))
  pub source_settled : IsSettled (old_content_of (state g after.source))
  pub line : IfOk result (λ status. (line : List ℕ) × MigrateText (state g before.source) (state g after.source)
      (state h before.target) (state h after.target) line status
      × Appends (contents before.writer.device) (contents after.writer.device) line)
  pub same : IfOk result (λ status. after.writer.failures ≡ before.writer.failures)
  pub device : IsErrOf result tool.Device → Rises before.writer.failures after.writer.failures
  pub part : IsErrOf result tool.Device → (line : List ℕ) × (status : ℕ)
      × MigrateText (state g before.source) (state g after.source) (state h before.target) (state h after.target)
      line status
      × WritesPart (contents before.writer.device) (contents after.writer.device) line
  pub memory : IsErrOf result tool.Memory → KeptRows (state h before.target) (state h after.target)
      × (after.writer ≡ before.writer)
  pub store : IsErrOf result tool.Store → KeptRows (state h before.target) (state h after.target)
      × (after.writer ≡ before.writer)
  pub cause : IsErrOf result tool.Store → HasCleanDisk (state g after.source) → HasCleanDisk (state h after.target)
      → MigrateFails (state g before.source) (state g after.source) (state h before.target) (state h after.target)

-- over a source that was taken over, the target was asked for: the files handed it out, the rows were copied from the
-- world that the source held into the one that the target held, and the files were given it back, a hall's; or they
-- refused it, and nothing was done
abbrev pub IsMigratedTo : {F O S W : Type 0} → Ghosts O → Files F S → (W → Option (List ℕ)) → List ℕ
    → Copying (Held O) F W → Copying (Held O) F W → Result ℕ CommandFault → Type 0
IsMigratedTo {F} {O} {S} g files contents to before after result =
    ((first last : Held S) × (between : F) × (ended : Result ℕ ToolFault)
    × HandsOut files before.target to first between × files.paths.closes between last after.target
    × IsHall (state files.store last) × Starts (files.paths.image_at to) (content_of (state files.store first))
    × IsMigrateRun g files.store contents (copying before.source first before.writer)
    (copying after.source last after.writer) ended
    × (result ≡ command_end ended))
    ⊎ ((cause : OpenFault) × Refuses files before.target to after.target cause × (after.source ≡ before.source)
    × (after.writer ≡ before.writer) × (result ≡ Err (Database cause)))

-- What became of asking for the source at the first path. Taken over, it holds the world that its files held, the
-- target at the second was asked for, and the files of the source were given it back, its tables as they were, also
-- rows that are no records. Where it isn't there, or is of another version, that was written; where it can't be had,
-- nothing. No target was asked for then.
abbrev pub IsMigratedFrom : {G O F S W : Type 0} → AllFiles G O F S → (W → Option (List ℕ)) → List ℕ × List ℕ
    → Result (Option (Held O)) OpenFault → Copying G F W → Copying G F W → Result ℕ CommandFault → Type 0
IsMigratedFrom {G} {O} all contents paths (Ok (Some source)) before after result =
    (left : Held O) × all.sources.paths.closes before.source left after.source
    × KeptTablesIn old_schema (state all.sources.store source) (state all.sources.store left)
    × StartsOld (all.sources.paths.image_at paths.0) (old_content_of (state all.sources.store source))
    × IsMigratedTo all.sources.store all.files contents paths.1 (copying source before.target before.writer)
    (copying left after.target after.writer) result
IsMigratedFrom all contents paths (Ok None) before after result =
    (after.source ≡ before.source) × (after.target ≡ before.target)
    × ((ended : Result ℕ ToolFault) × IsShownBy 2 contents no_source_line before.writer after.writer ended
    × (result ≡ command_end ended))
IsMigratedFrom all contents paths (Err cause) before after result =
    (after.source ≡ before.source) × (after.target ≡ before.target) × (after.writer ≡ before.writer)
    × (result ≡ Err (Database cause))

-- The source was asked for first, among files of its own, and then what followed from that was done.
abbrev pub IsMigrateAt : {G O F S W : Type 0} → AllFiles G O F S → (W → Option (List ℕ)) → List ℕ → List ℕ
    → Copying G F W → Copying G F W → Result ℕ CommandFault → Type 0
IsMigrateAt {G} {O} all contents from to before after result =
    (asked : Result (Option (Held O)) OpenFault) × (taken : G) × AskedForOld all.sources before.source from asked taken
    × IsMigratedFrom all contents (from, to) asked (copying taken before.target before.writer) after result
