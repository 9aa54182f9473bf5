-- What becomes of a hall of the version before, and of a hall that takes its rows.
use Rattle.std.specs.Prelude.{◌≡◌, ◌≢◌, ◌⊎◌, ◌+◌, ℕ, IfOk, IsTrue, Result, Ok, Err}
use Rattle.std.specs.FinMap.{empty, len}
use Rattle.sqlite.specs.State.{State, HasCleanDisk}
use Rattle.sqlite.specs.Tree.{Trees}
use Rattle.hall_policy.specs.World.{World}
use Rattle.hall_store.specs.Maps.{empty_world}
use Rattle.hall_store.specs.Store.{Content, Fails, Leads, LeavesNoOther, LeavesOneOf}
use Rattle.hall_store.specs.declared.fault.StoreFault.{StoreFault}
use Rattle.hall_sql.specs.declared.migration.Found.{Found}
use Rattle.hall_sql.specs.declared.migration.Found.TheVariants.{Nothing, These, Others}
use Rattle.hall_sql.specs.declared.migration.Migrated.{Migrated}
use Rattle.hall_sql.specs.declared.migration.Migrated.TheVariants.{Done, Occupied}
use Rattle.hall_sql.specs.declared.whole.Whole.{Whole}
use Rattle.hall_sql.specs.AllRead.{AreAllRead}
use Rattle.hall_sql.specs.FillCause.{TablesFail, TakeFails}
use Rattle.hall_sql.specs.PuzzleText.{AreCanonical}
use Rattle.hall_sql.specs.Rows.{world_of}
use Rattle.hall_sql.specs.Standing.{IsBareLike, KeptTables, KeptTablesIn, KeptRows}
use Rattle.hall_sql.specs.Content.{content_of}
use Rattle.hall_sql.specs.Stands.{ListsLike, OpensTo}
use Rattle.hall_sql.specs.Tables.{hall_schema, old_schema}
use Rattle.hall_sql.specs.WholeRows.{AreRowsOf, without_testers}

-- the database lists the tables of the first version, whose rows stand for the world
abbrev pub StandsForOld : Trees → World → Type 0
StandsForOld db world = ListsLike old_schema db × (world ≡ without_testers (world_of db))

-- The content of a connection with the tables of the version before: its world is what its tables hold, and no
-- testers. A stop leaves the worlds to which an open of that version may open what it finds.
abbrev pub old_content_of : State → Content
old_content_of s = record (content_of s) {
  world = without_testers (content_of s).world;
  may_leave = λ left. (db : Trees) × s.may_leave db × OpensTo StandsForOld db left;
}

-- how many rows a world without testers is
abbrev pub row_count : World → ℕ
row_count world =
    len world.people + len world.puzzles + len world.rounds + len world.places + len world.answers + len world.protests

-- What tables hold beside rows: nothing, the world whose rows they are, or neither.
abbrev pub IsFoundBeside : Whole → World → Found → Type 0
IsFoundBeside rows held Nothing = held ≡ empty_world
IsFoundBeside rows held These = (world : World) → AreRowsOf world rows → world.testers ≡ empty → held ≡ world
IsFoundBeside rows held Others =
    (held ≢ empty_world) × ((world : World) → AreRowsOf world rows → world.testers ≡ empty → held ≢ world)

-- the target had no row, and was given so many, each puzzle's with its canonical text; or it held the world before,
-- and its tables are as they were
abbrev pub WasBefore : World → ℕ → State → State → Type 0
WasBefore world count old new =
    (IsBareLike hall_schema old.now × (count ≡ row_count world) × AreCanonical new.now.trees)
    ⊎ ((world_of old.now.trees ≡ world) × (count ≡ 0) × KeptTables old new)

-- The target holds the world, which it was given in so many rows, or which it held before. Each of its rows is a
-- record.
pub record TookWorld (world : World) (count : ℕ) (old new : State) : Type 0 where
  pub serves : IsTrue new.is_open
  pub held : world_of new.now.trees ≡ world
  pub read : AreAllRead hall_schema new.now.trees
  pub before : WasBefore world count old new

-- it holds another world, and each of its rows is a record
pub record HoldsOther (world : World) (old : State) : Type 0 where
  pub some : world_of old.now.trees ≢ empty_world
  pub other : world_of old.now.trees ≢ world
  pub read : AreAllRead hall_schema old.now.trees

-- The target had no row, or held the world already, and holds it now; or it holds another. It is told where its device
-- was honest to the end.
abbrev pub TargetTakes : World → State → State → Result Migrated StoreFault → Type 0
TargetTakes world old new (Ok (Done count)) = HasCleanDisk new → TookWorld world count old new
TargetTakes world old new (Ok Occupied) = HasCleanDisk new → HoldsOther world old
TargetTakes world old new (Err fault) = Unit {0}

-- A target that isn't done is left: its tables are as they were, also rows that are no records.
abbrev pub Leaves : State → State → Result Migrated StoreFault → Type 0
Leaves old new (Ok (Done count)) = Leads (content_of old) (content_of new)
Leaves old new (Ok Occupied) = KeptTables old new
Leaves old new (Err fault) = KeptRows old new

-- a stop leaves a world that it could leave of the target before, or this one, in a target that served
abbrev pub StopsAtWorld : World → State → State → Type 0
StopsAtWorld world old new = LeavesOneOf (λ before left. left ≡ world) (content_of old) (content_of new)

-- Why a migration fails: the source isn't read whole, or the target doesn't take its rows.
abbrev pub MigrateFails : State → State → State → State → Type 0
MigrateFails was now before after =
    TablesFail old_schema was now
    ⊎ ((rows : Whole) × AreRowsOf (without_testers (world_of was.now.trees)) rows × TakeFails rows before after)

-- The tables of the source are as they were, and the target takes the source's world, or is left. What it takes is
-- told where the devices of both were honest to the end; and where the source's was, each row of the source is a
-- record, or the migration fails. A stop leaves the source as it could be left before, and the target so, or with the
-- source's world. Where both devices were honest, it fails for such a cause alone.
pub record Migrates (was now before after : State) (result : Result Migrated StoreFault) : Type 0 where
  pub source : KeptTablesIn old_schema was now
  pub kept : LeavesNoOther (old_content_of was) (old_content_of now)
  pub read : HasCleanDisk now → IfOk result (λ _. AreAllRead old_schema was.now.trees)
  pub target : Leaves before after result
  pub stops : HasCleanDisk now → StopsAtWorld (without_testers (world_of was.now.trees)) before after
  pub taken : HasCleanDisk now → TargetTakes (without_testers (world_of was.now.trees)) before after result
  pub cause : HasCleanDisk now → HasCleanDisk after → Fails (MigrateFails was now before after) result
