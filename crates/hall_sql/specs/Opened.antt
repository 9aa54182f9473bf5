-- The world that the files at a path held.
use Rattle.std.specs.Prelude.{◌≡◌, ◌⊎◌, ℕ, Bool, true, false, List, [], Option, Some, None, Result, Ok, Err}
use Rattle.sqlite_trees.specs.declared.memory.MemStore.{MemStore}
use Rattle.sqlite_trees.specs.declared.store.Store.{Ghosts}
use Rattle.sqlite.specs.Recovery.{Image}
use Rattle.sqlite.specs.Tree.{Trees}
use Rattle.sqlite.specs.Files.{HoldsDatabase, AreFoundIn}
use Rattle.sqlite.specs.Held.{Held, state}
use Rattle.sqlite.specs.Start.{FindsIn}
use Rattle.sqlite.specs.State.{State, HasCleanDisk, Opens, IsLive}
use Rattle.sqlite.specs.Steps.{over_memory}
use Rattle.sqlite.specs.declared.error.Error.{Error}
use Rattle.hall_policy.specs.World.{World}
use Rattle.hall_store.specs.Store.{Content}
use Rattle.hall_store.specs.Maps.{empty_world}
use Rattle.hall_store.specs.declared.fault.StoreFault.{StoreFault}
use Rattle.hall_store.specs.declared.fault.StoreFault.TheVariants.{Failed}
use Rattle.hall_sql.specs.AdoptCause.{AdoptFails, AdoptOldFails}
use Rattle.hall_sql.specs.Tables.{IsAnalyzed, IsOldSchema}
use Rattle.hall_sql.specs.Standing.{AddsNoOutcome, HasAdopted, HasAdoptedOld, HasDeclined, MakesAtMost}
use Rattle.hall_sql.specs.Content.{content_of}
use Rattle.hall_sql.specs.Stands.{StandsFor}
use Rattle.hall_sql.specs.Migrate.{StandsForOld}
use Rattle.hall_sql.specs.declared.open.OpenFault.{OpenFault}
use Rattle.hall_sql.specs.declared.open.OpenFault.TheVariants.{Missing, Unopened, Old, Analyzed, Refused}
use Rattle.hall_sql.specs.declared.sight.Sight.{Sight}

-- where the device was honest, the connection stands for what the log and the database file hold; no limit is set on
-- the steps of its statements, so that no database is refused for one
pub record IsImageFound (image : Image) (s : State) : Type 0 where
  pub unlimited : s.step_limit ≡ None
  pub opened : HasCleanDisk s → Opens s × IsLive s
  pub found : HasCleanDisk s → FindsIn image s

-- the log and the database file hold a database that stands for the world
pub record HoldsWorld (image : Image) (world : World) : Type 0 where
  pub db : Trees
  pub held : ∥ HoldsDatabase image db ∥₁
  pub stands : StandsFor db world

-- the world that is found in the log and the database file, where a database stands for a world so
pub record FindsAs (Stands : Trees → World → Type 0) (image : Image) (world : World) : Type 0 where
  -- what database they hold stands for it
  pub holds : (db : Trees) → ∥ HoldsDatabase image db ∥₁ → Stands db world
  -- they recover to a database, or none was made yet
  pub reads : (db : Trees) × AreFoundIn image db × Stands db world

-- the hall's world that is found in them; where the database file has no byte, it is empty
pub record FindsWorld (image : Image) (world : World) : Type 0 where
  pub found : FindsAs StandsFor image world
  pub nothing : image.db ≡ [] → world ≡ empty_world

-- Where the device was honest, the store serves, and its world is the one that the files held.
abbrev pub Starts : Image → Content → Type 0
Starts image content = content.honest → content.serves × FindsWorld image content.world

-- Where the device was honest, the store of the first version serves, and its world is the one that the files held.
abbrev pub StartsOld : Image → Content → Type 0
StartsOld image content = content.honest → content.serves × FindsAs StandsForOld image content.world

-- Asked for the database at the path alone, the files handed out the one that they held, and this became of it when a
-- store took it over so.
pub record OpensAs {F S : Type 0} (Adopted : State → State → Type 0) (g : Ghosts S) (image_at : List ℕ → Image)
    (opens : F → List ℕ → Held S → F → Type 0) (old : F) (path : List ℕ) (held : Held S) (new : F) : Type 0 where
  pub was : Held S
  pub opened : opens old path was new
  pub found : IsImageFound (image_at path) (state g was)
  pub adopted : Adopted (state g was) (state g held)

-- the store is the hall's
abbrev pub OpensAt : {F S : Type 0} → Ghosts S → (List ℕ → Image) → (F → List ℕ → Held S → F → Type 0) → F → List ℕ
    → Held S → F → Type 0
OpensAt = OpensAs HasAdopted

-- Asked for the database at the path alone, the files handed out the one that they held, which was refused for this
-- cause, and took it back as it was left, also by a stop.
pub record IsHandedBack {F S : Type 0} (Stops Cause : State → State → Type 0) (g : Ghosts S) (image_at : List ℕ → Image)
    (opens : F → List ℕ → Held S → F → Type 0) (closes : F → Held S → F → Type 0) (old : F) (path : List ℕ) (new : F)
    : Type 0 where
  pub was : Held S
  pub left : Held S
  pub between : F
  pub opened : opens old path was between
  pub found : IsImageFound (image_at path) (state g was)
  pub declined : HasDeclined (state g was) (state g left)
  pub stops : Stops (state g was) (state g left)
  pub cause : HasCleanDisk (state g left) → Cause (state g was) (state g left)
  pub closed : closes between left new

-- the tables were those of the first version
abbrev pub WasOld : State → State → Type 0
WasOld was left = IsOldSchema was.now.schema

-- they were others
abbrev pub WasNotOld : State → State → Type 0
WasNotOld was left = ¬ IsOldSchema was.now.schema

-- there was one that ANALYZE makes
abbrev pub WasAnalyzed : State → State → Type 0
WasAnalyzed was left = IsAnalyzed was.now.schema

-- neither was so, and the fault has a cause
abbrev pub IsRefusedBy : StoreFault → State → State → Type 0
IsRefusedBy fault was left =
    WasNotOld was left × ¬ (WasAnalyzed was left) × (fault ≡ Failed → AdoptFails was left)

-- asked for the database at the path, the files refused by the error, and then told that this is seen there
abbrev pub RefusesSeen : {F : Type 0} → (F → List ℕ → Error → F → Type 0) → (F → List ℕ → Sight → F → Type 0)
    → F → List ℕ → Error → Sight → F → Type 0
RefusesSeen {F} refuses sees old path error sight new =
    (refused : F) × refuses old path error refused × sees refused path sight new

-- asked for the database at the path alone, the files refused by the error, or handed out one that was refused
abbrev pub IsCauseAt : {F S : Type 0} → Ghosts S → (List ℕ → Image) → (F → List ℕ → Error → F → Type 0)
    → (F → List ℕ → Sight → F → Type 0) → (F → List ℕ → Held S → F → Type 0) → (F → Held S → F → Type 0) → F → List ℕ
    → F → OpenFault → Type 0
IsCauseAt g image_at refuses sees opens closes old path new Missing = ⊥
IsCauseAt g image_at refuses sees opens closes old path new (Unopened error sight) =
    RefusesSeen refuses sees old path error sight new
IsCauseAt g image_at refuses sees opens closes old path new Old =
    IsHandedBack MakesAtMost WasOld g image_at opens closes old path new
IsCauseAt g image_at refuses sees opens closes old path new Analyzed =
    IsHandedBack MakesAtMost (λ was left. WasNotOld was left × WasAnalyzed was left) g image_at opens closes old path
    new
IsCauseAt g image_at refuses sees opens closes old path new (Refused fault) =
    IsHandedBack MakesAtMost (IsRefusedBy fault) g image_at opens closes old path new

-- the files told that there is a file at the path, and then handed out the database, of which this became
abbrev pub OpensThere : {F S : Type 0} → Ghosts S → (List ℕ → Image) → (F → List ℕ → Bool → F → Type 0)
    → (F → List ℕ → Held S → F → Type 0) → F → List ℕ → Held S → F → Type 0
OpensThere {F} g image_at tells opens old path held new =
    (there : F) × tells old path false there × OpensAt g image_at opens there path held new

-- the files told that there is no file at the path, and were asked nothing more; or that there is one, and the cause is
-- that of its database
abbrev pub IsCauseThere : {F S : Type 0} → Ghosts S → (List ℕ → Image) → (F → List ℕ → Bool → F → Type 0)
    → (F → List ℕ → Error → F → Type 0) → (F → List ℕ → Sight → F → Type 0) → (F → List ℕ → Held S → F → Type 0)
    → (F → Held S → F → Type 0) → F → List ℕ → F → OpenFault → Type 0
IsCauseThere g image_at tells refuses sees opens closes old path new Missing = tells old path true new
IsCauseThere {F} g image_at tells refuses sees opens closes old path new cause =
    (there : F) × tells old path false there × IsCauseAt g image_at refuses sees opens closes there path new cause

-- What came of asking for a database of the first version, which is there: the files told first whether there is one.
-- Where there is none, or its tables are others, nothing was taken over, and no more was asked.
abbrev pub IsOldAsked : {F S : Type 0} → Ghosts S → (List ℕ → Image) → (F → List ℕ → Bool → F → Type 0)
    → (F → List ℕ → Error → F → Type 0) → (F → List ℕ → Sight → F → Type 0) → (F → List ℕ → Held S → F → Type 0)
    → (F → Held S → F → Type 0) → F → List ℕ → Result (Option (Held S)) OpenFault → F → Type 0
IsOldAsked {F} g image_at tells refuses sees opens closes old path (Ok (Some held)) new =
    (there : F) × tells old path false there × OpensAs HasAdoptedOld g image_at opens there path held new
IsOldAsked {F} g image_at tells refuses sees opens closes old path (Ok None) new =
    tells old path true new
    ⊎ ((there : F) × tells old path false there
    × IsHandedBack AddsNoOutcome WasNotOld g image_at opens closes there path new)
IsOldAsked {F} g image_at tells refuses sees opens closes old path (Err (Unopened error sight)) new =
    (there : F) × tells old path false there × RefusesSeen refuses sees there path error sight new
IsOldAsked {F} g image_at tells refuses sees opens closes old path (Err (Refused fault)) new =
    (there : F) × tells old path false there
    × IsHandedBack AddsNoOutcome (λ was left. fault ≡ Failed → AdoptOldFails was left) g image_at opens closes there
    path new
IsOldAsked g image_at tells refuses sees opens closes old path (Err other) new = ⊥

-- ---- what the definitions give

-- files that hold a world are found to hold no other
abbrev pub OneWorldIsFound : Type 0
OneWorldIsFound =
    (image : Image) (held found : World) → HoldsWorld image held → FindsWorld image found → found ≡ held

-- over memory a connection's content is honest and serves, whatever it holds
abbrev pub MemoryServes : Type 0
MemoryServes =
    (held : Held MemStore) → (content_of (state over_memory held)).honest × (content_of (state over_memory held)).serves
