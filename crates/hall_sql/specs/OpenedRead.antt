-- A hall of either version that was found in the files at a path, to be read.
use Rattle.std.specs.Prelude.{◌≡◌, ◌⊎◌, ℕ, Bool, true, false, List}
use Rattle.sqlite_trees.specs.declared.store.Store.{Ghosts}
use Rattle.sqlite.specs.Recovery.{Image}
use Rattle.sqlite.specs.Held.{Held, state}
use Rattle.sqlite.specs.State.{State, HasCleanDisk}
use Rattle.sqlite.specs.declared.error.Error.{Error}
use Rattle.hall_store.specs.declared.fault.StoreFault.TheVariants.{Failed}
use Rattle.hall_sql.specs.AdoptCause.{AdoptFails, AdoptOldFails}
use Rattle.hall_sql.specs.Migrate.{old_content_of}
use Rattle.hall_sql.specs.Opened.{IsHandedBack, OpensAs, RefusesSeen, Starts, StartsOld, WasAnalyzed}
use Rattle.hall_sql.specs.Standing.{AddsNoOutcome, HasAdopted, HasAdoptedOld}
use Rattle.hall_sql.specs.Content.{content_of}
use Rattle.hall_sql.specs.Tables.{IsHallSchema, IsOldSchema, no_schema}
use Rattle.hall_sql.specs.declared.open.OpenFault.{OpenFault}
use Rattle.hall_sql.specs.declared.open.OpenFault.TheVariants.{Missing, Unopened, Old as WasOld, Analyzed, Refused}
use Rattle.hall_sql.specs.declared.open_read.FoundHall.{FoundHall}
use Rattle.hall_sql.specs.declared.open_read.FoundHall.TheVariants.{Present, Old}
use Rattle.hall_sql.specs.declared.sight.Sight.{Sight}

-- the hall's tables stood in the connection, which was taken over
abbrev pub HasFoundHall : State → State → Type 0
HasFoundHall was held = HasAdopted was held × (HasCleanDisk held → IsHallSchema was.now.schema)

-- the connection was taken over as a hall's, of the present version or of the one before
abbrev pub IsTakenToRead : {S : Type 0} → Ghosts S → Held S → FoundHall S → Type 0
IsTakenToRead g was (Present held) = HasFoundHall (state g was) (state g held)
IsTakenToRead g was (Old held) = HasAdoptedOld (state g was) (state g held)

-- Why a connection is refused: its database has no table; or its tables aren't those of the version before, and the
-- cause is one for which it isn't taken over to be written; or they are, and the cause is one of that version's.
abbrev pub RefusesToRead : State → State → Type 0
RefusesToRead was left =
    (was.now.schema ≡ no_schema)
    ⊎ ((¬ IsOldSchema was.now.schema × AdoptFails was left)
    ⊎ (IsOldSchema was.now.schema × AdoptOldFails was left))

-- The files told that there is a file at the path, and then handed out the database that they held, and it was taken
-- over as a hall's of this version.
abbrev pub OpensToRead : {F S : Type 0} → Ghosts S → (List ℕ → Image) → (F → List ℕ → Bool → F → Type 0)
    → (F → List ℕ → Held S → F → Type 0) → F → List ℕ → FoundHall S → F → Type 0
OpensToRead {F} g image_at tells opens old path (Present held) new =
    (there : F) × tells old path false there × OpensAs HasFoundHall g image_at opens there path held new
OpensToRead {F} g image_at tells opens old path (Old held) new =
    (there : F) × tells old path false there × OpensAs HasAdoptedOld g image_at opens there path held new

-- Where the device was honest, it serves, and its world is the one that the files held.
abbrev pub StartsToRead : {S : Type 0} → Ghosts S → Image → FoundHall S → Type 0
StartsToRead g image (Present held) = Starts image (content_of (state g held))
StartsToRead g image (Old held) = StartsOld image (old_content_of (state g held))

-- the files told that there is no file at the path, and were asked nothing more; or that there is one, and refused by
-- the error, or handed out a database that was refused for this cause, and took it back as it was left
abbrev pub IsCauseToRead : {F S : Type 0} → Ghosts S → (List ℕ → Image) → (F → List ℕ → Bool → F → Type 0)
    → (F → List ℕ → Error → F → Type 0) → (F → List ℕ → Sight → F → Type 0) → (F → List ℕ → Held S → F → Type 0)
    → (F → Held S → F → Type 0) → F → List ℕ → F → OpenFault → Type 0
IsCauseToRead g image_at tells refuses sees opens closes old path new Missing = tells old path true new
IsCauseToRead {F} g image_at tells refuses sees opens closes old path new (Unopened error sight) =
    (there : F) × tells old path false there × RefusesSeen refuses sees there path error sight new
IsCauseToRead {F} g image_at tells refuses sees opens closes old path new Analyzed =
    (there : F) × tells old path false there
    × IsHandedBack AddsNoOutcome WasAnalyzed g image_at opens closes there path new
IsCauseToRead {F} g image_at tells refuses sees opens closes old path new (Refused fault) =
    (there : F) × tells old path false there
    × IsHandedBack AddsNoOutcome (λ was left. ¬ (WasAnalyzed was left) × (fault ≡ Failed → RefusesToRead was left))
    g image_at opens closes there path new
IsCauseToRead g image_at tells refuses sees opens closes old path new WasOld = ⊥
