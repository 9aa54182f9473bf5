-- What the next run finds in the files that a stop leaves.
use Rattle.std.specs.Prelude.{◌≡◌, IsTrue}
use Rattle.sqlite_disk.specs.declared.Disk.{Ghosts}
use Rattle.sqlite_store.specs.declared.store.FileStore.{FileStore}
use Rattle.sqlite_store.specs.FileStore as files
use Rattle.sqlite.specs.Recovery.{Image}
use Rattle.sqlite.specs.Tree.{Trees}
use Rattle.sqlite.specs.State.{State, HasCleanDisk}
use Rattle.hall_policy.specs.World.{World}
use Rattle.hall_store.specs.Store.{Content}
use Rattle.hall_sql.specs.Opened.{FindsWorld, HoldsWorld}
use Rattle.hall_sql.specs.Stands.{StandsFor}

-- the world that is found in the log and the database file, as a stop leaves them, is one that a database stands for
-- which a stop might leave of the connection
abbrev pub StopsAreFound : {D : Type 0} {g : Ghosts D} → FileStore D g → State → Type 0
StopsAreFound last s =
    (left : Image) → (files.state last).may_leave left → (world : World) → FindsWorld left world
    → ∥ ((db : Trees) × s.may_leave db × StandsFor db world) ∥₁

-- the world that is found in them is this one
abbrev pub StopsFind : {D : Type 0} {g : Ghosts D} → FileStore D g → World → Type 0
StopsFind last kept =
    (left : Image) → (files.state last).may_leave left → (world : World) → FindsWorld left world → world ≡ kept

-- they hold this one
abbrev pub StopsHold : {D : Type 0} {g : Ghosts D} → FileStore D g → World → Type 0
StopsHold last kept = (left : Image) → (files.state last).may_leave left → ∥ HoldsWorld left kept ∥₁

-- the world that is found in them is one that a stop might leave of the content
abbrev pub StopsLeave : {D : Type 0} {g : Ghosts D} → FileStore D g → Content → Type 0
StopsLeave last content =
    (left : Image) → (files.state last).may_leave left → (world : World) → FindsWorld left world
    → ∥ content.may_leave world ∥₁

-- while the store serves, a stop between two calls leaves its tables, and nothing else
abbrev pub IsAtRest : State → Type 0
IsAtRest s = HasCleanDisk s → IsTrue s.is_open → (db : Trees) → s.may_leave db → db ≡ s.now.trees
