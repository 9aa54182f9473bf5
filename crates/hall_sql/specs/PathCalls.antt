-- Which paths of this machine were asked for, by which call, and what it told.
use Rattle.std.specs.Prelude.{◌≡◌, ◌⊎◌, ◌++◌, [], ◌∷◌, ℕ, List, map, Option, Some, None, IsTrue}
use Rattle.std.specs.Prelude.{Result, Ok, Err}
use Rattle.http_server.specs.declared.log.Log.{Log}
use Rattle.sqlite_disk.specs.declared.Disk.{Ghosts}
use Rattle.sqlite_disk.specs.declared.Files.{Files}
use Rattle.sqlite.specs.Files.{FailsToOpenFiles, IsCleanLeft, LeavesFiles}
use Rattle.sqlite.specs.Held.{Held}
use Rattle.sqlite.specs.Opening.{is_open_error}
use Rattle.sqlite.specs.declared.error.Error.{Error}
use Rattle.sqlite.specs.declared.error.Error.TheVariants.{SqliteFailure}
use Rattle.sqlite.specs.declared.error.ErrorCode.TheVariants.{CannotOpen, DatabaseBusy, OutOfMemory}
use Rattle.sqlite.specs.declared.file.Leftover.{Leftover}
use Rattle.sqlite_store.specs.declared.store.FileStore.{FileStore}
use Rattle.hall_sql.specs.declared.path_calls.PathCall.{PathCall}
use Rattle.hall_sql.specs.declared.path_calls.PathCall.TheVariants.{Open}
use Rattle.hall_sql.specs.declared.path_calls.PathCalls.{PathCalls}

-- the bytes of a path
abbrev pub noted : {B : Type 0} → Log ℕ B → List ℕ
noted log = map (λ one. one.0) log.items

-- in order, paths and what belongs to each
abbrev pub named : {B C : Type 0} → Log (Log ℕ B) C → List (List ℕ × C)
named log = map (λ one. (noted one.0, one.1)) log.items

-- the error of a database that isn't asked for, and of a file that can't be opened
abbrev pub cannot_open : Error
cannot_open = SqliteFailure CannotOpen

-- the system refused a file, another handle has it, or there was no memory
abbrev pub IsSystemRefusal : Error → Type 0
IsSystemRefusal error =
    (error ≡ cannot_open) ⊎ ((error ≡ SqliteFailure OutOfMemory) ⊎ (error ≡ SqliteFailure DatabaseBusy))

-- Why no database was handed out. Where nothing is told as left of the files, the error is one of the system's. Else
-- files that were so were opened, and this is left of them. Where the device was honest, the error then has its cause:
-- so they are called no database only where they hold none. And what a stop may leave is what it could leave of them
-- before, or stands for the same, or is an empty database where there was none.
abbrev pub IsUnopened : {D : Type 0} {g : Ghosts D} → (Files D → Type 0) → Option (Leftover D g) → Error → Type 0
IsUnopened Were None error = IsSystemRefusal error
IsUnopened {D} Were (Some left) error =
    IsTrue (is_open_error error)
    × ((files : Files D) × Were files × (IsCleanLeft left → FailsToOpenFiles files left error × LeavesFiles files left))

-- the path was asked for by this call, which told this, and nothing else was
abbrev pub WasCalled : PathCall → PathCalls → List ℕ → PathCalls → Type 0
WasCalled call old path new = named new.log ≡ named old.log ++ (path, call) ∷ []

-- so it was asked for a database, which was handed out, or refused by the error
abbrev pub WasOpened : {T : Type 0} → PathCalls → List ℕ → Result T Error → PathCalls → Type 0
WasOpened old path (Ok it) new = WasCalled (Open (Ok tt)) old path new
WasOpened old path (Err error) new = WasCalled (Open (Err error)) old path new

-- where no connection was handed out, there is this cause, over files that were so
abbrev pub IsRefusedFor : {T D : Type 0} {g : Ghosts D} → (T → Held (FileStore D g)) → (Files D → Type 0)
    → Result T Error → Type 0
IsRefusedFor conn_of Were (Ok it) = Unit {0}
IsRefusedFor {T} {D} {g} conn_of Were (Err error) = (left : Option (Leftover D g)) × IsUnopened Were left error
