-- A file as it was read into memory.
use Rattle.std.specs.Prelude.{◌≡◌, ◌+◌, ℕ, Bool, true, false, List, IsTrue, bytes_eq, if◌then◌else◌}
use Rattle.sqlite_disk.specs.declared.Files.{Files}
use Rattle.sqlite_disk.specs.declared.start.Start.{Ghosts}
use Rattle.sqlite_disk.specs.History.{MayLeave, steps_of}
use Rattle.sqlite_disk.specs.Memory.{memory_bytes, memory_is_usable}
use Rattle.hall_sql.specs.declared.copied.Copied.{Copied}

-- the bytes are those that the log, or the database file, held
abbrev pub is_start : {S : Type 0} → Ghosts S → Bool → List ℕ → Bool
is_start start is_log bytes = bytes_eq bytes (if is_log then start.log else start.db)

-- it is the log's or the database file's, and was not changed
pub record IsCopy {S : Type 0} (is_log : Bool) (copy : Copied S) : Type 0 where
  pub which : copy.is_log ≡ is_log
  pub same : memory_bytes copy.disk ≡ copy.first.items

-- it may be read and written
abbrev pub copy_is_usable : {S : Type 0} → Copied S → Bool
copy_is_usable copy = memory_is_usable copy.disk

-- they are a log and a database file that were not changed, and may be read and written
pub record AreCopies {S : Type 0} (files : Files (Copied S)) : Type 0 where
  pub log : IsCopy true files.log
  pub db : IsCopy false files.db
  pub log_usable : IsTrue (copy_is_usable files.log)
  pub db_usable : IsTrue (copy_is_usable files.db)

-- what a crash may leave of it, were it a file
abbrev pub copy_may_leave : {S : Type 0} → Copied S → List ℕ → Type 0
copy_may_leave copy =
    let m = copy.disk in MayLeave false m.bytes.items m.synced.items (steps_of m.steps.items)

-- how many of its calls have failed
abbrev pub copy_faults : {S : Type 0} → Copied S → ℕ
copy_faults copy = copy.disk.faults + copy.failed
