-- Files of this machine, as they are served from.
use Rattle.std.specs.Prelude.{◌≡◌, ℕ, Bool, true, false, [], ◌∷◌}
use Rattle.sqlite_disk.specs.Events.{settled}
use Rattle.sqlite_disk.specs.declared.Disk as disk
use Rattle.sqlite_disk.specs.declared.Files.{Files}
use Rattle.sqlite_disk.specs.declared.calls.Calls as calls
use Rattle.sqlite_disk.specs.declared.modelled.Modelled.{Modelled}
use Rattle.sqlite_disk.specs.declared.start.Start as starts
use Rattle.hall_sql.specs.FileCalls.{history_of}
use Rattle.hall_sql.specs.declared.losable.Losable.{Losable}

module _ {S D : Type 0} {g : disk.Ghosts D} {h : calls.Ghosts (Losable D g)} {start : starts.Ghosts S} where
  -- it is the log or the database file, was synced, and nothing has happened since
  pub record IsServed (is_log : Bool) (file : Modelled (Losable D g) S h start) : Type 0 where
    pub which : file.is_log ≡ is_log
    pub key : ℕ
    pub calls : history_of file.calls.calls ≡ settled key ∷ []

  -- they are a log and a database file to which nothing has happened since they were opened
  abbrev pub AreServed : Files (Modelled (Losable D g) S h start) → Type 0
  AreServed files = IsServed true files.log × IsServed false files.db
