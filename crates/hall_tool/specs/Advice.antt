-- What is told of a fault: that there is one, on a line, and on the next one what to do.
use Rattle.std.specs.Prelude.{◌≡◌, ◌≢◌, ℕ, List, [], ◌∷◌, ◌++◌, codes}
use Rattle.std.specs.IoError.{error_kind}
use Rattle.std.specs.List.{IsDistinct}
use Rattle.std.specs.Str.{bytes_eq}
use Rattle.std.specs.Str.Iter.{HasSubslice, LacksByte}
use Rattle.std.specs.declared.io.ErrorKind.{ErrorKind}
use Rattle.std.specs.declared.io.ErrorKind.TheVariants.{OutOfMemory}
use Rattle.sqlite.specs.declared.error.Error.{Error}
use Rattle.sqlite.specs.declared.error.Error.TheVariants.{SqliteFailure}
use Rattle.sqlite.specs.declared.error.ErrorCode.{ErrorCode}
use Rattle.sqlite.specs.declared.error.ErrorCode.TheVariants as code
use Rattle.hall_sql.specs.declared.open.OpenFault.{OpenFault}
use Rattle.hall_sql.specs.declared.open.OpenFault.TheVariants as database
use Rattle.hall_sql.specs.declared.sight.Sight.{Sight}
use Rattle.hall_sql.specs.declared.sight.Sight.TheVariants as sight
use Rattle.hall_store.specs.declared.fault.StoreFault.TheVariants as store
use Rattle.hall_tool.specs.declared.fault.CommandFault.{CommandFault}
use Rattle.hall_tool.specs.declared.fault.CommandFault.TheVariants as command
use Rattle.hall_tool.specs.declared.fault.ToolFault.TheVariants as tool
use Rattle.hall_tool.specs.declared.advice.TheConstants.{NO_MEMORY, NO_DEVICE, NO_STORE, NO_LIST, NO_FILE, IN_USE}
use Rattle.hall_tool.specs.declared.advice.TheConstants.{NO_DATABASE, OLD, OTHER_TABLES, FULL, UNREADABLE}
use Rattle.hall_tool.specs.declared.advice.TheConstants.{NO_REGULAR, JOURNAL, UTF_16, VACUUMED, ANALYZED, NO_RULE}
use Rattle.hall_tool.specs.declared.advice.TheConstants.{NO_PORT, NO_CLIENT}
use Rattle.hall_tool.specs.declared.program.TheConstants.{NO_TEXT}

-- of an entry list that can't be read
abbrev pub list_lines : ErrorKind → List ℕ
list_lines OutOfMemory = NO_MEMORY.now
list_lines any = NO_LIST.now

-- of files that aren't opened, by what lies there
abbrev pub place_lines : Sight → List ℕ
place_lines sight.NoFile = NO_REGULAR.now
place_lines sight.Journal = JOURNAL.now
place_lines any = UNREADABLE.now

-- of files that hold no database, by what the header says; where it says nothing, as else
abbrev pub form_lines : Sight → List ℕ → List ℕ
form_lines sight.Other else_told = NO_DATABASE.now
form_lines sight.Utf16 else_told = UTF_16.now
form_lines sight.Vacuumed else_told = VACUUMED.now
form_lines any else_told = else_told

-- of a database that can't be opened, by the code of SQLite's failure, and by what is seen of its file
abbrev pub code_lines : ErrorCode → Sight → List ℕ
code_lines code.DatabaseBusy seen = IN_USE.now
code_lines code.CannotOpen seen = place_lines seen
code_lines code.DatabaseCorrupt seen = form_lines seen NO_DATABASE.now
code_lines code.NotADatabase seen = form_lines seen NO_RULE.now
code_lines code.DiskFull seen = FULL.now
code_lines code.OutOfMemory seen = NO_MEMORY.now
code_lines other seen = UNREADABLE.now

-- of a database that can't be opened
abbrev pub open_lines : Error → Sight → List ℕ
open_lines (SqliteFailure failure) seen = code_lines failure seen
open_lines other seen = UNREADABLE.now

-- of a database that can't be had
abbrev pub database_lines : OpenFault → List ℕ
database_lines database.Missing = NO_FILE.now
database_lines (database.Unopened error seen) = open_lines error seen
database_lines database.Old = OLD.now
database_lines database.Analyzed = ANALYZED.now
database_lines (database.Refused store.Memory) = NO_MEMORY.now
database_lines (database.Refused store.Failed) = OTHER_TABLES.now

-- of any fault
abbrev pub fault_lines : CommandFault → List ℕ
fault_lines (command.Tool tool.Memory) = NO_MEMORY.now
fault_lines (command.Tool tool.Device) = NO_DEVICE.now
fault_lines (command.Tool tool.Store) = NO_STORE.now
fault_lines (command.List error) = list_lines (error_kind error)
fault_lines (command.Database fault) = database_lines fault
fault_lines command.Port = NO_PORT.now
fault_lines command.Client = NO_CLIENT.now

-- the text is `fault` on a line, and then a line that says something
abbrev pub IsFaultText : List ℕ → Type 0
IsFaultText text =
    (line : List ℕ) × (text ≡ codes "fault\n" ++ (line ++ codes "\n")) × (line ≢ []) × LacksByte 10 line

-- the text is one line, which says an error
abbrev pub IsErrorText : List ℕ → Type 0
IsErrorText text =
    (line : List ℕ) × (text ≡ codes "error: " ++ (line ++ codes "\n")) × (line ≢ []) × LacksByte 10 line

-- all of the texts, of the faults and of a word that is no text
abbrev pub fault_texts : List (List ℕ)
fault_texts =
    NO_MEMORY.now ∷ NO_DEVICE.now ∷ NO_STORE.now ∷ NO_LIST.now ∷ NO_FILE.now ∷ IN_USE.now ∷ NO_DATABASE.now
    ∷ NO_REGULAR.now ∷ JOURNAL.now ∷ UTF_16.now ∷ VACUUMED.now ∷ ANALYZED.now ∷ NO_RULE.now
    ∷ OLD.now ∷ OTHER_TABLES.now ∷ FULL.now ∷ UNREADABLE.now ∷ NO_PORT.now ∷ NO_CLIENT.now ∷ NO_TEXT.now ∷ []

-- each fault is told on two lines, and a word that is no text on one; no two of the texts are the same; and each has
-- the words for what failed
pub record AreFaultsTold : Type 0 where
  pub lines : (fault : CommandFault) → IsFaultText (fault_lines fault)
  pub line : IsErrorText NO_TEXT.now
  pub apart : IsDistinct bytes_eq fault_texts
  pub memory : HasSubslice NO_MEMORY.now (codes "memory")
  pub device : HasSubslice NO_DEVICE.now (codes "the input or the output")
  pub store : HasSubslice NO_STORE.now (codes "the database failed")
  pub list : HasSubslice NO_LIST.now (codes "the entry list")
  pub file : HasSubslice NO_FILE.now (codes "no such database file")
  pub in_use : HasSubslice IN_USE.now (codes "another program")
  pub database : HasSubslice NO_DATABASE.now (codes "no whole SQLite database")
  pub no_regular : HasSubslice NO_REGULAR.now (codes "no regular file")
  pub journal : HasSubslice JOURNAL.now (codes "a journal")
  pub utf_16 : HasSubslice UTF_16.now (codes "UTF-16")
  pub vacuumed : HasSubslice VACUUMED.now (codes "auto_vacuum")
  pub analyzed : HasSubslice ANALYZED.now (codes "`ANALYZE`")
  pub no_rule : HasSubslice NO_RULE.now (codes "a row or table breaks")
  pub old : HasSubslice OLD.now (codes "the first version: `hall migrate`")
  pub tables : HasSubslice OTHER_TABLES.now (codes "other tables")
  pub full : HasSubslice FULL.now (codes "the disk is full")
  pub unreadable : HasSubslice UNREADABLE.now (codes "can't be opened")
  pub port : HasSubslice NO_PORT.now (codes "the port")
  pub client : HasSubslice NO_CLIENT.now (codes "no more connections")
  pub word : HasSubslice NO_TEXT.now (codes "a word is no text")
