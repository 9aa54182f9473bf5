-- What the texts of the faults are, by computing them.
use Rattle.std.proofs.Common.{refl, ◌≡◌, ◌+◌, ◌-◌, ◌==◌, ◌&&◌, not, Bool, true, false, true≢false, sym, ap, ◌∙◌, arith}
use Rattle.std.proofs.Common.{ℕ, zero, suc, List, [], ◌∷◌, ◌++◌, length, take, drop, codes}
use Rattle.std.specs.List.{IsDistinct, list_all}
use Rattle.std.specs.Str.Iter.{HasSubslice, LacksByte}
use Rattle.std.specs.IoError.{error_kind}
use Rattle.std.specs.declared.io.ErrorKind.{ErrorKind}
use Rattle.std.specs.declared.io.ErrorKind.TheVariants.{OutOfMemory}
use Rattle.sqlite.specs.declared.error.Error.{Error}
use Rattle.sqlite.specs.declared.error.Error.TheVariants.{SqliteFailure}
use Rattle.sqlite.specs.declared.error.ErrorCode.{ErrorCode}
use Rattle.sqlite.specs.declared.error.ErrorCode.TheVariants as code
use Rattle.hall_sql.specs.declared.open.OpenFault.{OpenFault}
use Rattle.hall_sql.specs.declared.open.OpenFault.TheVariants as database
use Rattle.hall_sql.specs.declared.sight.Sight.{Sight}
use Rattle.hall_sql.specs.declared.sight.Sight.TheVariants as sight
use Rattle.hall_store.specs.declared.fault.StoreFault.TheVariants as store
use Rattle.hall_tool.specs.Advice.{AreFaultsTold, IsErrorText, IsFaultText, code_lines, database_lines, fault_lines}
use Rattle.hall_tool.specs.Advice.{form_lines, list_lines, open_lines, place_lines}
use Rattle.hall_tool.specs.declared.fault.CommandFault.{CommandFault}
use Rattle.hall_tool.specs.declared.fault.CommandFault.TheVariants as command
use Rattle.hall_tool.specs.declared.fault.ToolFault.TheVariants as tool
use Rattle.hall_tool.specs.declared.advice.TheConstants.{NO_MEMORY, NO_DEVICE, NO_STORE, NO_LIST, NO_FILE, IN_USE}
use Rattle.hall_tool.specs.declared.advice.TheConstants.{NO_DATABASE, OLD, OTHER_TABLES, FULL, UNREADABLE, NO_PORT}
use Rattle.hall_tool.specs.declared.advice.TheConstants.{NO_CLIENT}
use Rattle.hall_tool.specs.declared.advice.TheConstants.{NO_REGULAR, JOURNAL, UTF_16, VACUUMED, ANALYZED, NO_RULE}
use Rattle.hall_tool.specs.declared.program.TheConstants.{NO_TEXT}

-- the text after its first line, less the byte at its end
abbrev line_in : List ℕ → List ℕ
line_in text = take (length text - 7) (drop 6 text)

both : (p q : Bool) → (p && q) ≡ true → (p ≡ true) × (q ≡ true)
both true q e = (refl, e)
both false q e = absurd (true≢false (sym e))

lacks : (c : ℕ) (bs : List ℕ) → list_all (λ b. not (b == c)) bs ≡ true → LacksByte c bs
lacks c [] e k small same = omega arith
lacks c (b ∷ bs) e zero small same =
    let first : not (b == c) ≡ true = (both (not (b == c)) (list_all (λ b. not (b == c)) bs) e).0 in grind arith
lacks c (b ∷ bs) e (suc k) small same =
    lacks c bs (both (not (b == c)) (list_all (λ b. not (b == c)) bs) e).1 k (omega arith) same

is_told : (text : List ℕ) → text ≡ codes "fault\n" ++ (line_in text ++ codes "\n")
    → (length (line_in text) == 0) ≡ false
    → list_all (λ b. not (b == 10)) (line_in text) ≡ true → IsFaultText text
is_told text whole some one = (
  line_in text,
  whole,
  (λ none. true≢false (sym (ap (λ line. length line == 0) none) ∙ some)),
  lacks 10
      (line_in text) one,
)

no_text_told : IsErrorText NO_TEXT.now
no_text_told =
    let line : List ℕ = take 17 (drop 7 NO_TEXT.now) in
    (line, refl, (λ none. true≢false (sym (ap (λ line. length line == 0) none) ∙ refl)), lacks 10 line refl)

no_memory_told : IsFaultText NO_MEMORY.now
no_memory_told = is_told NO_MEMORY.now refl refl refl

no_list_told : IsFaultText NO_LIST.now
no_list_told = is_told NO_LIST.now refl refl refl

no_database_told : IsFaultText NO_DATABASE.now
no_database_told = is_told NO_DATABASE.now refl refl refl

unreadable_told : IsFaultText UNREADABLE.now
unreadable_told = is_told UNREADABLE.now refl refl refl

list_told : (kind : ErrorKind) → IsFaultText (list_lines kind)
list_told OutOfMemory = no_memory_told
list_told any = no_list_told

place_told : (seen : Sight) → IsFaultText (place_lines seen)
place_told sight.NoFile = is_told NO_REGULAR.now refl refl refl
place_told sight.Journal = is_told JOURNAL.now refl refl refl
place_told any = unreadable_told

form_told : (seen : Sight) (other : List ℕ) → IsFaultText other → IsFaultText (form_lines seen other)
form_told sight.Other other told = no_database_told
form_told sight.Utf16 other told = is_told UTF_16.now refl refl refl
form_told sight.Vacuumed other told = is_told VACUUMED.now refl refl refl
form_told any other told = told

code_told : (failure : ErrorCode) (seen : Sight) → IsFaultText (code_lines failure seen)
code_told code.DatabaseBusy seen = is_told IN_USE.now refl refl refl
code_told code.CannotOpen seen = place_told seen
code_told code.DatabaseCorrupt seen = form_told seen NO_DATABASE.now no_database_told
code_told code.NotADatabase seen = form_told seen NO_RULE.now (is_told NO_RULE.now refl refl refl)
code_told code.DiskFull seen = is_told FULL.now refl refl refl
code_told code.OutOfMemory seen = no_memory_told
code_told other seen = unreadable_told

open_told : (error : Error) (seen : Sight) → IsFaultText (open_lines error seen)
open_told (SqliteFailure failure) seen = code_told failure seen
open_told other seen = unreadable_told

database_told : (fault : OpenFault) → IsFaultText (database_lines fault)
database_told database.Missing = is_told NO_FILE.now refl refl refl
database_told (database.Unopened error seen) = open_told error seen
database_told database.Old = is_told OLD.now refl refl refl
database_told database.Analyzed = is_told ANALYZED.now refl refl refl
database_told (database.Refused store.Memory) = no_memory_told
database_told (database.Refused store.Failed) = is_told OTHER_TABLES.now refl refl refl

told : (fault : CommandFault) → IsFaultText (fault_lines fault)
told (command.Tool tool.Memory) = no_memory_told
told (command.Tool tool.Device) = is_told NO_DEVICE.now refl refl refl
told (command.Tool tool.Store) = is_told NO_STORE.now refl refl refl
told (command.List error) = list_told (error_kind error)
told (command.Database fault) = database_told fault
told command.Port = is_told NO_PORT.now refl refl refl
told command.Client = is_told NO_CLIENT.now refl refl refl

-- the words stand in the text from its byte `from` on
has_words : (from : ℕ) (text words : List ℕ) → text ≡ take from text ++ (words ++ drop (from + length words) text)
    → HasSubslice text words
has_words from text words whole = (take from text, drop (from + length words) text, whole)

pub are_faults_told : AreFaultsTold
unfolding IsDistinct
are_faults_told = record {
  lines = told;
  line = no_text_told;
  apart = search;
  memory = has_words 26 NO_MEMORY.now (codes "memory") refl;
  device = has_words 6 NO_DEVICE.now (codes "the input or the output") refl;
  store = has_words 6 NO_STORE.now (codes "the database failed") refl;
  list = has_words 6 NO_LIST.now (codes "the entry list") refl;
  file = has_words 15 NO_FILE.now (codes "no such database file") refl;
  in_use = has_words 6 IN_USE.now (codes "another program") refl;
  database = has_words 18 NO_DATABASE.now (codes "no whole SQLite database") refl;
  no_regular = has_words 24 NO_REGULAR.now (codes "no regular file") refl;
  journal = has_words 6 JOURNAL.now (codes "a journal") refl;
  utf_16 = has_words 27 UTF_16.now (codes "UTF-16") refl;
  vacuumed = has_words 19 VACUUMED.now (codes "auto_vacuum") refl;
  analyzed = has_words 35 ANALYZED.now (codes "`ANALYZE`") refl;
  no_rule = has_words 6 NO_RULE.now (codes "a row or table breaks") refl;
  old = has_words 25 OLD.now (codes "the first version: `hall migrate`") refl;
  tables = has_words 25 OTHER_TABLES.now (codes "other tables") refl;
  full = has_words 6 FULL.now (codes "the disk is full") refl;
  unreadable = has_words 24 UNREADABLE.now (codes "can't be opened") refl;
  port = has_words 6 NO_PORT.now (codes "the port") refl;
  client = has_words 6 NO_CLIENT.now (codes "no more connections") refl;
  word = has_words 7 NO_TEXT.now (codes "a word is no text") refl;
}
