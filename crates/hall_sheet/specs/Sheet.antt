-- The round sheet that bytes spell, or the first thing that is wrong with them.
use Rattle.std.specs.Prelude.{ℕ, nat_le, Bool, not, ◌&&◌, if◌then◌else◌, List, [], ◌∷◌, ◌++◌, length}
use Rattle.std.specs.Prelude.{codes, unwrap_or, Result, Ok, Err}
use Rattle.std.specs.Result.{result_ok}
use Rattle.std.specs.List.{list_any, list_all}
use Rattle.std.specs.Str.{bytes_eq, is_utf8}
use Rattle.toml.specs.Data.{Members}
use Rattle.toml.specs.Parse.{parse_document}
use Rattle.hall_policy.specs.Limits.{most_entries, most_minutes, most_protest_minutes, most_testers}
use Rattle.hall_grid.specs.Printable.{is_printable}
use Rattle.hall_policy.specs.Text.{is_kind, as_word, as_title}
use Rattle.hall_policy.specs.Reading.{◌>>=◌, or_fault, unless}
use Rattle.hall_policy.specs.declared.record.Entry.{Entry}
use Rattle.hall_policy.specs.declared.record.Mode.{Mode}
use Rattle.hall_policy.specs.declared.record.Mode.TheVariants.{Instant, Sealed}
use Rattle.hall_policy.specs.declared.request.Sheet.{Sheet}
use Rattle.hall_sheet.specs.declared.fault.Field.{Field}
use Rattle.hall_sheet.specs.declared.fault.Field.TheVariants as field
use Rattle.hall_sheet.specs.declared.fault.Refusal.{Refusal}
use Rattle.hall_sheet.specs.declared.fault.Refusal.TheVariants as refusal
use Rattle.hall_sheet.specs.declared.version.Version.{Version}
use Rattle.hall_sheet.specs.declared.version.Version.TheVariants.{First, Second, Third}
use Rattle.hall_sheet.specs.Table.{has_only, text_at, text_field, number_field, tables_field, texts_field}
use Rattle.hall_sheet.specs.People.{are_distinct}
use Rattle.hall_sheet.specs.Version.{version_in, version_or_first, sheet_fields}
use Rattle.hall_sheet.specs.Start.{civil_in, start_in}
use Rattle.hall_sheet.specs.Zone.{moment_in}

-- the fields of a table of `puzzle`
abbrev pub entry_fields : List Field
entry_fields = field.Author ∷ field.Label ∷ field.Points ∷ []

-- the table that the bytes write in TOML
abbrev pub document_in : List ℕ → Result Members Refusal
document_in bytes = unless refusal.Syntax (is_utf8 bytes) >>= (λ _. or_fault refusal.Syntax (parse_document bytes))

-- every key is listed, at the top by the version, and in the tables of `puzzle`, where that is an array of tables
abbrev pub are_listed : Members → Bool
are_listed ms =
    has_only (sheet_fields (version_or_first ms)) ms
    && list_all (has_only entry_fields) (unwrap_or (result_ok (tables_field field.Puzzle ms)) [])

-- the moment at which the clocks of the sheet's zone show its start
abbrev pub zoned_start_in : Members → Result ℕ Refusal
zoned_start_in ms = do
  start ← text_at field.Start ms
  civil ← or_fault refusal.Start (civil_in start)
  zone ← text_field field.Zone 1 64 is_printable ms
  moment_in zone civil

-- the moment at which the round starts
abbrev pub starts_in : Version → Members → Result ℕ Refusal
starts_in First ms = text_at field.Start ms >>= start_in
starts_in Second ms = zoned_start_in ms
starts_in Third ms = zoned_start_in ms

-- the mode of this name
abbrev pub mode_named : List ℕ → Result Mode Refusal
mode_named text =
    if bytes_eq text (codes "instant") then Ok Instant
    else if bytes_eq text (codes "sealed") then Ok Sealed
    else Err (refusal.Range field.Mode)

-- how answers count
abbrev pub mode_in_sheet : Members → Result Mode Refusal
mode_in_sheet ms = text_at field.Mode ms >>= mode_named

-- the texts, where each of them is a name
abbrev pub names_in : List (List ℕ) → Result (List (List ℕ)) Refusal
names_in texts = unless (refusal.Range field.Testers) (list_all (as_word is_kind) texts) >>= (λ _. Ok texts)

-- those whom the sheet names as testers: at most twenty names, none twice
unfoldable pub named_testers_in : Members → Result (List (List ℕ)) Refusal
named_testers_in ms = do
  texts ← texts_field field.Testers ms
  _ ← unless (refusal.Range field.Testers) (nat_le (length texts) most_testers)
  names ← names_in texts
  _ ← unless refusal.Repeated (are_distinct names)
  Ok names

-- those who test the round: nobody in a version that names none
abbrev pub testers_in_sheet : Version → Members → Result (List (List ℕ)) Refusal
testers_in_sheet First ms = Ok []
testers_in_sheet Second ms = Ok []
testers_in_sheet Third ms = named_testers_in ms

-- a puzzle of the round, and the points for it
unfoldable pub entry_in : Members → Result Entry Refusal
entry_in ms = do
  author ← as_word (text_field field.Author) ms
  label ← as_word (text_field field.Label) ms
  points ← number_field field.Points 1 1000 ms
  Ok (record { puzzle = record { author = author; label = label }; points = points })

-- the two entries are of one puzzle
abbrev pub is_repeated : Entry → Entry → Bool
is_repeated later earlier =
    bytes_eq earlier.puzzle.author later.puzzle.author && bytes_eq earlier.puzzle.label later.puzzle.label

-- the entries that follow those before, one after another; none is of the puzzle of an earlier one
abbrev pub entries_in : List Entry → List Members → Result (List Entry) Refusal
entries_in before [] = Ok before
entries_in before (ms ∷ more) = do
  entry ← entry_in ms
  _ ← unless refusal.Repeated (not (list_any (is_repeated entry) before))
  entries_in (before ++ entry ∷ []) more

-- the round's list: one to forty puzzles
unfoldable pub list_in : Members → Result (List Entry) Refusal
list_in ms = do
  tables ← tables_field field.Puzzle ms
  _ ← unless (refusal.Range field.Puzzle) (nat_le 1 (length tables) && nat_le (length tables) most_entries)
  entries_in [] tables

-- the sheet, field by field
unfoldable pub fields_in : Members → Result Sheet Refusal
fields_in ms = do
  version ← version_in ms
  title ← as_title (text_field field.Title) ms
  start ← starts_in version ms
  minutes ← number_field field.Minutes 1 most_minutes ms
  protest_minutes ← number_field field.ProtestMinutes 0 most_protest_minutes ms
  mode ← mode_in_sheet ms
  penalty ← number_field field.Penalty 0 1000 ms
  bonus ← number_field field.Bonus 0 1000 ms
  testers ← testers_in_sheet version ms
  puzzles ← list_in ms
  Ok (record {
    title = title;
    start = start;
    minutes = minutes;
    protest_minutes = protest_minutes;
    mode = mode;
    penalty = penalty;
    bonus = bonus;
    puzzles = puzzles;
    testers = testers;
  })

-- the sheet that the bytes spell: a document of TOML in which every key is listed, and then its fields
abbrev pub sheet_in : List ℕ → Result Sheet Refusal
sheet_in bytes = do
  ms ← document_in bytes
  _ ← unless refusal.Syntax (are_listed ms)
  fields_in ms
