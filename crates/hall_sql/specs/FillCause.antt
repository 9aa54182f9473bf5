-- Why the rows of other tables aren't read, or not taken by a hall's that hold nothing.
use Rattle.std.specs.Prelude.{◌≡◌, ◌⊎◌, ◌<◌, ◌+◌, ℕ, List, ◌∷◌, drop, take}
use Rattle.sqlite.specs.Effect.{Database}
use Rattle.sqlite.specs.Schema.{Schema}
use Rattle.sqlite.specs.State.{State}
use Rattle.hall_grid.specs.Canonical.{CanonicalText}
use Rattle.hall_policy.specs.Sink.{HasTaken}
use Rattle.hall_policy.specs.declared.record.AnswerRow.{AnswerRow}
use Rattle.hall_policy.specs.declared.record.Entry.{Entry}
use Rattle.hall_policy.specs.declared.record.Person.{Person}
use Rattle.hall_policy.specs.declared.record.PlaceKey.{PlaceKey}
use Rattle.hall_policy.specs.declared.record.ProtestRow.{ProtestRow}
use Rattle.hall_policy.specs.declared.record.PuzzleRow.{PuzzleRow}
use Rattle.hall_policy.specs.declared.record.Round.{Round}
use Rattle.hall_sql.specs.AllRead.{AreAllRead}
use Rattle.hall_sql.specs.Cause.{IsStoreCause}
use Rattle.hall_sql.specs.Columns.{answer_params, person_params, protest_params, puzzle_params}
use Rattle.hall_sql.specs.Fill.{AddsAnswer, AddsHead, AddsPlace, AddsProtest, AddsPuzzle, PutsPerson}
use Rattle.hall_sql.specs.Inside.{IsHallData}
use Rattle.hall_sql.specs.RoundColumns.{head_params, place_params}
use Rattle.hall_sql.specs.Standing.{IsBareLike}
use Rattle.hall_sql.specs.Tables.{hall_schema}
use Rattle.hall_sql.specs.WholeRows.{count_of}
use Rattle.hall_sql.specs.WriteCause.{IsStatementRefused}
use Rattle.hall_sql.specs.declared.answers.TheConstants.{ADD_ANSWER}
use Rattle.hall_sql.specs.declared.people.TheConstants.{ADD_PERSON}
use Rattle.hall_sql.specs.declared.protests.TheConstants.{ADD_PROTEST}
use Rattle.hall_sql.specs.declared.puzzles.TheConstants.{ADD_PUZZLE}
use Rattle.hall_sql.specs.declared.round_writes.TheConstants.{ADD_HEAD, ADD_PLACE}
use Rattle.hall_sql.specs.declared.whole.Whole.{Whole}

-- Why the tables of the schema aren't read whole: the cause lies in the store, or a row of theirs is no record.
abbrev pub TablesFail : Schema → State → State → Type 0
TablesFail schema old new = IsStoreCause old new ⊎ (¬ AreAllRead schema old.now.trees)

-- ---- one record

-- the statement that adds the person's row is refused
abbrev pub RefusesToAddPerson : Person → Database → Type 0
RefusesToAddPerson person db = IsStatementRefused ADD_PERSON.now (person_params person) db

-- and so on: that of the puzzle's, as its canonical text
abbrev pub RefusesToAddPuzzle : PuzzleRow → Database → Type 0
RefusesToAddPuzzle row db =
    (text : List ℕ) × CanonicalText text row.puzzle × IsStatementRefused ADD_PUZZLE.now (puzzle_params text row) db

-- that of the round's head
abbrev pub RefusesToAddHead : Round → Database → Type 0
RefusesToAddHead round db = IsStatementRefused ADD_HEAD.now (head_params round) db

-- that of the entry of a round's list
abbrev pub RefusesToAddPlace : PlaceKey × Entry → Database → Type 0
RefusesToAddPlace place db =
    IsStatementRefused ADD_PLACE.now (place_params place.0.round place.0.number place.1) db

-- that of the answer's
abbrev pub RefusesToAddAnswer : AnswerRow → Database → Type 0
RefusesToAddAnswer row db = IsStatementRefused ADD_ANSWER.now (answer_params row) db

-- that of the protest's
abbrev pub RefusesToAddProtest : ProtestRow → Database → Type 0
RefusesToAddProtest row db = IsStatementRefused ADD_PROTEST.now (protest_params row) db

-- ---- one list after another

-- those of the records before one are added, and that one is refused there
pub record IsNextRefused {X : Type 0} (Adds : Database → X → Database → Type 0) (Refuses : X → Database → Type 0)
    (records : List X) (old : Database) : Type 0 where
  pub at : ℕ
  pub one : X
  pub next : drop at records ≡ one ∷ drop (at + 1) records
  pub mid : Database
  pub hall : IsHallData mid
  pub before : HasTaken Adds old (take at records) mid
  pub refused : Refuses one mid

-- the records are added, and what follows them is refused there
pub record IsRefusedThere {X : Type 0} (Adds : Database → X → Database → Type 0) (Refused : Database → Type 0)
    (records : List X) (old : Database) : Type 0 where
  pub mid : Database
  pub hall : IsHallData mid
  pub before : HasTaken Adds old records mid
  pub refused : Refused mid

-- a protest of the rows is refused, where all else was added
abbrev pub ProtestsAreRefused : Whole → Database → Type 0
ProtestsAreRefused rows = IsNextRefused AddsProtest RefusesToAddProtest rows.protests.items

-- and so on: an answer, or a protest after all answers
abbrev pub AnswersAreRefused : Whole → Database → Type 0
AnswersAreRefused rows db =
    IsNextRefused AddsAnswer RefusesToAddAnswer rows.answers.items db
    ⊎ IsRefusedThere AddsAnswer (ProtestsAreRefused rows) rows.answers.items db

-- an entry of a list, or what follows all of them
abbrev pub PlacesAreRefused : Whole → Database → Type 0
PlacesAreRefused rows db =
    IsNextRefused AddsPlace RefusesToAddPlace rows.places.items db
    ⊎ IsRefusedThere AddsPlace (AnswersAreRefused rows) rows.places.items db

-- a round's head, or what follows all of them
abbrev pub HeadsAreRefused : Whole → Database → Type 0
HeadsAreRefused rows db =
    IsNextRefused AddsHead RefusesToAddHead rows.heads.items db
    ⊎ IsRefusedThere AddsHead (PlacesAreRefused rows) rows.heads.items db

-- a puzzle, or what follows all of them
abbrev pub PuzzlesAreRefused : Whole → Database → Type 0
PuzzlesAreRefused rows db =
    IsNextRefused AddsPuzzle RefusesToAddPuzzle rows.puzzles.items db
    ⊎ IsRefusedThere AddsPuzzle (HeadsAreRefused rows) rows.puzzles.items db

-- The statement that adds one of the rows is refused over the tables that those before it have come to: by a rule of
-- the tables, for want of a rowid, or as too large a row.
abbrev pub RowsAreRefused : Whole → Database → Type 0
RowsAreRefused rows db =
    IsNextRefused PutsPerson RefusesToAddPerson rows.people.items db
    ⊎ IsRefusedThere PutsPerson (PuzzlesAreRefused rows) rows.people.items db

-- why empty tables aren't filled: the cause lies in the store, or one of the rows is refused
abbrev pub FillFails : Whole → State → State → Type 0
FillFails rows old new = IsStoreCause old new ⊎ RowsAreRefused rows old.now

-- the rows are refused, or more than can be counted
abbrev pub CannotFill : Whole → Database → Type 0
CannotFill rows db = RowsAreRefused rows db ⊎ (18446744073709551615 < count_of rows)

-- why empty tables aren't filled with rows that are counted: so, or the cause lies in the store
abbrev pub FillCountedFails : Whole → State → State → Type 0
FillCountedFails rows old new = IsStoreCause old new ⊎ CannotFill rows old.now

-- Why a hall's tables don't take the rows: they aren't read whole, or they hold nothing, and can't be filled with them.
abbrev pub TakeFails : Whole → State → State → Type 0
TakeFails rows old new =
    TablesFail hall_schema old new ⊎ (IsBareLike hall_schema old.now × CannotFill rows old.now)

-- why answers aren't added together: the cause lies in the store, or one of them is refused
abbrev pub AddAnswersFails : List AnswerRow → State → State → Type 0
AddAnswersFails rows old new = IsStoreCause old new ⊎ IsNextRefused AddsAnswer RefusesToAddAnswer rows old.now
