-- What is made of the world where records are added to the hall's tables, each under a new key.
use Rattle.std.specs.Prelude.{◌≡◌, ℕ, List, None}
use Rattle.std.specs.FinMap.{get, insert}
use Rattle.sqlite.specs.Effect.{Database}
use Rattle.sqlite.specs.Order.{Row}
use Rattle.sqlite.specs.Tree.{Trees}
use Rattle.hall_grid.specs.Canonical.{CanonicalText}
use Rattle.hall_policy.specs.Sink.{HasTaken}
use Rattle.hall_policy.specs.World.{World}
use Rattle.hall_policy.specs.declared.record.Person.{Person}
use Rattle.hall_policy.specs.declared.record.PuzzleRow.{PuzzleRow}
use Rattle.hall_policy.specs.declared.record.Round.{Round}
use Rattle.hall_policy.specs.declared.record.Entry.{Entry}
use Rattle.hall_policy.specs.declared.record.PlaceKey.{PlaceKey}
use Rattle.hall_policy.specs.declared.record.AnswerRow.{AnswerRow}
use Rattle.hall_policy.specs.declared.record.ProtestRow.{ProtestRow}
use Rattle.hall_store.specs.declared.change.Change.TheVariants.{AddAnswer}
use Rattle.hall_sql.specs.declared.whole.Whole.{Whole}
use Rattle.hall_sql.specs.AllRead.{StaysRead}
use Rattle.hall_sql.specs.Columns.{answer_params, protest_params, puzzle_params}
use Rattle.hall_sql.specs.Inside.{AddsPerson}
use Rattle.hall_sql.specs.RoundColumns.{head_params}
use Rattle.hall_sql.specs.RoundPuts.{PutsPlace}
use Rattle.hall_sql.specs.Rows.{world_of}
use Rattle.hall_sql.specs.Spared.{may_write, KeptOtherRows}
use Rattle.hall_sql.specs.Standing.{HasAdded}
use Rattle.hall_sql.specs.Stands.{ListsLike}
use Rattle.hall_sql.specs.Tables.{hall_schema}

-- the person stands under the name, where none stood there, and all else is as it was
abbrev pub WithPerson : World → Person → World → Type 0
WithPerson old person new =
    get old.people person.name ≡ None → new ≡ record old { people = insert old.people person.name person }

-- and so on, in each of the other tables
abbrev pub WithPuzzle : World → PuzzleRow → World → Type 0
WithPuzzle old row new = get old.puzzles row.key ≡ None → new ≡ record old { puzzles = insert old.puzzles row.key row }

-- the round, without its list
abbrev pub WithRound : World → Round → World → Type 0
WithRound old round new =
    get old.rounds round.id ≡ None → new ≡ record old { rounds = insert old.rounds round.id round }

abbrev pub WithPlace : World → PlaceKey × Entry → World → Type 0
WithPlace old place new =
    get old.places place.0 ≡ None → new ≡ record old { places = insert old.places place.0 place.1 }

-- the answer
abbrev pub WithAnswer : World → AnswerRow → World → Type 0
WithAnswer old row new = get old.answers row.key ≡ None → new ≡ record old { answers = insert old.answers row.key row }

-- the protest
abbrev pub WithProtest : World → ProtestRow → World → Type 0
WithProtest old row new =
    get old.protests row.key ≡ None → new ≡ record old { protests = insert old.protests row.key row }

-- A row of these columns was added to the table in this tree. It is a record, and the world took it so.
pub record AddsRow {X : Type 0} (tree : ℕ) (With : World → X → World → Type 0) (values : Row) (old : Database) (x : X)
    (new : Database) : Type 0 where
  pub row : HasAdded hall_schema tree values old new
  pub world : With (world_of old.trees) x (world_of new.trees)
  pub read : StaysRead old new

-- the person's row was added
abbrev pub PutsPerson : Database → Person → Database → Type 0
PutsPerson old person new = AddsPerson person old new

-- and so on: the puzzle's, as its canonical text
abbrev pub AddsPuzzle : Database → PuzzleRow → Database → Type 0
AddsPuzzle old row new =
    (text : List ℕ) × CanonicalText text row.puzzle × AddsRow 3 WithPuzzle (puzzle_params text row) old row new

-- the round's head
abbrev pub AddsHead : Database → Round → Database → Type 0
AddsHead old round new = AddsRow 5 WithRound (head_params round) old round new

-- the entry of a round's list
abbrev pub AddsPlace : Database → PlaceKey × Entry → Database → Type 0
AddsPlace old place new = PutsPlace place.0.round place.0.number place.1 old new

-- the answer's, and each row stays that this may not write
pub record AddsAnswer (old : Database) (answer : AnswerRow) (new : Database) : Type 0 where
  pub row : HasAdded hall_schema 9 (answer_params answer) old new
  pub world : WithAnswer (world_of old.trees) answer (world_of new.trees)
  pub read : StaysRead old new
  pub others : KeptOtherRows (may_write (AddAnswer answer)) old.trees new.trees

-- the protest's
abbrev pub AddsProtest : Database → ProtestRow → Database → Type 0
AddsProtest old row new = AddsRow 12 WithProtest (protest_params row) old row new

-- each record was added, after those to which it refers
pub record Fills (rows : Whole) (old new : Database) : Type 0 where
  pub with_people : Database
  pub with_puzzles : Database
  pub with_heads : Database
  pub with_places : Database
  pub with_answers : Database
  pub people : HasTaken PutsPerson old rows.people.items with_people
  pub puzzles : HasTaken AddsPuzzle with_people rows.puzzles.items with_puzzles
  pub heads : HasTaken AddsHead with_puzzles rows.heads.items with_heads
  pub places : HasTaken AddsPlace with_heads rows.places.items with_places
  pub answers : HasTaken AddsAnswer with_places rows.answers.items with_answers
  pub protests : HasTaken AddsProtest with_answers rows.protests.items new

-- the trees are those of a database to which all records were added, and list the hall's tables
abbrev pub AreFilled : Whole → Database → Trees → Type 0
AreFilled rows held db = (d : Database) × Fills rows held d × ListsLike hall_schema d.trees × (db ≡ d.trees)
