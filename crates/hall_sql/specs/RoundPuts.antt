-- What the steps that store a round leave of the hall's tables. What the next statement reads of them, they tell whole.
use Rattle.std.specs.Prelude.{◌≡◌, ◌+◌, ℕ, List, [], ◌∷◌, None, IsTrue, not}
use Rattle.std.specs.List.{filter}
use Rattle.std.specs.FinMap.{FinMap, get, insert}
use Rattle.sqlite_trees.specs.Tree.{put_row}
use Rattle.sqlite_rules.specs.Edit.{next_rowid}
use Rattle.sqlite.specs.declared.types.Value.{Value}
use Rattle.sqlite.specs.declared.types.Value.TheVariants.{Int}
use Rattle.sqlite.specs.Order.{Row}
use Rattle.sqlite.specs.Effect.{Database, IsDatabase}
use Rattle.sqlite.specs.State.{State}
use Rattle.hall_policy.specs.World.{place_cmp, tester_cmp}
use Rattle.hall_policy.specs.declared.record.Entry.{Entry}
use Rattle.hall_policy.specs.declared.record.PlaceKey.{PlaceKey}
use Rattle.hall_policy.specs.declared.record.Round.{Round}
use Rattle.hall_policy.specs.declared.record.RoundRow.{RoundRow}
use Rattle.hall_policy.specs.declared.record.TesterKey.{TesterKey}
use Rattle.hall_store.specs.Change.{without_list, with_list, relisted, without_testers_of, with_testers, retested}
use Rattle.hall_sql.specs.Rows.{world_of}
use Rattle.hall_sql.specs.AllRead.{StaysRead}
use Rattle.hall_sql.specs.Inside.{IsHallData}
use Rattle.hall_sql.specs.RoundColumns.{head_params, place_params, tester_params, is_under, HasSoManyHeads}
use Rattle.hall_sql.specs.Spared.{is_head_of, is_place_of, is_tester_of, KeptOtherRows}

-- a look found so many rows under the id, and left the tables
pub record CountsHeads (id : List ℕ) (count : ℕ) (old new : Database) : Type 0 where
  pub same : new ≡ old
  pub many : HasSoManyHeads id old count

-- one row stands under the round's id, and it has the round's columns
pub record HasHeadRow (round : Round) (held : Database) : Type 0 where
  pub rowid : Value
  pub alone : filter (is_under round.id) (held.trees 5) ≡ (rowid ∷ head_params round) ∷ []

-- the round stands under its id, and all else is as it was
pub record PutsHead (round : Round) (old new : Database) : Type 0 where
  pub world : world_of new.trees
      ≡ record (world_of old.trees) { rounds = insert (world_of old.trees).rounds round.id round }
  pub row : HasHeadRow round new
  pub others : KeptOtherRows (is_head_of round.id) old.trees new.trees

-- a call inside a transaction ran, and put the head where so many rows stood under its id
pub record PutsHeadOver (count : ℕ) (round : Round) (old new : State) : Type 0 where
  pub mode : IsTrue new.in_transaction
  pub sound : IsHallData old.now → IsDatabase new.now
  pub puts : IsHallData old.now → HasSoManyHeads round.id old.now count →
      IsHallData new.now × PutsHead round old.now new.now

-- the rows but those under the round's id
abbrev pub without_rows : List ℕ → List Row → List Row
without_rows id rows = filter (λ row. not (is_under id row)) rows

-- the places of the round are gone, and all else is as it was
pub record DropsPlaces (id : List ℕ) (old new : Database) : Type 0 where
  pub world : world_of new.trees
      ≡ record (world_of old.trees) { places = without_list (world_of old.trees).places id }
  pub rows : new.trees 7 ≡ without_rows id (old.trees 7)
  pub others : KeptOtherRows (is_place_of id) old.trees new.trees

-- the place of that number in the round
abbrev pub place_key : List ℕ → ℕ → PlaceKey
place_key id number = record { round = id; number = number }

-- the rows of places with one more, whose rowid is one above the last
abbrev pub with_place : List ℕ → ℕ → Entry → List Row → List Row
with_place id number entry rows = put_row (Int (next_rowid rows) ∷ place_params id number entry) rows

-- with one more for each entry, one after another, numbered from this number
abbrev pub with_places : List ℕ → ℕ → List Entry → List Row → List Row
with_places id number [] rows = rows
with_places id number (entry ∷ entries) rows =
    with_places id (number + 1) entries (with_place id number entry rows)

-- the entry stands at its place, where none stood there, and all else is as it was; its row is a record
pub record PutsPlace (id : List ℕ) (number : ℕ) (entry : Entry) (old new : Database) : Type 0 where
  pub world : get (world_of old.trees).places (place_key id number) ≡ None →
      world_of new.trees
      ≡ record (world_of old.trees) { places = insert (world_of old.trees).places (place_key id number) entry }
  pub rows : new.trees 7 ≡ with_place id number entry (old.trees 7)
  pub others : KeptOtherRows (is_place_of id) old.trees new.trees
  pub read : StaysRead old new

-- the round has no places
abbrev pub HasNoPlaces : List ℕ → FinMap place_cmp Entry → Type 0
HasNoPlaces id places = (number : ℕ) → get places (place_key id number) ≡ None

-- the entries stand at their places, numbered from 1, where the round had none, and all else is as it was
pub record PutsPlaces (id : List ℕ) (entries : List Entry) (old new : Database) : Type 0 where
  pub world : HasNoPlaces id (world_of old.trees).places →
      world_of new.trees
      ≡ record (world_of old.trees) { places = with_list (world_of old.trees).places id 1 entries }
  pub rows : new.trees 7 ≡ with_places id 1 entries (old.trees 7)
  pub others : KeptOtherRows (is_place_of id) old.trees new.trees

-- the entries stand at their places in the place of those before, and all else is as it was
pub record PutsList (id : List ℕ) (entries : List Entry) (old new : Database) : Type 0 where
  pub world : world_of new.trees
      ≡ record (world_of old.trees) { places = relisted (world_of old.trees).places id entries }
  pub rows : new.trees 7 ≡ with_places id 1 entries (without_rows id (old.trees 7))
  pub others : KeptOtherRows (is_place_of id) old.trees new.trees

-- the testers of the round are gone, and all else is as it was
pub record DropsTesters (id : List ℕ) (old new : Database) : Type 0 where
  pub world : world_of new.trees
      ≡ record (world_of old.trees) { testers = without_testers_of (world_of old.trees).testers id }
  pub rows : new.trees 14 ≡ without_rows id (old.trees 14)
  pub others : KeptOtherRows (is_tester_of id) old.trees new.trees

-- the person of that name as tester of the round
abbrev pub tester_key : List ℕ → List ℕ → TesterKey
tester_key id name = record { round = id; name = name }

-- the rows of testers with one more, whose rowid is one above the last
abbrev pub with_tester_row : List ℕ → List ℕ → List Row → List Row
with_tester_row id name rows = put_row (Int (next_rowid rows) ∷ tester_params id name) rows

-- with one more for each name, one after another
abbrev pub with_tester_rows : List ℕ → List (List ℕ) → List Row → List Row
with_tester_rows id [] rows = rows
with_tester_rows id (name ∷ names) rows = with_tester_rows id names (with_tester_row id name rows)

-- the person is a tester of the round, where that was not so, and all else is as it was
pub record PutsTester (id name : List ℕ) (old new : Database) : Type 0 where
  pub world : get (world_of old.trees).testers (tester_key id name) ≡ None →
      world_of new.trees
      ≡ record (world_of old.trees) { testers = insert (world_of old.trees).testers (tester_key id name) tt }
  pub rows : new.trees 14 ≡ with_tester_row id name (old.trees 14)
  pub others : KeptOtherRows (is_tester_of id) old.trees new.trees

-- the round has no testers
abbrev pub HasNoTesters : List ℕ → FinMap tester_cmp (Unit {0}) → Type 0
HasNoTesters id testers = (name : List ℕ) → get testers (tester_key id name) ≡ None

-- the people of these names are its testers, where the round had none, and all else is as it was
pub record PutsTesters (id : List ℕ) (names : List (List ℕ)) (old new : Database) : Type 0 where
  pub world : HasNoTesters id (world_of old.trees).testers →
      world_of new.trees
      ≡ record (world_of old.trees) { testers = with_testers (world_of old.trees).testers id names }
  pub rows : new.trees 14 ≡ with_tester_rows id names (old.trees 14)
  pub others : KeptOtherRows (is_tester_of id) old.trees new.trees

-- they are its testers in the place of those before, and all else is as it was
pub record PutsTesterList (id : List ℕ) (names : List (List ℕ)) (old new : Database) : Type 0 where
  pub world : world_of new.trees
      ≡ record (world_of old.trees) { testers = retested (world_of old.trees).testers id names }
  pub rows : new.trees 14 ≡ with_tester_rows id names (without_rows id (old.trees 14))
  pub others : KeptOtherRows (is_tester_of id) old.trees new.trees

-- The rows that a round leaves where it is put: its head is the one row of the rounds under its id, and of the places
-- and of the testers, all rows under the id are gone, and then one was added for each entry and for each name. No other
-- row stands there, be it a record or none.
pub record PutsRows (row : RoundRow) (old new : Database) : Type 0 where
  pub head : HasHeadRow row.round new
  pub places : new.trees 7
      ≡ with_places row.round.id 1 row.puzzles (without_rows row.round.id (old.trees 7))
  pub testers : new.trees 14
      ≡ with_tester_rows row.round.id row.testers (without_rows row.round.id (old.trees 14))
