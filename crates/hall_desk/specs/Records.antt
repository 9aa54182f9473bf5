-- The records that nothing in a hall's life takes away.
use Rattle.std.specs.Prelude.{◌↔◌, ◌≡◌, ◌⊎◌, ℕ, true, List, Option, Some, IsTrue}
use Rattle.std.specs.FinMap.{get}
use Rattle.hall_policy.specs.World.{World, place_of, IsTesterOf}
use Rattle.hall_policy.specs.Rules.{StandsReleased}
use Rattle.hall_policy.specs.declared.record.AnswerKey.{AnswerKey}
use Rattle.hall_policy.specs.declared.record.AnswerRow.{AnswerRow}
use Rattle.hall_policy.specs.declared.record.Person.{Person}
use Rattle.hall_policy.specs.declared.record.ProtestKey.{ProtestKey}
use Rattle.hall_policy.specs.declared.record.ProtestRow.{ProtestRow}
use Rattle.hall_policy.specs.declared.record.PuzzleKey.{PuzzleKey}
use Rattle.hall_policy.specs.declared.record.PuzzleRow.{PuzzleRow}
use Rattle.hall_policy.specs.declared.record.Round.{Round}
use Rattle.hall_policy.specs.declared.record.Ruling.{Ruling}
use Rattle.hall_store.specs.Caller.{caller_of}
use Rattle.hall_desk.specs.Step.{is_open, IsFound}
use Rattle.hall_desk.specs.History.{Event, History}
use Rattle.hall_desk.specs.Sane.{Sane}

-- a protest as it stays: its whole row but for the ruling, and that too once it has one
pub record StaysProtested (later : World) (key : ProtestKey) (row : ProtestRow) : Type 0 where
  pub after : ProtestRow
  pub found : get later.protests key ≡ Some after
  pub same : after ≡ record row { ruling = after.ruling }
  pub ruled : (ruling : Ruling) → row.ruling ≡ Some ruling → after.ruling ≡ Some ruling

-- a released round as it stays: its whole row but for `published`, which only rises, and each place of its list
pub record StaysReleased (world later : World) (id : List ℕ) (round : Round) : Type 0 where
  pub after : Round
  pub found : get later.rounds id ≡ Some after
  pub same : after ≡ record round { published = after.published }
  pub risen : IsTrue round.published → IsTrue after.published
  pub places : (number : ℕ) → place_of later id number ≡ place_of world id number
  pub testers : (name : List ℕ) → IsTesterOf later id name ↔ IsTesterOf world id name

-- a puzzle of a released round as it stays: its whole row but for the state, which a search may set, and only where
-- none came to an end yet
pub record StaysListed (later : World) (key : PuzzleKey) (row : PuzzleRow) : Type 0 where
  pub after : PuzzleRow
  pub found : get later.puzzles key ≡ Some after
  pub same : after ≡ record row { state = after.state }
  pub state : (after.state ≡ row.state)
      ⊎ ((is_open row.state ≡ true) × (budget : ℕ) × IsFound row.puzzle budget after.state)

-- the later world has the records of the one before
pub record KeptRecords (world later : World) : Type 0 where
  -- a person stays whole, with key and roles, and is found by the same key
  pub people : (name : List ℕ) (person : Person) → get world.people name ≡ Some person →
      get later.people name ≡ Some person
  pub callers : (key : Option (List ℕ)) (person : Person) → caller_of world key ≡ Some person →
      caller_of later key ≡ Some person
  -- an answer stays whole, with its text, its n, its moment and its verdict
  pub answers : (key : AnswerKey) (row : AnswerRow) → get world.answers key ≡ Some row →
      get later.answers key ≡ Some row
  pub protests : (key : ProtestKey) (row : ProtestRow) → get world.protests key ≡ Some row →
      StaysProtested later key row
  pub rounds : (id : List ℕ) (round : Round) → get world.rounds id ≡ Some round → IsTrue round.released →
      StaysReleased world later id round
  pub puzzles : (id : List ℕ) (key : PuzzleKey) (row : PuzzleRow) → StandsReleased world key id →
      get world.puzzles key ≡ Some row → StaysListed later key row

-- whatever happens in a hall's life, its records stay
abbrev pub RecordsStay : Type 0
RecordsStay = (world later : World) (events : List Event) → History world events later → KeptRecords world later

-- from a sane world on, the whole row of each puzzle of a released round stays: its text, its author and its solution
abbrev pub ReleasedPuzzlesStay : Type 0
ReleasedPuzzlesStay =
    (world later : World) (events : List Event) → Sane world → History world events later →
    (id : List ℕ) (key : PuzzleKey) → StandsReleased world key id → get later.puzzles key ≡ get world.puzzles key
