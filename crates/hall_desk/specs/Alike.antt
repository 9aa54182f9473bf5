-- What two worlds show alike.
use Rattle.std.specs.Prelude.{◌≡◌, ◌<◌, ℕ, Bool, List, Some, IsTrue}
use Rattle.std.specs.Option.{option_map}
use Rattle.std.specs.FinMap.{get}
use Rattle.hall_policy.specs.World.{World, end_of}
use Rattle.hall_policy.specs.OwnAlike.{seen, as_is, OwnAlike}
use Rattle.hall_policy.specs.declared.record.Person.{Person}
use Rattle.hall_policy.specs.declared.record.PuzzleKey.{PuzzleKey}
use Rattle.hall_policy.specs.declared.record.Round.{Round}
use Rattle.hall_policy.specs.declared.record.AnswerKey.{AnswerKey}
use Rattle.hall_policy.specs.declared.record.ProtestKey.{ProtestKey}
use Rattle.hall_desk.specs.Shown.{is_sealed}
use Rattle.hall_desk.specs.Secrecy.{HasStarted, TestsPuzzle}

-- two worlds look alike to the person at the moment, where rounds and their lists are the same: the person's rows show
-- alike; a round that hides verdicts is sealed and isn't over; the rows of a published round are the same, and so is
-- each puzzle of a released round that has started, or of a round of which the person is a tester
pub record LooksAlike (ex : List ℕ → List ℕ → List ℕ) (hidden : List ℕ → Bool) (person : Person) (t : ℕ)
    (world other : World) : Type 0 where
  pub own : OwnAlike ex hidden person world other
  pub sealed : (id : List ℕ) (round : Round) → IsTrue (hidden id) → get world.rounds id ≡ Some round →
      IsTrue (is_sealed round.mode) × (t < end_of round)
  pub answers : (id : List ℕ) (round : Round) → get world.rounds id ≡ Some round → IsTrue round.published →
      (key : AnswerKey) → key.round ≡ id → get world.answers key ≡ get other.answers key
  pub protests : (id : List ℕ) (round : Round) → get world.rounds id ≡ Some round → IsTrue round.published →
      (key : ProtestKey) → key.round ≡ id → get world.protests key ≡ get other.protests key
  pub puzzles : (key : PuzzleKey) → HasStarted world t key → get world.puzzles key ≡ get other.puzzles key
  pub tested : (key : PuzzleKey) → TestsPuzzle world person.name key → get world.puzzles key ≡ get other.puzzles key

-- the worlds are the same but for answers and protests: those of kept names in kept rounds show alike
pub record AlikeFor (ex : List ℕ → List ℕ → List ℕ) (hidden : List ℕ → Bool) (Kept : List ℕ → List ℕ → Type 0)
    (world other : World) : Type 0 where
  pub people : world.people ≡ other.people
  pub puzzles : world.puzzles ≡ other.puzzles
  pub rounds : world.rounds ≡ other.rounds
  pub places : world.places ≡ other.places
  pub testers : world.testers ≡ other.testers
  pub answers : (key : AnswerKey) → Kept key.entrant key.round →
      option_map (seen ex hidden) (get world.answers key) ≡ option_map (seen as_is hidden) (get other.answers key)
  pub protests : (key : ProtestKey) → Kept key.entrant key.round → get world.protests key ≡ get other.protests key
