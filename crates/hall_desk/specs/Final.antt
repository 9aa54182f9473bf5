-- What is fixed for good: the table of a published round, and the moments of answers.
use Rattle.std.specs.Prelude.{◌↔◌, ◌≡◌, ◌⊎◌, ◌<◌, ◌≤◌, ℕ, List, Option, Some, All, IsTrue}
use Rattle.std.specs.FinMap.{get}
use Rattle.hall_policy.specs.World.{World, place_of, IsTesterOf, end_of}
use Rattle.hall_policy.specs.Rules.{StandsReleased}
use Rattle.hall_policy.specs.declared.record.AnswerKey.{AnswerKey}
use Rattle.hall_policy.specs.declared.record.AnswerRow.{AnswerRow}
use Rattle.hall_policy.specs.declared.record.ProtestKey.{ProtestKey}
use Rattle.hall_policy.specs.declared.record.PuzzleKey.{PuzzleKey}
use Rattle.hall_policy.specs.declared.record.Round.{Round}
use Rattle.hall_policy.specs.declared.request.Action.TheVariants.{Table}
use Rattle.hall_store.specs.Maps.{empty_world}
use Rattle.hall_desk.specs.Sane.{Sane}
use Rattle.hall_desk.specs.Step.{Step}
use Rattle.hall_desk.specs.Totals.{IsTableAt}
use Rattle.hall_desk.specs.History.{Event, History, IsTyped}
use Rattle.hall_desk.specs.declared.reply.Reply.{Reply}
use Rattle.hall_desk.specs.declared.reply.Reply.TheVariants as reply

-- the later world keeps of the round what the world kept: its row, its list with the puzzles, its testers, all its
-- answers and protests, none more and none less, and so its table
pub record IsKeptWhole (world later : World) (id : List ℕ) : Type 0 where
  pub round : get later.rounds id ≡ get world.rounds id
  pub places : (number : ℕ) → place_of later id number ≡ place_of world id number
  pub testers : (name : List ℕ) → IsTesterOf later id name ↔ IsTesterOf world id name
  pub puzzles : (key : PuzzleKey) → StandsReleased world key id → get later.puzzles key ≡ get world.puzzles key
  pub answers : (key : AnswerKey) → key.round ≡ id → get later.answers key ≡ get world.answers key
  pub protests : (key : ProtestKey) → key.round ≡ id → get later.protests key ≡ get world.protests key
  pub table : (text : List ℕ) → IsTableAt later id text ↔ IsTableAt world id text

-- whatever happens once a round is published, all that is kept of it stays
abbrev pub PublishedRoundsStay : Type 0
PublishedRoundsStay =
    (world later : World) (events : List Event) (id : List ℕ) (round : Round) → Sane world → All IsTyped events →
    History world events later → get world.rounds id ≡ Some round → IsTrue round.published → IsKeptWhole world later id

-- a table that was told is told for ever: whatever happens after, whoever asks for it, with a key or without, is told
-- the same, or gets 503
abbrev pub TablesAreFinal : Type 0
TablesAreFinal =
    (world told later new : World) (t u : ℕ) (key by : Option (List ℕ)) (id text : List ℕ) (given : Reply)
    (events : List Event) → Sane world → All IsTyped events →
    Step world t (record { key = key; action = Table id }) (reply.Table text) told → History told events later →
    Step later u (record { key = by; action = Table id }) given new →
    (given ≡ reply.Unavailable) ⊎ (given ≡ reply.Table text)

-- each answer's moment lies in its round: not before the start, and before the end
abbrev pub AreAnswersInTime : World → Type 0
AreAnswersInTime world =
    (key : AnswerKey) (row : AnswerRow) → get world.answers key ≡ Some row → (round : Round)
    × (get world.rounds key.round ≡ Some round) × (round.start ≤ row.moment) × (row.moment < end_of round)

-- so it stays from a sane world on in which it is so, and so it is after any life of a hall that began empty
pub record AnswersStayInTime : Type 0 where
  pub kept : (world later : World) (events : List Event) → Sane world → All IsTyped events →
      History world events later → AreAnswersInTime world → AreAnswersInTime later
  pub lives : (world : World) (events : List Event) → All IsTyped events → History empty_world events world →
      AreAnswersInTime world
