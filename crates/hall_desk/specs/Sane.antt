-- What holds of every world that the hall reaches.
use Rattle.std.specs.Prelude.{◌≡◌, ◌≢◌, ◌≤◌, ℕ, List, Some, None, IsTrue}
use Rattle.std.specs.FinMap.{get}
use Rattle.hall_grid.specs.Board.{Board}
use Rattle.hall_grid.specs.Answer.{AnswerText, IsFilling, Verdict}
use Rattle.hall_policy.specs.Limits.{most_answers, most_protests, most_puzzles}
use Rattle.hall_solve.specs.Puzzle.{IsRight}
use Rattle.hall_policy.specs.World.{World, IsTesterOf}
use Rattle.hall_policy.specs.Ranges.{IsWorld}
use Rattle.hall_policy.specs.Rules.{ListsEntry, StandsReleased, IsCertified, answers_given, protests_made, puzzles_put}
use Rattle.hall_desk.specs.Lookups.{IsReleasedRound}
use Rattle.hall_policy.specs.declared.record.Person.{Person}
use Rattle.hall_policy.specs.declared.record.PuzzleKey.{PuzzleKey}
use Rattle.hall_policy.specs.declared.record.PuzzleRow.{PuzzleRow}
use Rattle.hall_policy.specs.declared.record.PuzzleState.{PuzzleState}
use Rattle.hall_policy.specs.declared.record.PuzzleState.TheVariants as state
use Rattle.hall_policy.specs.declared.record.Round.{Round}
use Rattle.hall_policy.specs.declared.record.Entry.{Entry}
use Rattle.hall_policy.specs.declared.record.PlaceKey.{PlaceKey}
use Rattle.hall_policy.specs.declared.record.AnswerKey.{AnswerKey}
use Rattle.hall_policy.specs.declared.record.AnswerRow.{AnswerRow}
use Rattle.hall_policy.specs.declared.record.ProtestKey.{ProtestKey}
use Rattle.hall_policy.specs.declared.record.ProtestRow.{ProtestRow}

-- the filling breaks no rule of the puzzle
pub record SolvesPuzzle (puzzle : Board) (f : List ℕ) : Type 0 where
  pub filling : IsFilling puzzle f
  pub right : IsRight puzzle f

-- what a state says of the puzzle's solutions
abbrev pub IsTrueState : Board → PuzzleState → Type 0
IsTrueState puzzle (state.One text) =
    (solution : List ℕ) × AnswerText puzzle text solution × SolvesPuzzle puzzle solution
    × ((other : List ℕ) → SolvesPuzzle puzzle other → other ≡ solution)
IsTrueState puzzle state.NoSolution = (filling : List ℕ) → ¬ (SolvesPuzzle puzzle filling)
IsTrueState puzzle state.More = (a b : List ℕ) × SolvesPuzzle puzzle a × SolvesPuzzle puzzle b × (a ≢ b)
IsTrueState puzzle state.GaveUp = Unit {0}
IsTrueState puzzle state.New = Unit {0}

-- the round's puzzle of that number is there
abbrev pub IsPlaceThere : World → List ℕ → ℕ → Type 0
IsPlaceThere world round number =
    (entry : Entry) × (get world.places (record { round = round; number = number }) ≡ Some entry)

-- what a row refers to is there
pub record RefersToRows (world : World) : Type 0 where
  -- a puzzle's author is there
  pub authors : (key : PuzzleKey) (row : PuzzleRow) → get world.puzzles key ≡ Some row →
      get world.people key.author ≢ None
  -- a round's puzzles are there, a draft's too
  pub entries : (key : PlaceKey) (entry : Entry) → get world.places key ≡ Some entry →
      get world.puzzles entry.puzzle ≢ None
  -- a round's testers are there
  pub testers : (round name : List ℕ) → IsTesterOf world round name → get world.people name ≢ None
  -- an entrant is there, and the place of an answer or protest
  pub entrants : (key : AnswerKey) (row : AnswerRow) → get world.answers key ≡ Some row →
      get world.people key.entrant ≢ None
  pub answered : (key : AnswerKey) (row : AnswerRow) → get world.answers key ≡ Some row →
      IsPlaceThere world key.round key.number
  pub protesters : (key : ProtestKey) (row : ProtestRow) → get world.protests key ≡ Some row →
      get world.people key.entrant ≢ None
  pub protested : (key : ProtestKey) (row : ProtestRow) → get world.protests key ≡ Some row →
      IsPlaceThere world key.round row.number

-- the verdict is that of the answer to the puzzle at the place
abbrev pub IsVerdictAt : World → List ℕ → ℕ → AnswerRow → Type 0
IsVerdictAt world round number row =
    (entry : Entry) × (puzzle : PuzzleRow) × (get world.places (record { round = round; number = number }) ≡ Some entry)
    × (get world.puzzles entry.puzzle ≡ Some puzzle) × Verdict puzzle.puzzle row.answer row.verdict

-- a person of the name is an entrant, author of none of the round's puzzles and no tester of the round
abbrev pub MayTakePart : World → List ℕ → List ℕ → Type 0
MayTakePart world name round =
    (person : Person) × (get world.people name ≡ Some person) × IsTrue person.roles.entrant
    × ((entry : Entry) → ListsEntry world round entry → entry.puzzle.author ≢ name) × ¬ (IsTesterOf world round name)

-- a sane world: what every step of the hall keeps
pub record Sane (world : World) : Type 0 where
  -- each row is of its type and stands under its own key, and what it refers to is there
  pub typed : IsWorld world
  pub refers : RefersToRows world
  -- a puzzle's state is true of it
  pub states : (key : PuzzleKey) (row : PuzzleRow) → get world.puzzles key ≡ Some row → IsTrueState row.puzzle row.state
  -- answers and protests belong to released rounds
  pub answers_released : (key : AnswerKey) (row : AnswerRow) → get world.answers key ≡ Some row →
      IsReleasedRound world key.round
  pub protests_released : (key : ProtestKey) (row : ProtestRow) → get world.protests key ≡ Some row →
      IsReleasedRound world key.round
  -- who has an answer or a protest in a round may take part in it
  pub answerers : (key : AnswerKey) (row : AnswerRow) → get world.answers key ≡ Some row →
      MayTakePart world key.entrant key.round
  pub protesters : (key : ProtestKey) (row : ProtestRow) → get world.protests key ≡ Some row →
      MayTakePart world key.entrant key.round
  -- a stored verdict is that of its answer and its puzzle's text
  pub verdicts : (key : AnswerKey) (row : AnswerRow) → get world.answers key ≡ Some row →
      IsVerdictAt world key.round key.number row
  -- a puzzle of a released round is in state one and in no other released round
  pub certified : (id : List ℕ) (key : PuzzleKey) → StandsReleased world key id → IsCertified world key
  pub in_one_round : (a b : List ℕ) (key : PuzzleKey) → StandsReleased world key a → StandsReleased world key b → a ≡ b
  -- a published round is released and has no open protest
  pub published : (id : List ℕ) (round : Round) → get world.rounds id ≡ Some round → IsTrue round.published →
      IsTrue round.released
  pub ruled : (id : List ℕ) (round : Round) → get world.rounds id ≡ Some round → IsTrue round.published →
      (key : ProtestKey) (row : ProtestRow) → key.round ≡ id → get world.protests key ≡ Some row → row.ruling ≢ None
  -- one entrant's answers to one puzzle of a round are numbered 1 to their count, each number once
  pub numbered : (key : AnswerKey) (row : AnswerRow) → get world.answers key ≡ Some row → (1 ≤ row.n)
      × (row.n ≤ answers_given world key.entrant key.round key.number)
  pub numbered_once : (a b : AnswerKey) (row other : AnswerRow) → get world.answers a ≡ Some row →
      get world.answers b ≡ Some other →
      a.entrant ≡ b.entrant → a.round ≡ b.round → a.number ≡ b.number → row.n ≡ other.n → a ≡ b
  -- nobody is director and entrant
  pub apart : (name : List ℕ) (person : Person) → get world.people name ≡ Some person → IsTrue person.roles.director →
      IsTrue person.roles.entrant → ⊥
  -- the limits
  pub few_answers : (entrant round : List ℕ) (number : ℕ) → answers_given world entrant round number ≤ most_answers
  pub few_protests : (entrant round : List ℕ) → protests_made world entrant round ≤ most_protests
  pub few_puzzles : (author : List ℕ) → puzzles_put world author ≤ most_puzzles
