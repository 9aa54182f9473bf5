-- The ranges of the types: of which worlds and requests every definition and law speaks.
use Rattle.std.specs.Prelude.{◌≡◌, ◌≢◌, ◌≤◌, ◌≤ℤ◌, ℕ, pos, negsuc, List, Some, None, IfSome, All}
use Rattle.std.specs.FinMap.{get}
use Rattle.hall_grid.specs.Board.{IsBoard}
use Rattle.hall_grid.specs.Rule.{IsNameSet}
use Rattle.hall_policy.specs.Limits.{most_answers, most_number, last_second, most_minutes, most_protest_minutes}
use Rattle.hall_policy.specs.Limits.{most_points, most_visits}
use Rattle.hall_policy.specs.Text.{IsOfKind, as_word, as_token, as_key, as_title, as_protest_text, as_answer}
use Rattle.hall_policy.specs.HasRole.{HasRole}
use Rattle.hall_policy.specs.Lists.{ArePeople, AreEntries, AreTesters}
use Rattle.hall_policy.specs.World.{World, IsRoundAt}
use Rattle.hall_policy.specs.declared.record.Person.{Person}
use Rattle.hall_policy.specs.declared.record.PuzzleKey.{PuzzleKey}
use Rattle.hall_policy.specs.declared.record.PuzzleState.{PuzzleState}
use Rattle.hall_policy.specs.declared.record.PuzzleState.TheVariants.{One}
use Rattle.hall_policy.specs.declared.record.PuzzleRow.{PuzzleRow}
use Rattle.hall_policy.specs.declared.record.Round.{Round}
use Rattle.hall_policy.specs.declared.record.Entry.{Entry}
use Rattle.hall_policy.specs.declared.record.RoundRow.{RoundRow}
use Rattle.hall_policy.specs.declared.record.PlaceKey.{PlaceKey}
use Rattle.hall_policy.specs.declared.record.TesterKey.{TesterKey}
use Rattle.hall_policy.specs.declared.record.AnswerKey.{AnswerKey}
use Rattle.hall_policy.specs.declared.record.AnswerRow.{AnswerRow}
use Rattle.hall_policy.specs.declared.record.ProtestKey.{ProtestKey}
use Rattle.hall_policy.specs.declared.record.ProtestRow.{ProtestRow}
use Rattle.hall_policy.specs.declared.record.Ruling.{Ruling}
use Rattle.hall_policy.specs.declared.record.Ruling.TheVariants.{Upheld, Rejected}
use Rattle.hall_policy.specs.declared.request.Sheet.{Sheet}
use Rattle.hall_policy.specs.declared.request.Action.{Action}
use Rattle.hall_policy.specs.declared.request.Action.TheVariants.{Import, PutPuzzle, ReadPuzzle, ListPuzzles, Certify}
use Rattle.hall_policy.specs.declared.request.Action.TheVariants.{PutRound, Release, ListRounds, ReadRound, Submit}
use Rattle.hall_policy.specs.declared.request.Action.TheVariants.{Answers, Solutions, Protest, Protests}
use Rattle.hall_policy.specs.declared.request.Action.TheVariants.{RuleProtest, Publish, Table}
use Rattle.hall_policy.specs.declared.request.Request.{Request}

-- a person's name
abbrev pub IsName : List ℕ → Type 0
IsName = as_word IsOfKind

-- an author's label of a puzzle
abbrev pub IsLabel : List ℕ → Type 0
IsLabel = as_word IsOfKind

-- a round's id
abbrev pub IsRoundId : List ℕ → Type 0
IsRoundId = as_word IsOfKind

-- what tells a repeated request from a new one
abbrev pub IsToken : List ℕ → Type 0
IsToken = as_token IsOfKind

-- the secret by which a caller is known
abbrev pub IsKey : List ℕ → Type 0
IsKey = as_key IsOfKind

-- a round's title
abbrev pub IsTitle : List ℕ → Type 0
IsTitle = as_title IsOfKind

-- what an entrant protests
abbrev pub IsProtestText : List ℕ → Type 0
IsProtestText = as_protest_text IsOfKind

-- what an entrant hands in
abbrev pub IsAnswer : List ℕ → Type 0
IsAnswer = as_answer IsOfKind

-- a number from the least to the most
abbrev pub IsWithin : ℕ → ℕ → ℕ → Type 0
IsWithin least most n = (least ≤ n) × (n ≤ most)

-- a whole Unix second
abbrev pub IsMoment : ℕ → Type 0
IsMoment = IsWithin 0 last_second

-- the points of a ruling, from -1,000 to 1,000
abbrev pub IsRuling : Ruling → Type 0
IsRuling (Upheld points) = (negsuc 999 ≤ℤ points) × (points ≤ℤ pos 1000)
IsRuling Rejected = Unit {0}

-- a person, who has a role
pub record IsPerson (person : Person) : Type 0 where
  pub name : IsName person.name
  pub key : IsKey person.key
  pub roles : HasRole person.roles

-- where a puzzle is kept
pub record IsPuzzleKey (key : PuzzleKey) : Type 0 where
  pub author : IsName key.author
  pub label : IsLabel key.label

-- a state with a solution has the text of one
abbrev pub IsState : PuzzleState → Type 0
IsState (One solution) = IsAnswer solution
IsState _ = Unit {0}

-- a puzzle of an author
pub record IsPuzzleRow (row : PuzzleRow) : Type 0 where
  pub key : IsPuzzleKey row.key
  pub puzzle : IsBoard row.puzzle
  pub state : IsState row.state

-- a round without its puzzles
pub record IsRound (round : Round) : Type 0 where
  pub id : IsRoundId round.id
  pub title : IsTitle round.title
  pub start : IsMoment round.start
  pub minutes : IsWithin 1 most_minutes round.minutes
  pub protest_minutes : IsWithin 0 most_protest_minutes round.protest_minutes
  pub penalty : IsWithin 0 most_points round.penalty
  pub bonus : IsWithin 0 most_points round.bonus

-- a puzzle in a round, and the points for it
pub record IsEntry (entry : Entry) : Type 0 where
  pub puzzle : IsPuzzleKey entry.puzzle
  pub points : IsWithin 1 most_points entry.points

-- a round's list, whole
pub record IsEntryList (entries : List Entry) : Type 0 where
  pub list : AreEntries entries
  pub each : All IsEntry entries

-- a round's testers
pub record IsTesterList (testers : List (List ℕ)) : Type 0 where
  pub list : AreTesters testers
  pub each : All IsName testers

-- a round with its list, whole, and its testers
pub record IsRoundRow (row : RoundRow) : Type 0 where
  pub round : IsRound row.round
  pub puzzles : IsEntryList row.puzzles
  pub testers : IsTesterList row.testers

-- where an answer is kept
pub record IsAnswerKey (key : AnswerKey) : Type 0 where
  pub entrant : IsName key.entrant
  pub round : IsRoundId key.round
  pub number : IsWithin 1 most_number key.number
  pub token : IsToken key.token

-- an accepted answer
pub record IsAnswerRow (row : AnswerRow) : Type 0 where
  pub key : IsAnswerKey row.key
  pub n : IsWithin 1 most_answers row.n
  pub moment : IsMoment row.moment
  pub answer : IsAnswer row.answer
  pub verdict : IsNameSet row.verdict

-- where a protest is kept
pub record IsProtestKey (key : ProtestKey) : Type 0 where
  pub entrant : IsName key.entrant
  pub round : IsRoundId key.round
  pub token : IsToken key.token

-- a protest of an entrant
pub record IsProtestRow (row : ProtestRow) : Type 0 where
  pub key : IsProtestKey row.key
  pub number : IsWithin 1 most_number row.number
  pub text : IsProtestText row.text
  pub ruling : IfSome row.ruling IsRuling

-- each row is in the ranges of its type
pub record AreRowsInRange (world : World) : Type 0 where
  pub people : (name : List ℕ) (row : Person) → get world.people name ≡ Some row → IsPerson row
  pub puzzles : (key : PuzzleKey) (row : PuzzleRow) → get world.puzzles key ≡ Some row → IsPuzzleRow row
  pub rounds : (id : List ℕ) (round : Round) → get world.rounds id ≡ Some round → IsRound round
  pub places : (key : PlaceKey) (entry : Entry) → get world.places key ≡ Some entry → IsEntry entry
  pub answers : (key : AnswerKey) (row : AnswerRow) → get world.answers key ≡ Some row → IsAnswerRow row
  pub protests : (key : ProtestKey) (row : ProtestRow) → get world.protests key ≡ Some row → IsProtestRow row
  pub testers : (key : TesterKey) → get world.testers key ≡ Some tt → IsName key.name

-- the round's list is whole, and so is that of its testers
abbrev pub HasWholeList : World → List ℕ → Type 0
HasWholeList world id = (row : RoundRow) × IsRoundAt world id row × AreEntries row.puzzles × AreTesters row.testers

-- a world of the types' values
pub record IsWorld (world : World) : Type 0 where
  pub in_range : AreRowsInRange world
  -- each row stands under its own key
  pub people : (name : List ℕ) (row : Person) → get world.people name ≡ Some row → row.name ≡ name
  pub puzzles : (key : PuzzleKey) (row : PuzzleRow) → get world.puzzles key ≡ Some row → row.key ≡ key
  pub rounds : (id : List ℕ) (round : Round) → get world.rounds id ≡ Some round → round.id ≡ id
  pub answers : (key : AnswerKey) (row : AnswerRow) → get world.answers key ≡ Some row → row.key ≡ key
  pub protests : (key : ProtestKey) (row : ProtestRow) → get world.protests key ≡ Some row → row.key ≡ key
  -- keys of people differ
  pub keys_differ : (a b : List ℕ) (p q : Person) → get world.people a ≡ Some p → get world.people b ≡ Some q →
      p.key ≡ q.key → a ≡ b
  -- a round has its puzzles, numbered from 1, and its testers, few of each; a place and a tester belong to a round
  pub lists : (id : List ℕ) (round : Round) → get world.rounds id ≡ Some round → HasWholeList world id
  pub homes : (key : PlaceKey) (entry : Entry) → get world.places key ≡ Some entry → get world.rounds key.round ≢ None
  pub tester_homes : (key : TesterKey) → get world.testers key ≡ Some tt → get world.rounds key.round ≢ None

-- a sheet of the types' values
pub record IsSheet (sheet : Sheet) : Type 0 where
  pub title : IsTitle sheet.title
  pub start : IsMoment sheet.start
  pub minutes : IsWithin 1 most_minutes sheet.minutes
  pub protest_minutes : IsWithin 0 most_protest_minutes sheet.protest_minutes
  pub penalty : IsWithin 0 most_points sheet.penalty
  pub bonus : IsWithin 0 most_points sheet.bonus
  pub puzzles : IsEntryList sheet.puzzles
  pub testers : IsTesterList sheet.testers

-- an action of the types' values
abbrev pub IsAction : Action → Type 0
IsAction (Import people) = ArePeople people × All IsPerson people
IsAction (PutPuzzle key puzzle) = IsPuzzleKey key × IsBoard puzzle
IsAction (ReadPuzzle key) = IsPuzzleKey key
IsAction ListPuzzles = Unit {0}
IsAction (Certify key budget) = IsPuzzleKey key × IsWithin 0 most_visits budget
IsAction (PutRound round sheet) = IsRoundId round × IsSheet sheet
IsAction (Release round) = IsRoundId round
IsAction ListRounds = Unit {0}
IsAction (ReadRound round) = IsRoundId round
IsAction (Submit round number token answer) =
    IsRoundId round × IsWithin 1 most_number number × IsToken token × IsAnswer answer
IsAction (Answers round) = IsRoundId round
IsAction (Solutions round) = IsRoundId round
IsAction (Protest round token number text) =
    IsRoundId round × IsToken token × IsWithin 1 most_number number × IsProtestText text
IsAction (Protests round) = IsRoundId round
IsAction (RuleProtest round entrant token ruling) = IsRoundId round × IsName entrant × IsToken token × IsRuling ruling
IsAction (Publish round) = IsRoundId round
IsAction (Table round) = IsRoundId round

-- a request of the types' values
pub record IsRequest (request : Request) : Type 0 where
  pub key : IfSome request.key IsKey
  pub action : IsAction request.action
