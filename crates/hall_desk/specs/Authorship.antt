-- By whom a row came: the request that brought it in a hall's life, and whose the key was when it was asked.
use Rattle.std.specs.Prelude.{◌↔◌, ◌≡◌, ◌≢◌, ◌⊎◌, ◌<◌, ◌≤◌, ◌++◌, ℕ, List, ◌∷◌, Option, Some, Contains, IsTrue}
use Rattle.std.specs.FinMap.{get}
use Rattle.hall_grid.specs.Board.{Board}
use Rattle.hall_policy.specs.World.{World, place_of, entry_at, IsTesterOf, end_of, close_of}
use Rattle.hall_policy.specs.Actions.{may}
use Rattle.hall_policy.specs.declared.record.AnswerKey.{AnswerKey}
use Rattle.hall_policy.specs.declared.record.AnswerRow.{AnswerRow}
use Rattle.hall_policy.specs.declared.record.Person.{Person}
use Rattle.hall_policy.specs.declared.record.ProtestKey.{ProtestKey}
use Rattle.hall_policy.specs.declared.record.ProtestRow.{ProtestRow}
use Rattle.hall_policy.specs.declared.record.PuzzleKey.{PuzzleKey}
use Rattle.hall_policy.specs.declared.record.PuzzleRow.{PuzzleRow}
use Rattle.hall_policy.specs.declared.record.PuzzleState.{PuzzleState}
use Rattle.hall_policy.specs.declared.record.PuzzleState.TheVariants as state
use Rattle.hall_policy.specs.declared.record.Round.{Round}
use Rattle.hall_policy.specs.declared.record.Ruling.{Ruling}
use Rattle.hall_policy.specs.declared.request.Action.{Action}
use Rattle.hall_policy.specs.declared.request.Action.TheVariants as action
use Rattle.hall_policy.specs.declared.request.Sheet.{Sheet}
use Rattle.hall_store.specs.Caller.{caller_of}
use Rattle.hall_desk.specs.Lookups.{IsReleasedRound}
use Rattle.hall_desk.specs.Shown.{state_name}
use Rattle.hall_desk.specs.Step.{draft_of, IsFound}
use Rattle.hall_desk.specs.History.{Event, requested, seeded, History}
use Rattle.hall_desk.specs.declared.reply.Reply.{Reply}
use Rattle.hall_desk.specs.declared.reply.Reply.TheVariants as reply

-- One of the events is a request of the person, at the moment, for the action, with this reply. The events before it
-- lead from the world to the one in which it was asked, where its key was the person's, and a role of the person allows
-- the action; and from there the request and the events after it lead to the later world.
pub record HasAsked (world later : World) (events : List Event) (person : Person) (t : ℕ) (asked : Action)
    (given : Reply) : Type 0 where
  pub key : Option (List ℕ)
  pub before : List Event
  pub after : List Event
  pub all : events ≡ before ++ requested t (record { key = key; action = asked }) given ∷ after
  pub at : World
  pub came : History world before at
  pub went : History at (requested t (record { key = key; action = asked }) given ∷ after) later
  pub caller : caller_of at key ≡ Some person
  pub allowed : IsTrue (may person.roles asked)

-- ---- people

-- the person came with a list that came by no request, or with one that a director imported
abbrev pub IsAdmitted : World → World → List Event → Person → Type 0
IsAdmitted world later events person =
    (people : List Person) × (count : ℕ) × Contains people person
    × (Contains events (seeded people (reply.Import count))
    ⊎ ((director : Person) × (t : ℕ)
    × HasAsked world later events director t (action.Import people) (reply.Import count)))

-- ---- puzzles

-- the person is the author whom the puzzle stands under, or a director
abbrev pub MayWrite : Person → PuzzleKey → Type 0
MayWrite person key = (person.name ≡ key.author) ⊎ IsTrue person.roles.director

-- the puzzle stood under the key already
abbrev pub HadPuzzle : World → PuzzleKey → Board → Type 0
HadPuzzle world key puzzle = (row : PuzzleRow) × (get world.puzzles key ≡ Some row) × (row.puzzle ≡ puzzle)

-- the puzzle was put under the key, as a new one, by its author or a director
abbrev pub IsPut : World → World → List Event → PuzzleKey → Board → Type 0
IsPut world later events key puzzle =
    (person : Person) × (t : ℕ) × (text : List ℕ) × MayWrite person key
    × HasAsked world later events person t (action.PutPuzzle key puzzle) (reply.PutPuzzle (state_name state.New) text)

-- none of the events puts a puzzle under the key as a new one
abbrev pub NoneIsPut : List Event → PuzzleKey → Type 0
NoneIsPut events key =
    (t : ℕ) (sender : Option (List ℕ)) (puzzle : Board) (text : List ℕ) →
    ¬ (Contains events (requested t (record { key = sender; action = action.PutPuzzle key puzzle })
    (reply.PutPuzzle (state_name state.New) text)))

-- the puzzle stood under the key already, in the state, and none of the events puts one there as a new one
abbrev pub HadState : World → List Event → PuzzleKey → Board → PuzzleState → Type 0
HadState world events key puzzle found =
    (row : PuzzleRow) × (get world.puzzles key ≡ Some row) × (row.puzzle ≡ puzzle) × (row.state ≡ found)
    × NoneIsPut events key

-- the puzzle's author or a director asked for a search of the puzzle, which stood under the key then; the state is one
-- that such a search may find, and its name was told; and since then none was put under the key as a new one
abbrev pub IsSearchedFor : World → World → List Event → PuzzleKey → Board → PuzzleState → Type 0
IsSearchedFor world later events key puzzle found =
    (person : Person) × (t budget : ℕ) × MayWrite person key × IsFound puzzle budget found
    × (search : HasAsked world later events person t (action.Certify key budget) (reply.Certify (state_name found)))
    × HadPuzzle search.at key puzzle × NoneIsPut search.after key

-- ---- rounds

-- the round under the id has the list and the testers of the sheet, and what the sheet says of it; its flags may have
-- risen
pub record IsFromSheet (world : World) (id : List ℕ) (sheet : Sheet) : Type 0 where
  pub round : Round
  pub kept : get world.rounds id ≡ Some round
  pub same : round ≡ record (draft_of id sheet) { released = round.released; published = round.published }
  pub places : (number : ℕ) → place_of world id number ≡ entry_at sheet.puzzles number
  pub testers : (name : List ℕ) → IsTesterOf world id name ↔ Contains sheet.testers name

-- the round under the id had its list, its testers, and all but its flags already
pub record HadRound (world later : World) (id : List ℕ) (round : Round) : Type 0 where
  pub before : Round
  pub kept : get world.rounds id ≡ Some before
  pub same : round ≡ record before { released = round.released; published = round.published }
  pub places : (number : ℕ) → place_of later id number ≡ place_of world id number
  pub testers : (name : List ℕ) → IsTesterOf later id name ↔ IsTesterOf world id name

-- the round was put by a director, by the sheet that it is from
abbrev pub IsDrafted : World → World → List Event → List ℕ → Type 0
IsDrafted world later events id =
    (person : Person) × (t : ℕ) × (sheet : Sheet) × IsFromSheet later id sheet
    × HasAsked world later events person t (action.PutRound id sheet) (reply.PutRound id)

-- the round is there and published
abbrev pub IsPublishedRound : World → List ℕ → Type 0
IsPublishedRound world id = (round : Round) × (get world.rounds id ≡ Some round) × IsTrue round.published

-- a person with a role that allows the action asked for it: a director, where it is a Release or a Publish, by which
-- the round got its flag
abbrev pub IsFlagged : World → World → List Event → Action → Reply → Type 0
IsFlagged world later events asked given =
    (person : Person) × (t : ℕ) × HasAsked world later events person t asked given

-- ---- answers, protests and rulings

-- the answer was handed in by the entrant whom it stands under, at its moment, and its number was told
abbrev pub IsHandedIn : World → World → List Event → AnswerKey → AnswerRow → Type 0
IsHandedIn world later events key row =
    (person : Person) × (told : Option ℕ) × (person.name ≡ key.entrant)
    × HasAsked world later events person row.moment (action.Submit key.round key.number key.token row.answer)
    (reply.Submit row.n told)

-- the protest stood under the key already, perhaps without its ruling
abbrev pub HadProtest : World → ProtestKey → ProtestRow → Type 0
HadProtest world key row =
    (before : ProtestRow) × (get world.protests key ≡ Some before) × (row ≡ record before { ruling = row.ruling })

-- the moment lies between the round's end and its close
abbrev pub TakesProtests : World → List ℕ → ℕ → Type 0
TakesProtests world id t =
    (round : Round) × (get world.rounds id ≡ Some round) × (end_of round ≤ t) × (t < close_of round)

-- the protest was made by the entrant whom it stands under, between the round's end and its close
abbrev pub IsProtested : World → World → List Event → ProtestKey → ProtestRow → Type 0
IsProtested world later events key row =
    (person : Person) × (t : ℕ) × (person.name ≡ key.entrant) × TakesProtests later key.round t
    × HasAsked world later events person t (action.Protest key.round key.token row.number row.text)
    (reply.Protest key.token)

-- the protest under the key had the ruling already
abbrev pub HadRuling : World → ProtestKey → Ruling → Type 0
HadRuling world key ruling =
    (before : ProtestRow) × (get world.protests key ≡ Some before) × (before.ruling ≡ Some ruling)

-- the protest was ruled so by a referee who is not its entrant
abbrev pub IsRuledSo : World → World → List Event → ProtestKey → Ruling → Type 0
IsRuledSo world later events key ruling =
    (person : Person) × (t : ℕ) × (person.name ≢ key.entrant)
    × HasAsked world later events person t (action.RuleProtest key.round key.entrant key.token ruling)
    (reply.RuleProtest ruling)

-- ---- all rows

-- what the later world keeps stood in the world before, or came by a request of who may bring it; of lists under an id
-- without a round nothing is said
pub record IsAuthored (world later : World) (events : List Event) : Type 0 where
  pub people : (name : List ℕ) (person : Person) → get later.people name ≡ Some person →
      (get world.people name ≡ Some person) ⊎ ((person.name ≡ name) × IsAdmitted world later events person)
  pub puzzles : (key : PuzzleKey) (row : PuzzleRow) → get later.puzzles key ≡ Some row →
      HadPuzzle world key row.puzzle ⊎ IsPut world later events key row.puzzle
  pub states : (key : PuzzleKey) (row : PuzzleRow) → get later.puzzles key ≡ Some row → row.state ≢ state.New →
      HadState world events key row.puzzle row.state ⊎ IsSearchedFor world later events key row.puzzle row.state
  pub rounds : (id : List ℕ) (round : Round) → get later.rounds id ≡ Some round →
      HadRound world later id round ⊎ IsDrafted world later events id
  pub released : (id : List ℕ) → IsReleasedRound later id →
      IsReleasedRound world id ⊎ IsFlagged world later events (action.Release id) (reply.Release id)
  pub published : (id : List ℕ) → IsPublishedRound later id →
      IsPublishedRound world id ⊎ IsFlagged world later events (action.Publish id) (reply.Publish id)
  pub answers : (key : AnswerKey) (row : AnswerRow) → get later.answers key ≡ Some row →
      (get world.answers key ≡ Some row) ⊎ IsHandedIn world later events key row
  pub protests : (key : ProtestKey) (row : ProtestRow) → get later.protests key ≡ Some row →
      HadProtest world key row ⊎ IsProtested world later events key row
  pub rulings : (key : ProtestKey) (row : ProtestRow) (ruling : Ruling) → get later.protests key ≡ Some row →
      row.ruling ≡ Some ruling → HadRuling world key ruling ⊎ IsRuledSo world later events key ruling

-- so it is over every life of a hall
abbrev pub RowsAreAuthored : Type 0
RowsAreAuthored =
    (world later : World) (events : List Event) → History world events later → IsAuthored world later events
