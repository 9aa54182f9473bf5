-- What is shown of puzzles, rounds and answers, and which answers a caller sees.
use Rattle.std.specs.Prelude.{◌≡◌, ◌+◌, ◌&&◌, ◌||◌, not, ℕ, Bool, true, false, List, [], ◌∷◌, Option, Some, None}
use Rattle.std.specs.Prelude.{nat_le, if◌then◌else◌}
use Rattle.std.specs.FinMap.{get}
use Rattle.hall_grid.specs.Canonical.{CanonicalText}
use Rattle.hall_policy.specs.World.{World, end_of, same_text}
use Rattle.hall_policy.specs.declared.record.Person.{Person}
use Rattle.hall_policy.specs.declared.record.PuzzleKey.{PuzzleKey}
use Rattle.hall_policy.specs.declared.record.PuzzleRow.{PuzzleRow}
use Rattle.hall_policy.specs.declared.record.PuzzleState.{PuzzleState}
use Rattle.hall_policy.specs.declared.record.PuzzleState.TheVariants as state
use Rattle.hall_policy.specs.declared.record.Round.{Round}
use Rattle.hall_policy.specs.declared.record.Entry.{Entry}
use Rattle.hall_policy.specs.declared.record.RoundRow.{RoundRow}
use Rattle.hall_policy.specs.declared.record.AnswerRow.{AnswerRow}
use Rattle.hall_policy.specs.declared.record.ProtestRow.{ProtestRow}
use Rattle.hall_policy.specs.declared.record.Mode.{Mode}
use Rattle.hall_policy.specs.declared.record.Mode.TheVariants.{Instant, Sealed}
use Rattle.hall_desk.specs.declared.reply.StateName.{StateName}
use Rattle.hall_desk.specs.declared.reply.StateName.TheVariants as name
use Rattle.hall_desk.specs.declared.reply.ShownPuzzle.{ShownPuzzle}
use Rattle.hall_desk.specs.declared.reply.ShownRound.{ShownRound}
use Rattle.hall_desk.specs.declared.reply.AnswerLine.{AnswerLine}
use Rattle.hall_desk.specs.declared.reply.ProtestLine.{ProtestLine}
use Rattle.hall_desk.specs.declared.reply.PuzzleLine.{PuzzleLine}
use Rattle.hall_desk.specs.declared.reply.RoundLine.{RoundLine}

-- what is told of a puzzle's state
abbrev pub state_name : PuzzleState → StateName
state_name state.New = name.New
state_name (state.One solution) = name.One
state_name state.NoSolution = name.NoSolution
state_name state.More = name.More
state_name state.GaveUp = name.GaveUp

-- a director sees every puzzle, an author those that the author put
abbrev pub sees_puzzle : Person → PuzzleRow → Bool
sees_puzzle person row = person.roles.director || same_text row.key.author person.name

-- a puzzle as it is listed
abbrev pub puzzle_line : PuzzleRow → PuzzleLine
puzzle_line row = record { key = row.key; state = state_name row.state }

-- a director sees every round, all others the released ones
abbrev pub sees_round : Person → Round → Bool
sees_round person round = person.roles.director || round.released

-- a round as it is listed
abbrev pub round_line : Round → RoundLine
round_line round = record {
  id = round.id;
  minutes = round.minutes;
  mode = round.mode;
  published = round.published;
  released = round.released;
  start = round.start;
  title = round.title;
}

-- a puzzle of a round as it is shown: its number, its points and its canonical text
pub record ShowsPuzzle (world : World) (place : ℕ) (entry : Entry) (shown : ShownPuzzle) : Type 0 where
  pub row : PuzzleRow
  pub kept : get world.puzzles entry.puzzle ≡ Some row
  pub number : shown.number ≡ place
  pub points : shown.points ≡ entry.points
  pub text : CanonicalText shown.text row.puzzle

-- all puzzles of the list are shown, in its order, numbered from the given number on
abbrev pub ShowsPuzzles : World → ℕ → List Entry → List ShownPuzzle → Type 0
ShowsPuzzles world number [] [] = Unit {0}
ShowsPuzzles world number (entry ∷ entries) (line ∷ shown) =
    ShowsPuzzle world number entry line × ShowsPuzzles world (number + 1) entries shown
ShowsPuzzles world number [] (line ∷ shown) = ⊥
ShowsPuzzles world number (entry ∷ entries) [] = ⊥

-- the round as it is read
pub record ShowsRound (world : World) (row : RoundRow) (shown : ShownRound) : Type 0 where
  pub bonus : shown.bonus ≡ row.round.bonus
  pub id : shown.id ≡ row.round.id
  pub minutes : shown.minutes ≡ row.round.minutes
  pub mode : shown.mode ≡ row.round.mode
  pub penalty : shown.penalty ≡ row.round.penalty
  pub protest_minutes : shown.protest_minutes ≡ row.round.protest_minutes
  pub puzzles : ShowsPuzzles world 1 row.puzzles shown.puzzles
  pub start : shown.start ≡ row.round.start
  pub title : shown.title ≡ row.round.title

-- whether verdicts wait for the end
abbrev pub is_sealed : Mode → Bool
is_sealed Instant = false
is_sealed Sealed = true

-- the caller sees the answers of all entrants: a director at any time, a referee from the end on
abbrev pub sees_all : Person → Round → ℕ → Bool
sees_all person round t = person.roles.director || (person.roles.referee && nat_le (end_of round) t)

-- the caller sees the answer: it is one of the round, and the caller's own or the caller sees all
abbrev pub sees_answer : Person → Round → List ℕ → ℕ → AnswerRow → Bool
sees_answer person round id t row =
    same_text row.key.round id && (sees_all person round t || same_text row.key.entrant person.name)

-- the verdict is left out where the round is sealed, it isn't over and the caller is no director
abbrev pub shows_verdict : Person → Round → ℕ → Bool
shows_verdict person round t = not (is_sealed round.mode) || (nat_le (end_of round) t || person.roles.director)

-- an answer as it is listed
abbrev pub answer_line : Bool → AnswerRow → AnswerLine
answer_line shows row = record {
  answer = row.answer;
  entrant = row.key.entrant;
  moment = row.moment;
  n = row.n;
  number = row.key.number;
  token = row.key.token;
  verdict = if shows then Some row.verdict else None;
}

-- the caller sees the protest: it is one of the round, and the caller's own or the caller is a director or referee
abbrev pub sees_protest : Person → List ℕ → ProtestRow → Bool
sees_protest person id row =
    same_text row.key.round id
    && ((person.roles.director || person.roles.referee) || same_text row.key.entrant person.name)

-- a protest as it is listed
abbrev pub protest_line : ProtestRow → ProtestLine
protest_line row = record {
  entrant = row.key.entrant;
  number = row.number;
  ruling = row.ruling;
  text = row.text;
  token = row.key.token;
}

-- the verdict that a reply to a Submit tells: none where the round is sealed
abbrev pub told_verdict : Round → ℕ → Option ℕ
told_verdict round verdict = if is_sealed round.mode then None else Some verdict

-- the text is the solution that is stored with the puzzle
abbrev pub IsStoredSolution : World → PuzzleKey → List ℕ → Type 0
IsStoredSolution world key text =
    (row : PuzzleRow) × (get world.puzzles key ≡ Some row) × (row.state ≡ state.One text)

-- the texts are the stored solutions of the list's puzzles, in its order
abbrev pub AreSolutions : World → List Entry → List (List ℕ) → Type 0
AreSolutions world [] [] = Unit {0}
AreSolutions world (entry ∷ entries) (text ∷ texts) =
    IsStoredSolution world entry.puzzle text × AreSolutions world entries texts
AreSolutions world [] (text ∷ texts) = ⊥
AreSolutions world (entry ∷ entries) [] = ⊥
