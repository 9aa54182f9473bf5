-- What the hall keeps: finite maps from keys to rows, the keys' orders, and what a round's row says.
use Rattle.std.specs.Prelude.{nat_eq, ◌≡◌, ◌↔◌, ◌+◌, ◌*◌, ℕ, ℤ, pos, zero, suc, Bool, List}
use Rattle.std.specs.Prelude.{Option, Some, None, slice_get, Contains}
use Rattle.std.specs.declared.cmp.Ordering.{Ordering}
use Rattle.std.specs.Ordering.{nat_cmp, ordering_then}
use Rattle.std.specs.Cmp.Lexicographic.{pointwise}
use Rattle.std.specs.FinMap.{FinMap, get}
use Rattle.hall_policy.specs.Text.{text_cmp}
use Rattle.hall_policy.specs.declared.record.Person.{Person}
use Rattle.hall_policy.specs.declared.record.PuzzleKey.{PuzzleKey}
use Rattle.hall_policy.specs.declared.record.PuzzleRow.{PuzzleRow}
use Rattle.hall_policy.specs.declared.record.Round.{Round}
use Rattle.hall_policy.specs.declared.record.Entry.{Entry}
use Rattle.hall_policy.specs.declared.record.RoundRow.{RoundRow}
use Rattle.hall_policy.specs.declared.record.PlaceKey.{PlaceKey}
use Rattle.hall_policy.specs.declared.record.TesterKey.{TesterKey}
use Rattle.hall_policy.specs.declared.record.AnswerKey.{AnswerKey}
use Rattle.hall_policy.specs.declared.record.AnswerRow.{AnswerRow}
use Rattle.hall_policy.specs.declared.record.ProtestKey.{ProtestKey}
use Rattle.hall_policy.specs.declared.record.ProtestRow.{ProtestRow}
use Rattle.hall_policy.specs.declared.record.Ruling.{Ruling}
use Rattle.hall_policy.specs.declared.record.Ruling.TheVariants.{Upheld, Rejected}

-- the order of puzzles' keys: by author, then label
abbrev pub puzzle_cmp : PuzzleKey → PuzzleKey → Ordering
puzzle_cmp a b = ordering_then (text_cmp a.author b.author) (text_cmp a.label b.label)

-- the order of places: by round, then number
abbrev pub place_cmp : PlaceKey → PlaceKey → Ordering
place_cmp a b = ordering_then (text_cmp a.round b.round) (nat_cmp a.number b.number)

-- the order of testers' keys: by round, then name
abbrev pub tester_cmp : TesterKey → TesterKey → Ordering
tester_cmp a b = ordering_then (text_cmp a.round b.round) (text_cmp a.name b.name)

-- the order of answers' keys: by entrant, round, number, then token
abbrev pub answer_cmp : AnswerKey → AnswerKey → Ordering
answer_cmp a b =
    ordering_then (text_cmp a.entrant b.entrant)
    (ordering_then (text_cmp a.round b.round)
    (ordering_then (nat_cmp a.number b.number) (text_cmp a.token b.token)))

-- the order of protests' keys: by entrant, round, then token
abbrev pub protest_cmp : ProtestKey → ProtestKey → Ordering
protest_cmp a b =
    ordering_then (text_cmp a.entrant b.entrant)
    (ordering_then (text_cmp a.round b.round) (text_cmp a.token b.token))

-- the whole content of the hall: people by name, puzzles by author and label, rounds by id,
-- the puzzles of rounds by round and number,
-- answers by entrant, round, number and token, protests by entrant, round and token,
-- the testers of rounds by round and name
pub record World : Type 0 where
  pub people : FinMap text_cmp Person
  pub puzzles : FinMap puzzle_cmp PuzzleRow
  pub rounds : FinMap text_cmp Round
  pub places : FinMap place_cmp Entry
  pub answers : FinMap answer_cmp AnswerRow
  pub protests : FinMap protest_cmp ProtestRow
  pub testers : FinMap tester_cmp (Unit {0})

-- the round's entry of that number
abbrev pub place_of : World → List ℕ → ℕ → Option Entry
place_of world round number = get world.places (record { round = round; number = number })

-- the person of that name is a tester of the round
abbrev pub IsTesterOf : World → List ℕ → List ℕ → Type 0
IsTesterOf world round name = get world.testers (record { round = round; name = name }) ≡ Some tt

-- the entrant's answer under the token
abbrev pub answer_of : World → List ℕ → List ℕ → ℕ → List ℕ → Option AnswerRow
answer_of world entrant round number token =
    get world.answers (record { entrant = entrant; round = round; number = number; token = token })

-- the entrant's protest under the token
abbrev pub protest_of : World → List ℕ → List ℕ → List ℕ → Option ProtestRow
protest_of world entrant round token = get world.protests (record { entrant = entrant; round = round; token = token })

-- whether two texts are one
abbrev pub same_text : List ℕ → List ℕ → Bool
same_text = pointwise nat_eq

-- the points of an upheld protest, and none of another
abbrev pub ruling_points : Option Ruling → ℤ
ruling_points (Some (Upheld points)) = points
ruling_points (Some Rejected) = pos 0
ruling_points None = pos 0

-- the second at which the round is over
abbrev pub end_of : Round → ℕ
end_of round = round.start + 60 * round.minutes

-- the second from which on no protest is taken
abbrev pub close_of : Round → ℕ
close_of round = end_of round + 60 * round.protest_minutes

-- the entry with this number, counted from 1
abbrev pub entry_at : List Entry → ℕ → Option Entry
entry_at entries zero = None
entry_at entries (suc before) = slice_get entries before

-- the row is what the world keeps of the round: its head, its whole list, and its testers
pub record IsRoundAt (world : World) (id : List ℕ) (row : RoundRow) : Type 0 where
  pub head : get world.rounds id ≡ Some row.round
  pub list : (number : ℕ) → place_of world id number ≡ entry_at row.puzzles number
  pub testers : (name : List ℕ) → IsTesterOf world id name ↔ Contains row.testers name
