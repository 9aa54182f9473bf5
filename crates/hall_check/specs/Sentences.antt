-- What the sentences of a sane world say of one row.
use Rattle.std.specs.Prelude.{◌≡◌, ◌≢◌, ◌≤◌, ◌==◌, ◌&&◌, ℕ, Bool, List, Option, Some, None, IsTrue, Contains, count_by}
use Rattle.std.specs.List.{filter}
use Rattle.std.specs.FinMap.{get, entries, values}
use Rattle.hall_grid.specs.Board.{Board}
use Rattle.hall_grid.specs.Answer.{AnswerText}
use Rattle.hall_policy.specs.Limits.{most_answers, most_protests, most_puzzles, most_testers}
use Rattle.hall_policy.specs.Lists.{AreEntries}
use Rattle.hall_policy.specs.World.{World, same_text}
use Rattle.hall_policy.specs.Rules.{StandsReleased, IsCertified, answers_given, protests_made, puzzles_put}
use Rattle.hall_policy.specs.declared.record.Person.{Person}
use Rattle.hall_policy.specs.declared.record.PuzzleRow.{PuzzleRow}
use Rattle.hall_policy.specs.declared.record.PuzzleState.{PuzzleState}
use Rattle.hall_policy.specs.declared.record.PuzzleState.TheVariants as state
use Rattle.hall_policy.specs.declared.record.Round.{Round}
use Rattle.hall_policy.specs.declared.record.Entry.{Entry}
use Rattle.hall_policy.specs.declared.record.PlaceKey.{PlaceKey}
use Rattle.hall_policy.specs.declared.record.AnswerRow.{AnswerRow}
use Rattle.hall_policy.specs.declared.record.ProtestRow.{ProtestRow}
use Rattle.hall_store.specs.Maps.{places_from}
use Rattle.hall_desk.specs.Lookups.{IsReleasedRound}
use Rattle.hall_desk.specs.Sane.{SolvesPuzzle}
use Rattle.hall_check.specs.Whole.{world_of_whole}
use Rattle.hall_check.specs.declared.whole.Whole.{Whole}

-- ---- of a person
-- one person alone has the person's key
abbrev pub HasOwnKey : World → Person → Type 0
HasOwnKey world person = count_by (λ other. same_text other.key person.key) (values world.people) ≤ 1

-- the person isn't director and entrant
abbrev pub HasRolesApart : Person → Type 0
HasRolesApart person = IsTrue person.roles.director → IsTrue person.roles.entrant → ⊥

-- a person of the name is there
abbrev pub IsKnown : World → List ℕ → Type 0
IsKnown world name = get world.people name ≢ None

-- ---- of a puzzle
-- the author has no more puzzles than are allowed
abbrev pub HasFewPuzzles : World → PuzzleRow → Type 0
HasFewPuzzles world row = puzzles_put world row.key.author ≤ most_puzzles

-- in state one the stored solution is a solution of the puzzle
abbrev pub HasSolution : Board → PuzzleState → Type 0
HasSolution puzzle (state.One text) =
    (solution : List ℕ) × AnswerText puzzle text solution × SolvesPuzzle puzzle solution
HasSolution puzzle state.NoSolution = Unit {0}
HasSolution puzzle state.More = Unit {0}
HasSolution puzzle state.GaveUp = Unit {0}
HasSolution puzzle state.New = Unit {0}

-- ---- of a round
-- the places of the round, in their order
abbrev pub places_of_round : World → List ℕ → List (PlaceKey × Entry)
places_of_round world id = filter (λ place. same_text place.0.round id) (entries world.places)

-- the round has a puzzle or more, no more than are allowed, none twice, numbered from 1
abbrev pub HasList : World → List ℕ → Type 0
HasList world id = (list : List Entry) × (places_of_round world id ≡ places_from id 1 list) × AreEntries list

-- the list of the round, where its places are numbered 1, 2 and so on; none where they aren't
abbrev pub IsListTold : List (PlaceKey × Entry) → List ℕ → Option (List Entry) → Type 0
IsListTold places id (Some list) = filter (λ place. same_text place.0.round id) places ≡ places_from id 1 list
IsListTold places id None =
    (list : List Entry) → ¬ (filter (λ place. same_text place.0.round id) places ≡ places_from id 1 list)

-- the round has no more testers than are allowed
abbrev pub HasFewTesters : World → List ℕ → Type 0
HasFewTesters world id = count_by (λ tester. same_text tester.0.round id) (entries world.testers) ≤ most_testers

-- a published round is released
abbrev pub IsReleasedFirst : Round → Type 0
IsReleasedFirst round = IsTrue round.published → IsTrue round.released

-- a round of the id is there
abbrev pub IsRoundThere : World → List ℕ → Type 0
IsRoundThere world id = get world.rounds id ≢ None

-- ---- of an entry of a round's list
-- its puzzle is there
abbrev pub HasPuzzle : World → Entry → Type 0
HasPuzzle world entry = get world.puzzles entry.puzzle ≢ None

-- where the round is released, the puzzle is in state one
abbrev pub IsCertifiedFirst : World → PlaceKey × Entry → Type 0
IsCertifiedFirst world place = IsReleasedRound world place.0.round → IsCertified world place.1.puzzle

-- where the round is released, the puzzle is in no other released round
abbrev pub IsInNoOther : World → PlaceKey × Entry → Type 0
IsInNoOther world place =
    IsReleasedRound world place.0.round → (other : List ℕ) → StandsReleased world place.1.puzzle other →
    other ≡ place.0.round

-- the other place is of the same puzzle, in another round, which is released
abbrev pub IsElsewhere : World → PlaceKey × Entry → PlaceKey × Entry → Type 0
IsElsewhere world place other =
    (other.1.puzzle ≡ place.1.puzzle) × (other.0.round ≢ place.0.round) × IsReleasedRound world other.0.round

-- one of the rows' places is
abbrev pub IsInAnother : Whole → PlaceKey × Entry → Type 0
IsInAnother whole place =
    (other : PlaceKey × Entry) × Contains whole.places.items other × IsElsewhere (world_of_whole whole) place other

-- ---- of an answer
-- the place is of a puzzle by the author, in the round
abbrev pub IsBy : List ℕ → List ℕ → PlaceKey × Entry → Type 0
IsBy author round place = (place.1.puzzle.author ≡ author) × (place.0.round ≡ round)

-- one of the places is
abbrev pub IsAuthorIn : List (PlaceKey × Entry) → List ℕ → List ℕ → Type 0
IsAuthorIn places author round = (place : PlaceKey × Entry) × Contains places place × IsBy author round place

-- its number isn't above the count of its entrant's answers to the puzzle
abbrev pub IsAnswerNumbered : World → AnswerRow → Type 0
IsAnswerNumbered world row = row.n ≤ answers_given world row.key.entrant row.key.round row.key.number

-- whether both are one entrant's answers to one puzzle of a round, with one number
abbrev pub is_numbered_alike : AnswerRow → AnswerRow → Bool
is_numbered_alike row other =
    same_text other.key.entrant row.key.entrant
    && (same_text other.key.round row.key.round && ((other.key.number == row.key.number) && (other.n == row.n)))

-- one answer alone of its entrant to the puzzle has its number
abbrev pub IsNumberedOnce : World → AnswerRow → Type 0
IsNumberedOnce world row = count_by (is_numbered_alike row) (values world.answers) ≤ 1

-- its entrant has no more answers to the puzzle than are allowed
abbrev pub IsOneOfFewAnswers : World → AnswerRow → Type 0
IsOneOfFewAnswers world row = answers_given world row.key.entrant row.key.round row.key.number ≤ most_answers

-- ---- of a protest
-- it is no open protest in a published round
abbrev pub IsRuledFirst : World → ProtestRow → Type 0
IsRuledFirst world row =
    (round : Round) → get world.rounds row.key.round ≡ Some round → IsTrue round.published → row.ruling ≢ None

-- its entrant has no more protests in the round than are allowed
abbrev pub IsOneOfFewProtests : World → ProtestRow → Type 0
IsOneOfFewProtests world row = protests_made world row.key.entrant row.key.round ≤ most_protests
