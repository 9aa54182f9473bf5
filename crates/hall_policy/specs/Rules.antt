-- The twenty rules of the policy, each a sentence over whole maps.
use Rattle.std.specs.Prelude.{◌≡◌, ◌≢◌, ◌==◌, ◌≤◌, ◌<◌, ◌&&◌, ◌||◌, ◌⊎◌, ℕ, Bool, false, List, Option}
use Rattle.std.specs.Prelude.{Some, None, IsTrue, Contains, count_by}
use Rattle.std.specs.FinMap.{get, values}
use Rattle.hall_policy.specs.Limits.{most_answers, most_protests, most_puzzles}
use Rattle.hall_policy.specs.World.{World, place_of, IsTesterOf, answer_of, protest_of, end_of, close_of, same_text}
use Rattle.hall_policy.specs.Actions.{may, puzzle_named, round_named, finds_drafts}
use Rattle.hall_policy.specs.declared.record.Person.{Person}
use Rattle.hall_policy.specs.declared.record.PuzzleKey.{PuzzleKey}
use Rattle.hall_policy.specs.declared.record.PuzzleRow.{PuzzleRow}
use Rattle.hall_policy.specs.declared.record.PuzzleState.TheVariants.{One}
use Rattle.hall_policy.specs.declared.record.Round.{Round}
use Rattle.hall_policy.specs.declared.record.Entry.{Entry}
use Rattle.hall_policy.specs.declared.record.AnswerRow.{AnswerRow}
use Rattle.hall_policy.specs.declared.record.ProtestKey.{ProtestKey}
use Rattle.hall_policy.specs.declared.record.ProtestRow.{ProtestRow}
use Rattle.hall_policy.specs.declared.request.Sheet.{Sheet}
use Rattle.hall_policy.specs.declared.request.Action.{Action}
use Rattle.hall_policy.specs.declared.request.Action.TheVariants.{Import, PutPuzzle, ReadPuzzle, ListPuzzles, Certify}
use Rattle.hall_policy.specs.declared.request.Action.TheVariants.{PutRound, Release, ListRounds, ReadRound, Submit}
use Rattle.hall_policy.specs.declared.request.Action.TheVariants.{Answers, Solutions, Protest, Protests}
use Rattle.hall_policy.specs.declared.request.Action.TheVariants.{RuleProtest, Publish, Table}

-- the caller is a person of the hall, and has P
abbrev pub TheCaller : Option Person → (Person → Type 0) → Type 0
TheCaller caller P = (person : Person) × (caller ≡ Some person) × P person

-- whether the caller is a director
abbrev pub is_director : Option Person → Bool
is_director None = false
is_director (Some person) = person.roles.director

-- the round that the action names is kept, and has P
abbrev pub TheRound : World → Action → (Round → Type 0) → Type 0
TheRound world action P =
    (id : List ℕ) × (round : Round) × (round_named action ≡ Some id) × (get world.rounds id ≡ Some round) × P round

-- the round has this entry at some number
abbrev pub ListsEntry : World → List ℕ → Entry → Type 0
ListsEntry world round entry = (number : ℕ) × (place_of world round number ≡ Some entry)

-- the puzzle stands in that round, which is released
abbrev pub StandsReleased : World → PuzzleKey → List ℕ → Type 0
StandsReleased world key id =
    (round : Round) × (entry : Entry) × (get world.rounds id ≡ Some round) × IsTrue round.released
    × ListsEntry world id entry × (entry.puzzle ≡ key)

-- the puzzle is kept in the state one
abbrev pub IsCertified : World → PuzzleKey → Type 0
IsCertified world key =
    (row : PuzzleRow) × (solution : List ℕ) × (get world.puzzles key ≡ Some row) × (row.state ≡ One solution)

-- 1. The key is unknown.
abbrev pub KeyIsUnknown : Option Person → Type 0
KeyIsUnknown caller = caller ≡ None

-- 2. No role of the caller allows the action.
abbrev pub LacksRole : Option Person → Action → Type 0
LacksRole caller action = TheCaller caller (λ person. may person.roles action ≡ false)

-- 3. A caller who is no director names an author other than the caller; judged by the name alone.
abbrev pub NamesOtherAuthor : Option Person → Action → Type 0
NamesOtherAuthor caller action =
    TheCaller caller (λ person. (person.roles.director ≡ false) × (key : PuzzleKey)
    × (puzzle_named action ≡ Some key) × (key.author ≢ person.name))

-- the round isn't there; a draft is there only for a director's PutRound, Release, ListRounds and ReadRound
abbrev pub RoundIsMissing : World → Option Person → Action → List ℕ → Type 0
RoundIsMissing world caller action id =
    (round : Round) → get world.rounds id ≡ Some round → (round.released ≡ false)
    × ((is_director caller && finds_drafts action) ≡ false)

-- whether a person is there who may test: with the role entrant or referee
abbrev pub may_test : Option Person → Bool
may_test None = false
may_test (Some person) = person.roles.entrant || person.roles.referee

-- one of the puzzles isn't kept
abbrev pub LacksPuzzle : World → List Entry → Type 0
LacksPuzzle world entries =
    (entry : Entry) × Contains entries entry × (get world.puzzles entry.puzzle ≡ None)

-- one of the names is of nobody who may test
abbrev pub LacksTester : World → List (List ℕ) → Type 0
LacksTester world names =
    (name : List ℕ) × Contains names name × (may_test (get world.people name) ≡ false)

-- what the sheet names isn't there: a puzzle, or a tester
abbrev pub SheetLacks : World → Sheet → Type 0
SheetLacks world sheet = LacksPuzzle world sheet.puzzles ⊎ LacksTester world sheet.testers

-- 4. The object isn't there: the puzzle; the round; the puzzle's number in the round; the protest. PutPuzzle
-- asks only for a person of the author's name with the role author, PutRound only for each puzzle of the sheet,
-- and for each of its testers as a person with the role entrant or referee.
abbrev pub IsMissing : World → Option Person → Action → Type 0
IsMissing world caller (PutPuzzle key puzzle) =
    (person : Person) → get world.people key.author ≡ Some person → person.roles.author ≡ false
IsMissing world caller (ReadPuzzle key) = get world.puzzles key ≡ None
IsMissing world caller (Certify key budget) = get world.puzzles key ≡ None
IsMissing world caller (PutRound round sheet) = SheetLacks world sheet
IsMissing world caller (Release round) = RoundIsMissing world caller (Release round) round
IsMissing world caller (ReadRound round) = RoundIsMissing world caller (ReadRound round) round
IsMissing world caller (Submit round number token answer) =
    RoundIsMissing world caller (Submit round number token answer) round ⊎ (place_of world round number ≡ None)
IsMissing world caller (Answers round) = RoundIsMissing world caller (Answers round) round
IsMissing world caller (Solutions round) = RoundIsMissing world caller (Solutions round) round
IsMissing world caller (Protest round token number text) =
    RoundIsMissing world caller (Protest round token number text) round ⊎ (place_of world round number ≡ None)
IsMissing world caller (Protests round) = RoundIsMissing world caller (Protests round) round
IsMissing world caller (RuleProtest round entrant token ruling) =
    RoundIsMissing world caller (RuleProtest round entrant token ruling) round
    ⊎ (protest_of world entrant round token ≡ None)
IsMissing world caller (Publish round) = RoundIsMissing world caller (Publish round) round
IsMissing world caller (Table round) = RoundIsMissing world caller (Table round) round
IsMissing world caller (Import people) = ⊥
IsMissing world caller ListPuzzles = ⊥
IsMissing world caller ListRounds = ⊥

-- the round that is named has a puzzle by the author
abbrev pub ListsAuthor : World → Option (List ℕ) → List ℕ → Type 0
ListsAuthor world named author =
    (id : List ℕ) × (round : Round) × (entry : Entry) × (named ≡ Some id) × (get world.rounds id ≡ Some round)
    × ListsEntry world id entry × (entry.puzzle.author ≡ author)

-- the person of that name is a tester of the round that is named
abbrev pub ListsTester : World → Option (List ℕ) → List ℕ → Type 0
ListsTester world named name =
    (id : List ℕ) × (round : Round) × (named ≡ Some id) × (get world.rounds id ≡ Some round) × IsTesterOf world id name

-- the caller is a tester of the round, and reads it
abbrev pub ReadsAsTester : World → Option Person → Action → Type 0
ReadsAsTester world caller (ReadRound round) = TheCaller caller (λ person. ListsTester world (Some round) person.name)
ReadsAsTester world caller _ = ⊥

-- the person of that name has a hand in the round that is named: as author of a puzzle, or as tester
abbrev pub HasHandIn : World → Option (List ℕ) → List ℕ → Type 0
HasHandIn world named name = ListsAuthor world named name ⊎ ListsTester world named name

-- 5. The caller is an entrant, and author of a puzzle of the round or its tester.
-- Not asked of a tester who reads the round.
abbrev pub IsOwnPuzzle : World → Option Person → Action → Type 0
IsOwnPuzzle world caller action =
    ¬ (ReadsAsTester world caller action)
    × TheCaller caller (λ person. IsTrue person.roles.entrant × HasHandIn world (round_named action) person.name)

-- 6. The token of the caller stands; it belongs to the round and, for answers, to the puzzle's number.
abbrev pub TokenStands : World → Option Person → Action → Type 0
TokenStands world caller (Submit round number token answer) =
    TheCaller caller (λ person. (row : AnswerRow) × (answer_of world person.name round number token ≡ Some row))
TokenStands world caller (Protest round token number text) =
    TheCaller caller (λ person. (row : ProtestRow) × (protest_of world person.name round token ≡ Some row))
TokenStands world caller _ = ⊥

-- 6. The token of the caller stands with the same content: the answer's text, or the protest's number and text.
abbrev pub SameContent : World → Option Person → Action → Type 0
SameContent world caller (Submit round number token answer) =
    TheCaller caller (λ person. (row : AnswerRow) × (answer_of world person.name round number token ≡ Some row)
    × (row.answer ≡ answer))
SameContent world caller (Protest round token number text) =
    TheCaller caller (λ person. (row : ProtestRow) × (protest_of world person.name round token ≡ Some row)
    × (row.number ≡ number) × (row.text ≡ text))
SameContent world caller _ = ⊥

-- 7. Before the start of the round that is named. Not asked of a director, nor of a tester who reads the round.
abbrev pub IsBeforeStart : World → Option Person → Action → ℕ → Type 0
IsBeforeStart world caller action t =
    (is_director caller ≡ false) × ¬ (ReadsAsTester world caller action)
    × TheRound world action (λ round. t < round.start)

-- 8. At or after the end.
abbrev pub IsAfterEnd : World → Action → ℕ → Type 0
IsAfterEnd world action t = TheRound world action (λ round. end_of round ≤ t)

-- 9. Before the end; for Publish, before the close.
abbrev pub IsBeforeEnd : World → Action → ℕ → Type 0
IsBeforeEnd world (Publish id) t = TheRound world (Publish id) (λ round. t < close_of round)
IsBeforeEnd world action t = TheRound world action (λ round. t < end_of round)

-- 10. At or after the close.
abbrev pub IsAfterClose : World → Action → ℕ → Type 0
IsAfterClose world action t = TheRound world action (λ round. close_of round ≤ t)

-- 14. At or after the start.
abbrev pub IsAfterStart : World → Action → ℕ → Type 0
IsAfterStart world action t = TheRound world action (λ round. round.start ≤ t)

-- 11. The puzzle stands in a released round; for Release, a puzzle of the round stands in another released round.
abbrev pub IsInReleasedRound : World → Action → Type 0
IsInReleasedRound world (Release id) =
    (entry : Entry) × (other : List ℕ) × ListsEntry world id entry × (other ≢ id)
    × StandsReleased world entry.puzzle other
IsInReleasedRound world (PutPuzzle key puzzle) = (id : List ℕ) × StandsReleased world key id
IsInReleasedRound world _ = ⊥

-- 12. A puzzle of the round isn't in state one; one that isn't kept has none.
abbrev pub IsUncertified : World → Action → Type 0
IsUncertified world action =
    (id : List ℕ) × (entry : Entry) × (round_named action ≡ Some id) × ListsEntry world id entry
    × ¬ (IsCertified world entry.puzzle)

-- 13. The round is there and is no draft.
abbrev pub IsNoDraft : World → Action → Type 0
IsNoDraft world action = TheRound world action (λ round. IsTrue round.released)

-- 15. Published already; for Table, not published yet.
abbrev pub IsPublished : World → Action → Type 0
IsPublished world (Table id) = TheRound world (Table id) (λ round. round.published ≡ false)
IsPublished world action = TheRound world action (λ round. IsTrue round.published)

-- 16. A protest of the round is open.
abbrev pub HasOpenProtest : World → Action → Type 0
HasOpenProtest world action =
    (id : List ℕ) × (key : ProtestKey) × (row : ProtestRow) × (round_named action ≡ Some id) × (key.round ≡ id)
    × (get world.protests key ≡ Some row) × (row.ruling ≡ None)

-- 17. The caller has an answer in that round or made the protest.
abbrev pub IsInvolved : World → Option Person → Action → Type 0
IsInvolved world caller (RuleProtest round entrant token ruling) = TheCaller caller (λ person.
    ((number : ℕ) × (used : List ℕ) × (row : AnswerRow) × (answer_of world person.name round number used ≡ Some row))
    ⊎ (entrant ≡ person.name))
IsInvolved world caller _ = ⊥

-- 18. The protest is ruled.
abbrev pub IsRuled : World → Action → Type 0
IsRuled world (RuleProtest round entrant token ruling) =
    (row : ProtestRow) × (protest_of world entrant round token ≡ Some row) × (row.ruling ≢ None)
IsRuled world _ = ⊥

-- 18. The protest is ruled the same way: upheld with the same points, or rejected.
abbrev pub SameRuling : World → Action → Type 0
SameRuling world (RuleProtest round entrant token ruling) =
    (row : ProtestRow) × (protest_of world entrant round token ≡ Some row) × (row.ruling ≡ Some ruling)
SameRuling world _ = ⊥

-- how many answers of the entrant to the round's puzzle are kept
abbrev pub answers_given : World → List ℕ → List ℕ → ℕ → ℕ
answers_given world entrant round number =
    count_by
    (λ row. same_text row.key.entrant entrant && (same_text row.key.round round && (row.key.number == number)))
    (values world.answers)

-- how many protests of the entrant in the round are kept
abbrev pub protests_made : World → List ℕ → List ℕ → ℕ
protests_made world entrant round =
    count_by (λ row. same_text row.key.entrant entrant && same_text row.key.round round) (values world.protests)

-- how many puzzles of the author are kept
abbrev pub puzzles_put : World → List ℕ → ℕ
puzzles_put world author = count_by (λ row. same_text row.key.author author) (values world.puzzles)

-- 19. As many as are allowed stand there: answers of the caller to the puzzle in the round; protests of the caller in
-- the round; puzzles of the named author, where the label is new.
abbrev pub IsAtLimit : World → Option Person → Action → Type 0
IsAtLimit world caller (Submit round number token answer) =
    TheCaller caller (λ person. most_answers ≤ answers_given world person.name round number)
IsAtLimit world caller (Protest round token number text) =
    TheCaller caller (λ person. most_protests ≤ protests_made world person.name round)
IsAtLimit world caller (PutPuzzle key puzzle) =
    (get world.puzzles key ≡ None) × (most_puzzles ≤ puzzles_put world key.author)
IsAtLimit world caller _ = ⊥

-- a person of the list has a known name with another key or other roles, or the key of another person, or is
-- director and entrant
abbrev pub Conflicts : World → Person → Type 0
Conflicts world person =
    ((known : Person) × (get world.people person.name ≡ Some known)
    × ((known.key ≢ person.key) ⊎ (known.roles ≢ person.roles)))
    ⊎ (((other : List ℕ) × (known : Person) × (get world.people other ≡ Some known) × (other ≢ person.name)
    × (known.key ≡ person.key))
    ⊎ (IsTrue person.roles.director × IsTrue person.roles.entrant))

-- 20. The list gives a known name another key or other roles, or gives a key of another person, or joins
-- director and entrant.
abbrev pub HasConflict : World → Action → Type 0
HasConflict world (Import people) = (person : Person) × Contains people person × Conflicts world person
HasConflict world _ = ⊥
