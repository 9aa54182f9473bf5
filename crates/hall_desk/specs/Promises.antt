-- What the hall promises to entrants and directors.
use Rattle.std.specs.Prelude.{◌≡◌, ◌≢◌, ◌↔◌, ◌⊎◌, ℕ, List, Option, Some, None, All}
use Rattle.std.specs.FinMap.{get}
use Rattle.hall_grid.specs.Board.{Board}
use Rattle.hall_grid.specs.Answer.{Verdict}
use Rattle.hall_policy.specs.World.{World, place_of, answer_of, protest_of}
use Rattle.hall_policy.specs.Actions.{number_of}
use Rattle.hall_policy.specs.Lists.{ArePeople}
use Rattle.hall_policy.specs.Ranges.{IsPerson, IsMoment, IsRequest}
use Rattle.hall_policy.specs.Rules.{StandsReleased}
use Rattle.hall_policy.specs.First.{Sentence}
use Rattle.hall_policy.specs.declared.record.AnswerRow.{AnswerRow}
use Rattle.hall_policy.specs.declared.record.Entry.{Entry}
use Rattle.hall_policy.specs.declared.record.Person.{Person}
use Rattle.hall_policy.specs.declared.record.ProtestRow.{ProtestRow}
use Rattle.hall_policy.specs.declared.record.PuzzleKey.{PuzzleKey}
use Rattle.hall_policy.specs.declared.record.PuzzleRow.{PuzzleRow}
use Rattle.hall_policy.specs.declared.record.PuzzleState.TheVariants as state
use Rattle.hall_policy.specs.declared.record.Round.{Round}
use Rattle.hall_policy.specs.declared.record.Ruling.{Ruling}
use Rattle.hall_policy.specs.declared.request.Action.{Action}
use Rattle.hall_policy.specs.declared.request.Action.TheVariants.{Submit, Protest, RuleProtest}
use Rattle.hall_policy.specs.declared.request.Request.{Request}
use Rattle.hall_policy.specs.declared.rule.Rule as rule
use Rattle.hall_policy.specs.declared.rule.Rule.TheVariants.{UnknownKey, NoRole, Missing, OwnPuzzle, Involved}
use Rattle.hall_store.specs.Caller.{caller_of}
use Rattle.hall_store.specs.Maps.{empty_world}
use Rattle.hall_desk.specs.Lookups.{IsReleasedRound}
use Rattle.hall_desk.specs.Judged.{IsVerdictOn, NamesNoRule}
use Rattle.hall_desk.specs.Sane.{Sane, SolvesPuzzle}
use Rattle.hall_desk.specs.Shown.{told_verdict}
use Rattle.hall_desk.specs.Step.{Step, Seed}
use Rattle.hall_desk.specs.Run.{IsTimed, Run}
use Rattle.hall_desk.specs.History.{Event, History, IsTyped}
use Rattle.hall_desk.specs.declared.reply.Reply.{Reply}
use Rattle.hall_desk.specs.declared.reply.Reply.TheVariants as reply

-- one filling breaks no rule of the puzzle, and no other does so
abbrev pub HasOneSolution : Board → Type 0
HasOneSolution puzzle =
    (solution : List ℕ) × SolvesPuzzle puzzle solution
    × ((other : List ℕ) → SolvesPuzzle puzzle other → other ≡ solution)

-- each puzzle of a released round is kept, and has exactly one solution
abbrev pub HasUniqueSolutions : World → Type 0
HasUniqueSolutions world =
    (id : List ℕ) (key : PuzzleKey) → StandsReleased world key id → (row : PuzzleRow)
    × (get world.puzzles key ≡ Some row) × HasOneSolution row.puzzle

-- an answer to a certified puzzle is right exactly where it is the text of the stored solution
abbrev pub RightAnswersAreSolutions : World → Type 0
RightAnswersAreSolutions world =
    (key : PuzzleKey) (row : PuzzleRow) (solution answer : List ℕ) (names : ℕ) → get world.puzzles key ≡ Some row →
    row.state ≡ state.One solution →
    Verdict row.puzzle answer names → NamesNoRule names ↔ (answer ≡ solution)

-- the verdict on an answer to a kept puzzle, told by its stored solution or by the judge, is that of the puzzle's rules
abbrev pub VerdictsAreJudged : World → Type 0
VerdictsAreJudged world =
    (key : PuzzleKey) (row : PuzzleRow) (answer : List ℕ) (verdict : ℕ) → get world.puzzles key ≡ Some row →
    IsVerdictOn row answer verdict → Verdict row.puzzle answer verdict

-- a sane world keeps the promises to directors and entrants; the empty world is one; and a list before any request,
-- each step, each run and each life of the hall, for people, moments and requests of their types, lead from sane worlds
-- to sane ones
pub record SanityKeepsPromises : Type 0 where
  pub opens : Sane empty_world
  pub seeds : (world new : World) (people : List Person) (given : Reply) → ArePeople people → All IsPerson people →
      Sane world → Seed world people given new → Sane new
  pub unique : (world : World) → Sane world → HasUniqueSolutions world
  pub right : (world : World) → Sane world → RightAnswersAreSolutions world
  pub judged : (world : World) → Sane world → VerdictsAreJudged world
  pub steps : (world new : World) (t : ℕ) (request : Request) (given : Reply) → IsMoment t → IsRequest request →
      Sane world → Step world t request given new → Sane new
  pub runs : (world last : World) (requests : List (ℕ × Request)) (replies : List Reply) → All IsTimed requests →
      Sane world → Run world requests replies last → Sane last
  pub lives : (world last : World) (events : List Event) → All IsTyped events → Sane world →
      History world events last → Sane last

-- the request is denied by this rule, whose sentence is true of it
abbrev pub IsDeniedBy : rule.Rule → World → Option Person → Action → ℕ → Reply → Type 0
IsDeniedBy forbidding world caller action t given =
    (given ≡ reply.Denied (number_of forbidding)) × Sentence forbidding world caller action t

-- what may deny an entrant's retry before the token's rule: no role of the caller allows it; what it names isn't there;
-- the round has a puzzle of the caller's own
abbrev pub IsDeniedEarlier : World → Option Person → Action → ℕ → Reply → Type 0
IsDeniedEarlier world caller action t given =
    IsDeniedBy NoRole world caller action t given
    ⊎ (IsDeniedBy Missing world caller action t given ⊎ IsDeniedBy OwnPuzzle world caller action t given)

-- the text is that of the answer that stands, and the reply is the one that this answer got
pub record IsToldAgain (world : World) (id : List ℕ) (row : AnswerRow) (answer : List ℕ) (given : Reply) : Type 0 where
  pub round : Round
  pub kept : get world.rounds id ≡ Some round
  pub same_answer : row.answer ≡ answer
  pub told : given ≡ reply.Submit row.n (told_verdict round row.verdict)

-- what an answer gets that comes under a token that stands, where no earlier rule denies it: no service; the denial of
-- the token's rule, which is for another text alone; or the first reply, which is for the same text alone
abbrev pub IsRetryAnswered : World → List ℕ → AnswerRow → List ℕ → Reply → Type 0
IsRetryAnswered world id row answer given =
    (given ≡ reply.Unavailable)
    ⊎ (((given ≡ reply.Denied 6) × (row.answer ≢ answer)) ⊎ IsToldAgain world id row answer given)

-- a token whose answer was accepted acts once: an answer that comes under a token that stands changes nothing, at
-- whatever moment it comes
abbrev pub TokensActOnce : Type 0
TokensActOnce =
    (world : World) (t : ℕ) (key : Option (List ℕ)) (person : Person) (id : List ℕ) (number : ℕ)
    (token answer : List ℕ) (row : AnswerRow) (given : Reply) (new : World) →
    let action : Action = Submit id number token answer in
    caller_of world key ≡ Some person → answer_of world person.name id number token ≡ Some row →
    Step world t (record { key = key; action = action }) given new →
    (new ≡ world)
    × (IsDeniedEarlier world (Some person) action t given ⊎ IsRetryAnswered world id row answer given)

-- in a sane world no earlier rule denies it
abbrev pub SaneTokensActOnce : Type 0
SaneTokensActOnce =
    (world : World) (t : ℕ) (key : Option (List ℕ)) (person : Person) (id : List ℕ) (number : ℕ)
    (token answer : List ℕ) (row : AnswerRow) (given : Reply) (new : World) → Sane world →
    caller_of world key ≡ Some person → answer_of world person.name id number token ≡ Some row →
    Step world t (record { key = key; action = Submit id number token answer }) given new →
    (new ≡ world) × IsRetryAnswered world id row answer given

-- the protest is about this number, with this text
abbrev pub IsSameProtest : ProtestRow → ℕ → List ℕ → Type 0
IsSameProtest row number text = (row.number ≡ number) × (row.text ≡ text)

-- what a protest gets that comes under a token that stands, where no earlier rule denies it: no service; the denial of
-- the token's rule, which is for another number or text alone; or the first reply, which is for the same alone
abbrev pub IsProtestRetryAnswered : ProtestRow → List ℕ → ℕ → List ℕ → Reply → Type 0
IsProtestRetryAnswered row token number text given =
    (given ≡ reply.Unavailable)
    ⊎ (((given ≡ reply.Denied 6) × ¬ (IsSameProtest row number text))
    ⊎ (IsSameProtest row number text × (given ≡ reply.Protest token)))

-- a token whose protest was stored acts once: a protest that comes under a token that stands changes nothing, at
-- whatever moment it comes
abbrev pub ProtestTokensActOnce : Type 0
ProtestTokensActOnce =
    (world : World) (t : ℕ) (key : Option (List ℕ)) (person : Person) (id token : List ℕ) (number : ℕ)
    (text : List ℕ) (row : ProtestRow) (given : Reply) (new : World) →
    let action : Action = Protest id token number text in
    caller_of world key ≡ Some person → protest_of world person.name id token ≡ Some row →
    Step world t (record { key = key; action = action }) given new →
    (new ≡ world)
    × (IsDeniedEarlier world (Some person) action t given ⊎ IsProtestRetryAnswered row token number text given)

-- in a sane world no earlier rule denies it but that on what isn't there, for a number that the round doesn't have
abbrev pub SaneProtestTokensActOnce : Type 0
SaneProtestTokensActOnce =
    (world : World) (t : ℕ) (key : Option (List ℕ)) (person : Person) (id token : List ℕ) (number : ℕ)
    (text : List ℕ) (row : ProtestRow) (given : Reply) (new : World) → Sane world →
    caller_of world key ≡ Some person → protest_of world person.name id token ≡ Some row →
    Step world t (record { key = key; action = Protest id token number text }) given new →
    (new ≡ world)
    × (((given ≡ reply.Denied 4) × (place_of world id number ≡ None))
    ⊎ IsProtestRetryAnswered row token number text given)

-- what may deny whoever rules a protest of a released round before the rule on rulings: the key is nobody's; the person
-- is no referee; the person has an answer in the round or made the protest
abbrev pub IsRulerDenied : World → Option Person → Action → ℕ → Reply → Type 0
IsRulerDenied world caller action t given =
    IsDeniedBy UnknownKey world caller action t given
    ⊎ (IsDeniedBy NoRole world caller action t given ⊎ IsDeniedBy Involved world caller action t given)

-- what a ruling gets of a protest that is ruled, where no rule on the ruler denies it: no service; the denial of the
-- rule on rulings, which is for another ruling alone; or the first reply, which is for the same ruling alone
abbrev pub IsRulingRetryAnswered : Ruling → Ruling → Reply → Type 0
IsRulingRetryAnswered ruled ruling given =
    (given ≡ reply.Unavailable)
    ⊎ (((given ≡ reply.Denied 18) × (ruled ≢ ruling)) ⊎ ((ruled ≡ ruling) × (given ≡ reply.RuleProtest ruled)))

-- a ruling acts once: a ruling of a protest that is ruled changes nothing, at whatever moment it comes
abbrev pub RulingsActOnce : Type 0
RulingsActOnce =
    (world : World) (t : ℕ) (key : Option (List ℕ)) (id entrant token : List ℕ) (ruling ruled : Ruling)
    (row : ProtestRow) (given : Reply) (new : World) →
    let action : Action = RuleProtest id entrant token ruling in
    protest_of world entrant id token ≡ Some row → row.ruling ≡ Some ruled →
    Step world t (record { key = key; action = action }) given new →
    (new ≡ world)
    × (((given ≡ reply.Denied 4) × ¬ (IsReleasedRound world id))
    ⊎ (IsRulerDenied world (caller_of world key) action t given ⊎ IsRulingRetryAnswered ruled ruling given))

-- the reply to the request of an accepted answer when it comes again, or comes with another text: no service; for
-- another text alone, the denial of the token's rule; for the same text alone, the first reply
abbrev pub IsRetryOf : List ℕ → List ℕ → Reply → Reply → Type 0
IsRetryOf answer again first given =
    (given ≡ reply.Unavailable) ⊎ (((again ≢ answer) × (given ≡ reply.Denied 6)) ⊎ ((again ≡ answer) × (given ≡ first)))

-- the answer is accepted by the request itself: none stood under its token, and its row has the moment, and the verdict
-- on its text
pub record IsAcceptedNow (world : World) (t : ℕ) (entrant id : List ℕ) (number : ℕ) (token : List ℕ) (row : AnswerRow)
    : Type 0 where
  pub fresh : answer_of world entrant id number token ≡ None
  pub moment : row.moment ≡ t
  pub verdict : (entry : Entry) × (puzzle : PuzzleRow) × (place_of world id number ≡ Some entry)
      × (get world.puzzles entry.puzzle ≡ Some puzzle) × IsVerdictOn puzzle row.answer row.verdict

-- the row of an accepted answer: it has the text and what is told, and is accepted by the request itself, or stood
-- before
pub record IsAcceptedRow (world : World) (t : ℕ) (entrant id : List ℕ) (number : ℕ) (token answer : List ℕ)
    (first : Reply) (row : AnswerRow) : Type 0 where
  pub told : IsToldAgain world id row answer first
  pub since : (answer_of world entrant id number token ≡ Some row)
      ⊎ IsAcceptedNow world t entrant id number token row

-- an accepted answer stays accepted: whatever happens between, its row stands as it was accepted, and at whatever
-- moment its token comes again, the world stays, and the retry is answered as one
abbrev pub AcceptedAnswersStay : Type 0
AcceptedAnswersStay =
    (world kept later : World) (t : ℕ) (key : Option (List ℕ)) (id : List ℕ) (number : ℕ)
    (token answer : List ℕ) (n : ℕ) (told : Option ℕ) (events : List Event) →
    let first : Reply = reply.Submit n told in
    Step world t (record { key = key; action = Submit id number token answer }) first kept →
    History kept events later →
    ((person : Person) × (row : AnswerRow) × (caller_of world key ≡ Some person)
    × IsAcceptedRow world t person.name id number token answer first row
    × (answer_of later person.name id number token ≡ Some row))
    × ((u : ℕ) (again : List ℕ) (given : Reply) (new : World) →
    Step later u (record { key = key; action = Submit id number token again }) given new →
    (new ≡ later) × IsRetryOf answer again first given)

-- an accepted answer's retry has its answer in every later world: the first reply for the same text, the denial of
-- the token's rule for another one, with the world as it is
abbrev pub RetriesAreAnswered : Type 0
RetriesAreAnswered =
    (world kept later : World) (t u : ℕ) (key : Option (List ℕ)) (id : List ℕ) (number : ℕ)
    (token answer again : List ℕ) (n : ℕ) (told : Option ℕ) (events : List Event) →
    Step world t (record { key = key; action = Submit id number token answer }) (reply.Submit n told) kept →
    History kept events later →
    (answer ≡ again →
    Step later u (record { key = key; action = Submit id number token again }) (reply.Submit n told) later)
    × (answer ≢ again →
    Step later u (record { key = key; action = Submit id number token again }) (reply.Denied 6) later)
