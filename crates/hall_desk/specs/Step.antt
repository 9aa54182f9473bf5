-- A step of the hall: one request, answered.
use Rattle.std.specs.Prelude.{◌≡◌, ◌≢◌, ◌+◌, ◌⊎◌, ℕ, Bool, true, false, not, List, Option, Some, None, map, count_by}
use Rattle.std.specs.List.{filter}
use Rattle.std.specs.FinMap.{get, contains_key, insert, values}
use Rattle.hall_grid.specs.Board.{Board}
use Rattle.hall_grid.specs.Answer.{AnswerText}
use Rattle.hall_grid.specs.Canonical.{CanonicalText}
use Rattle.hall_solve.specs.Puzzle.{OutcomeOfPuzzle}
use Rattle.hall_solve.specs.declared.outcome.Outcome.TheVariants as outcome
use Rattle.hall_policy.specs.World.{World, IsRoundAt, protest_of}
use Rattle.hall_policy.specs.Rules.{TheCaller, HasConflict, answers_given}
use Rattle.hall_policy.specs.First.{First}
use Rattle.hall_policy.specs.declared.record.Person.{Person}
use Rattle.hall_policy.specs.declared.record.PuzzleKey.{PuzzleKey}
use Rattle.hall_policy.specs.declared.record.PuzzleRow.{PuzzleRow}
use Rattle.hall_policy.specs.declared.record.PuzzleState.{PuzzleState}
use Rattle.hall_policy.specs.declared.record.PuzzleState.TheVariants as state
use Rattle.hall_policy.specs.declared.record.Round.{Round}
use Rattle.hall_policy.specs.declared.record.Entry.{Entry}
use Rattle.hall_policy.specs.declared.record.RoundRow.{RoundRow}
use Rattle.hall_policy.specs.declared.record.AnswerRow.{AnswerRow}
use Rattle.hall_policy.specs.declared.record.ProtestKey.{ProtestKey}
use Rattle.hall_policy.specs.declared.record.ProtestRow.{ProtestRow}
use Rattle.hall_policy.specs.declared.record.Ruling.{Ruling}
use Rattle.hall_policy.specs.declared.request.Sheet.{Sheet}
use Rattle.hall_policy.specs.declared.request.Action.{Action}
use Rattle.hall_policy.specs.declared.request.Action.TheVariants.{Import, PutPuzzle, ReadPuzzle, ListPuzzles, Certify}
use Rattle.hall_policy.specs.declared.request.Action.TheVariants.{PutRound, Release, ListRounds, ReadRound}
use Rattle.hall_policy.specs.declared.request.Action.TheVariants.{Submit, Answers, Solutions, Protest, Protests}
use Rattle.hall_policy.specs.declared.request.Action.TheVariants.{RuleProtest, Publish, Table}
use Rattle.hall_policy.specs.declared.request.Request.{Request}
use Rattle.hall_policy.specs.declared.rule.Decision.{Decision}
use Rattle.hall_policy.specs.declared.rule.Decision.TheVariants.{Allow, Repeat, Deny}
use Rattle.hall_store.specs.Caller.{caller_of}
use Rattle.hall_store.specs.Change.{with_people, relisted, retested}
use Rattle.hall_store.specs.Store.{IsListing}
use Rattle.hall_desk.specs.Totals.{IsTableAt}
use Rattle.hall_desk.specs.Judged.{IsVerdictOn}
use Rattle.hall_desk.specs.Shown.{state_name, sees_puzzle, puzzle_line, sees_round, round_line, ShowsRound}
use Rattle.hall_desk.specs.Shown.{sees_answer, shows_verdict, answer_line, told_verdict, AreSolutions}
use Rattle.hall_desk.specs.Shown.{sees_protest, protest_line}
use Rattle.hall_desk.specs.declared.reply.ShownRound.{ShownRound}
use Rattle.hall_desk.specs.declared.reply.Reply.{Reply}
use Rattle.hall_desk.specs.declared.reply.Reply.TheVariants as reply

-- how many people of the list have a name that is unknown
abbrev pub unknown_people : World → List Person → ℕ
unknown_people world people = count_by (λ person. not (contains_key world.people person.name)) people

-- the people whose names are unknown are added, and counted
abbrev pub IsImportStep : World → List Person → Reply → World → Type 0
IsImportStep world people given new =
    (given ≡ reply.Import (unknown_people world people))
    × (new ≡ record world { people = with_people world.people people })

-- a puzzle as it is first stored: new, without a solution
abbrev pub new_row : PuzzleKey → Board → PuzzleRow
new_row key puzzle = record { key = key; puzzle = puzzle; state = state.New }

-- the same puzzle stands under the key already: nothing changes
abbrev pub StandsAlready : World → PuzzleKey → Board → List ℕ → Reply → World → Type 0
StandsAlready world key puzzle text given new =
    (row : PuzzleRow) × (get world.puzzles key ≡ Some row) × (row.puzzle ≡ puzzle)
    × (given ≡ reply.PutPuzzle (state_name row.state) text) × (new ≡ world)

-- no puzzle stands under the key, or another one: this one is stored
abbrev pub IsPutAnew : World → PuzzleKey → Board → List ℕ → Reply → World → Type 0
IsPutAnew world key puzzle text given new =
    ((row : PuzzleRow) → get world.puzzles key ≡ Some row → row.puzzle ≢ puzzle)
    × (given ≡ reply.PutPuzzle (state_name state.New) text)
    × (new ≡ record world { puzzles = insert world.puzzles key (new_row key puzzle) })

-- the puzzle stands already, or is stored; the reply tells its state, and its text as the writer writes it
abbrev pub IsPutPuzzleStep : World → PuzzleKey → Board → Reply → World → Type 0
IsPutPuzzleStep world key puzzle given new =
    (text : List ℕ) × CanonicalText text puzzle
    × (StandsAlready world key puzzle text given new ⊎ IsPutAnew world key puzzle text given new)

-- the puzzle is read: its state, and its text as the writer writes it
abbrev pub IsReadPuzzleStep : World → PuzzleKey → Reply → Type 0
IsReadPuzzleStep world key given =
    (row : PuzzleRow) × (text : List ℕ) × (get world.puzzles key ≡ Some row) × CanonicalText text row.puzzle
    × (given ≡ reply.ReadPuzzle key (state_name row.state) text)

-- the reply lists all puzzles that the caller sees, by author, then label, and no other
abbrev pub IsListPuzzlesStep : World → Person → Reply → Type 0
IsListPuzzlesStep world person given =
    given ≡ reply.ListPuzzles (map puzzle_line (filter (sees_puzzle person) (values world.puzzles)))

-- whether the puzzle was never searched, or the search came to no end
abbrev pub is_open : PuzzleState → Bool
is_open state.New = true
is_open (state.One solution) = false
is_open state.NoSolution = false
is_open state.More = false
is_open state.GaveUp = true

-- what a search of the puzzle within the budget may find, as a state
abbrev pub IsFound : Board → ℕ → PuzzleState → Type 0
IsFound puzzle budget state.New = ⊥
IsFound puzzle budget (state.One text) =
    (solution : List ℕ) × OutcomeOfPuzzle puzzle budget (outcome.One solution) × AnswerText puzzle text solution
IsFound puzzle budget state.NoSolution = OutcomeOfPuzzle puzzle budget outcome.None
IsFound puzzle budget state.More = (a b : List ℕ) × OutcomeOfPuzzle puzzle budget (outcome.More a b)
IsFound puzzle budget state.GaveUp = OutcomeOfPuzzle puzzle budget outcome.GaveUp

-- the puzzle is searched, and what is found becomes its state
pub record IsSearched (world : World) (key : PuzzleKey) (row : PuzzleRow) (budget : ℕ) (found : PuzzleState)
    (given : Reply) (new : World) : Type 0 where
  pub unsettled : is_open row.state ≡ true
  pub is_found : IsFound row.puzzle budget found
  pub told : given ≡ reply.Certify (state_name found)
  pub stored : new ≡ record world { puzzles = insert world.puzzles key (record row { state = found }) }

-- a search of the puzzle came to an end before: nothing changes
pub record IsSearchEnded (world : World) (row : PuzzleRow) (given : Reply) (new : World) : Type 0 where
  pub settled : is_open row.state ≡ false
  pub told : given ≡ reply.Certify (state_name row.state)
  pub same : new ≡ world

-- the puzzle's state is told; the puzzle is searched before where no search came to an end yet
abbrev pub IsCertifyStep : World → PuzzleKey → ℕ → PuzzleState → Reply → World → Type 0
IsCertifyStep world key budget found given new =
    (row : PuzzleRow) × (get world.puzzles key ≡ Some row)
    × (IsSearched world key row budget found given new ⊎ IsSearchEnded world row given new)

-- the draft that the sheet describes
abbrev pub draft_of : List ℕ → Sheet → Round
draft_of id sheet = record {
  id = id;
  title = sheet.title;
  start = sheet.start;
  minutes = sheet.minutes;
  protest_minutes = sheet.protest_minutes;
  mode = sheet.mode;
  penalty = sheet.penalty;
  bonus = sheet.bonus;
  released = false;
  published = false;
}

-- the draft of the sheet stands under the id, with the sheet's puzzles as its list and the sheet's testers as its own;
-- what stood there before is gone
abbrev pub IsPutRoundStep : World → List ℕ → Sheet → Reply → World → Type 0
IsPutRoundStep world id sheet given new =
    (given ≡ reply.PutRound id) × (new ≡ record world {
      rounds = insert world.rounds id (draft_of id sheet);
      places = relisted world.places id sheet.puzzles;
      testers = retested world.testers id sheet.testers;
    })

-- the reply lists all rounds that the caller sees, by id, and no other
abbrev pub IsListRoundsStep : World → Person → Reply → Type 0
IsListRoundsStep world person given =
    given ≡ reply.ListRounds (map round_line (filter (sees_round person) (values world.rounds)))

-- the draft is released
abbrev pub IsReleaseStep : World → List ℕ → Reply → World → Type 0
IsReleaseStep world id given new =
    (round : Round) × (get world.rounds id ≡ Some round) × (given ≡ reply.Release id)
    × (new ≡ record world { rounds = insert world.rounds id (record round { released = true }) })

-- the round is read, with its puzzles' texts
abbrev pub IsReadRoundStep : World → List ℕ → Reply → Type 0
IsReadRoundStep world id given =
    (row : RoundRow) × (shown : ShownRound) × IsRoundAt world id row × ShowsRound world row shown
    × (given ≡ reply.ReadRound shown)

-- the answer's row: numbered after those of its entrant to the puzzle in the round
abbrev pub answer_row : World → Person → List ℕ → ℕ → List ℕ → List ℕ → ℕ → ℕ → AnswerRow
answer_row world person round number token answer t verdict = record {
  key = record { entrant = person.name; round = round; number = number; token = token };
  n = answers_given world person.name round number + 1;
  moment = t;
  answer = answer;
  verdict = verdict;
}

-- the answer has its verdict by the round's puzzle of that number, and is stored; the reply tells its number and, in an
-- instant round, its verdict
abbrev pub IsSubmitStep : World → Person → List ℕ → ℕ → List ℕ → List ℕ → ℕ → Reply → World → Type 0
IsSubmitStep world person id number token answer t given new =
    (round : Round) × (entry : Entry) × (puzzle : PuzzleRow) × (verdict : ℕ)
    × (get world.rounds id ≡ Some round) × (get world.places (record { round = id; number = number }) ≡ Some entry)
    × (get world.puzzles entry.puzzle ≡ Some puzzle)
    × IsVerdictOn puzzle answer verdict
    × (let row : AnswerRow = answer_row world person id number token answer t verdict in
    (given ≡ reply.Submit row.n (told_verdict round verdict))
    × (new ≡ record world { answers = insert world.answers row.key row }))

-- the reply lists all answers that the caller sees, in order, and no other
abbrev pub IsAnswersStep : World → Person → List ℕ → ℕ → Reply → Type 0
IsAnswersStep world person id t given =
    (round : Round) × (rows : List AnswerRow) × (get world.rounds id ≡ Some round)
    × IsListing world (sees_answer person round id t) rows
    × (given ≡ reply.Answers (map (answer_line (shows_verdict person round t)) rows))

-- the solutions of the round's puzzles are told, in the list's order
abbrev pub IsSolutionsStep : World → List ℕ → Reply → Type 0
IsSolutionsStep world id given =
    (row : RoundRow) × (texts : List (List ℕ)) × IsRoundAt world id row × AreSolutions world row.puzzles texts
    × (given ≡ reply.Solutions texts)

-- a protest as it is first stored: open
abbrev pub open_protest : Person → List ℕ → List ℕ → ℕ → List ℕ → ProtestRow
open_protest person round token number text = record {
  key = record { entrant = person.name; round = round; token = token };
  number = number;
  text = text;
  ruling = None;
}

-- the protest is stored as open
abbrev pub IsProtestStep : World → Person → List ℕ → List ℕ → ℕ → List ℕ → Reply → World → Type 0
IsProtestStep world person round token number text given new =
    let row : ProtestRow = open_protest person round token number text in
    (given ≡ reply.Protest token) × (new ≡ record world { protests = insert world.protests row.key row })

-- the reply lists all protests that the caller sees, by entrant, then token, and no other
abbrev pub IsProtestsStep : World → Person → List ℕ → Reply → Type 0
IsProtestsStep world person id given =
    given ≡ reply.Protests (map protest_line (filter (sees_protest person id) (values world.protests)))

-- the protest is ruled, and the ruling is told
abbrev pub IsRuleProtestStep : World → List ℕ → List ℕ → List ℕ → Ruling → Reply → World → Type 0
IsRuleProtestStep world round entrant token ruling given new =
    (row : ProtestRow) × (protest_of world entrant round token ≡ Some row) × (given ≡ reply.RuleProtest ruling)
    × (let key : ProtestKey = record { entrant = entrant; round = round; token = token } in
    new ≡ record world { protests = insert world.protests key (record row { ruling = Some ruling }) })

-- the round is published
abbrev pub IsPublishStep : World → List ℕ → Reply → World → Type 0
IsPublishStep world id given new =
    (round : Round) × (get world.rounds id ≡ Some round) × (given ≡ reply.Publish id)
    × (new ≡ record world { rounds = insert world.rounds id (record round { published = true }) })

-- the reply is the table of the entrants with an answer in the round, by their totals
abbrev pub IsTableStep : World → List ℕ → Reply → Type 0
IsTableStep world id given = (text : List ℕ) × IsTableAt world id text × (given ≡ reply.Table text)

-- what an allowed action answers and changes; `found` is what the search would find if the action ran it
abbrev pub Allowed : World → Option Person → Action → ℕ → PuzzleState → Reply → World → Type 0
Allowed world caller (PutPuzzle key puzzle) t found given new =
    IsPutPuzzleStep world key puzzle given new
Allowed world caller (Certify key budget) t found given new = IsCertifyStep world key budget found given new
Allowed world caller (Release id) t found given new = IsReleaseStep world id given new
Allowed world caller (ReadRound id) t found given new = IsReadRoundStep world id given × (new ≡ world)
Allowed world caller (Submit id number token answer) t found given new =
    TheCaller caller (λ person. IsSubmitStep world person id number token answer t given new)
Allowed world caller (Answers id) t found given new =
    TheCaller caller (λ person. IsAnswersStep world person id t given × (new ≡ world))
Allowed world caller (Import people) t found given new = IsImportStep world people given new
Allowed world caller (ReadPuzzle key) t found given new = IsReadPuzzleStep world key given × (new ≡ world)
Allowed world caller ListPuzzles t found given new =
    TheCaller caller (λ person. IsListPuzzlesStep world person given × (new ≡ world))
Allowed world caller (PutRound id sheet) t found given new = IsPutRoundStep world id sheet given new
Allowed world caller ListRounds t found given new =
    TheCaller caller (λ person. IsListRoundsStep world person given × (new ≡ world))
Allowed world caller (Solutions id) t found given new = IsSolutionsStep world id given × (new ≡ world)
Allowed world caller (Protest id token number text) t found given new =
    TheCaller caller (λ person. IsProtestStep world person id token number text given new)
Allowed world caller (Protests id) t found given new =
    TheCaller caller (λ person. IsProtestsStep world person id given × (new ≡ world))
Allowed world caller (RuleProtest id entrant token ruling) t found given new =
    IsRuleProtestStep world id entrant token ruling given new
Allowed world caller (Publish id) t found given new = IsPublishStep world id given new
Allowed world caller (Table id) t found given new = IsTableStep world id given × (new ≡ world)

-- the first reply, from the row that stands
abbrev pub FirstReply : World → Option Person → Action → Reply → Type 0
FirstReply world caller (Submit id number token answer) given =
    TheCaller caller (λ person. (round : Round) × (row : AnswerRow) × (get world.rounds id ≡ Some round)
    × (get world.answers (record { entrant = person.name; round = id; number = number; token = token }) ≡ Some row)
    × (given ≡ reply.Submit row.n (told_verdict round row.verdict)))
FirstReply world caller (Protest id token number text) given =
    TheCaller caller (λ person. (row : ProtestRow) × (protest_of world person.name id token ≡ Some row)
    × (given ≡ reply.Protest token))
FirstReply world caller (RuleProtest id entrant token ruling) given =
    (row : ProtestRow) × (ruled : Ruling) × (protest_of world entrant id token ≡ Some row) × (row.ruling ≡ Some ruled)
    × (given ≡ reply.RuleProtest ruled)
FirstReply world caller (Import people) given = ⊥
FirstReply world caller (PutPuzzle key puzzle) given = ⊥
FirstReply world caller (ReadPuzzle key) given = ⊥
FirstReply world caller ListPuzzles given = ⊥
FirstReply world caller (Certify key budget) given = ⊥
FirstReply world caller (PutRound id sheet) given = ⊥
FirstReply world caller (Release id) given = ⊥
FirstReply world caller ListRounds given = ⊥
FirstReply world caller (ReadRound id) given = ⊥
FirstReply world caller (Answers id) given = ⊥
FirstReply world caller (Solutions id) given = ⊥
FirstReply world caller (Protests id) given = ⊥
FirstReply world caller (Publish id) given = ⊥
FirstReply world caller (Table id) given = ⊥

-- what each decision answers and changes: a denial and a repetition leave the world
abbrev pub Decided : Decision → World → Option Person → Action → ℕ → PuzzleState → Reply → World → Type 0
Decided (Deny k) world caller action t found given new = (given ≡ reply.Denied k) × (new ≡ world)
Decided Repeat world caller action t found given new = FirstReply world caller action given × (new ≡ world)
Decided Allow world caller action t found given new = Allowed world caller action t found given new

-- a request at its moment, and what the search would find if the request ran it
pub record Asked : Type 0 where
  pub moment : ℕ
  pub request : Request
  pub found : PuzzleState

-- the request is answered as it is decided
abbrev pub IsAnswered : World → Asked → Reply → World → Type 0
IsAnswered world asked given new =
    (decision : Decision) × First world (caller_of world asked.request.key) asked.request.action asked.moment decision
    × Decided decision world (caller_of world asked.request.key) asked.request.action asked.moment asked.found given new

-- a step of the hall: the request is answered as it is decided, or it is Unavailable, leaves the world and counts as
-- not made
abbrev pub Step : World → ℕ → Request → Reply → World → Type 0
Step world t request given new =
    ((given ≡ reply.Unavailable) × (new ≡ world))
    ⊎ ((found : PuzzleState) × IsAnswered world (record { moment = t; request = request; found = found }) given new)

-- people stand before any request: their list is refused by the rule on lists alone, or they are imported, or it is
-- Unavailable and leaves the world
abbrev pub Seed : World → List Person → Reply → World → Type 0
Seed world people given new =
    ((given ≡ reply.Unavailable) × (new ≡ world))
    ⊎ ((HasConflict world (Import people) × (given ≡ reply.Denied 20) × (new ≡ world))
    ⊎ (¬ (HasConflict world (Import people)) × IsImportStep world people given new))
