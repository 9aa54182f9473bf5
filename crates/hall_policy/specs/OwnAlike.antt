-- Who is an entrant alone, and in which worlds a person's own answers and protests are alike.
use Rattle.std.specs.Prelude.{◌≡◌, ◌&&◌, ◌||◌, not, ℕ, Bool, List, if◌then◌else◌}
use Rattle.std.specs.Option.{option_map}
use Rattle.std.specs.FinMap.{get}
use Rattle.hall_policy.specs.World.{World}
use Rattle.hall_policy.specs.declared.record.Person.{Person}
use Rattle.hall_policy.specs.declared.record.AnswerKey.{AnswerKey}
use Rattle.hall_policy.specs.declared.record.AnswerRow.{AnswerRow}
use Rattle.hall_policy.specs.declared.record.ProtestKey.{ProtestKey}
use Rattle.hall_policy.specs.declared.request.Action.{Action}
use Rattle.hall_policy.specs.declared.request.Action.TheVariants.{Import, PutPuzzle, ReadPuzzle, ListPuzzles, Certify}
use Rattle.hall_policy.specs.declared.request.Action.TheVariants.{PutRound, Release, ListRounds, ReadRound, Submit}
use Rattle.hall_policy.specs.declared.request.Action.TheVariants.{Answers, Solutions, Protest, Protests}
use Rattle.hall_policy.specs.declared.request.Action.TheVariants.{RuleProtest, Publish, Table}

-- the person holds the role entrant alone
abbrev pub is_entrant_alone : Person → Bool
is_entrant_alone person =
    person.roles.entrant && not (person.roles.author || (person.roles.referee || person.roles.director))

-- the person's own answers and protests are the same in both worlds
pub record OwnRowsAgree (person : Person) (world other : World) : Type 0 where
  pub answers : (key : AnswerKey) → key.entrant ≡ person.name → get world.answers key ≡ get other.answers key
  pub protests : (key : ProtestKey) → key.entrant ≡ person.name → get world.protests key ≡ get other.protests key

-- an answer as it shows: its text read by `ex`, and no verdict where its round hides verdicts
abbrev pub seen : (List ℕ → List ℕ → List ℕ) → (List ℕ → Bool) → AnswerRow → AnswerRow
seen ex hidden row = record row {
  answer = ex row.key.round row.answer;
  verdict = if hidden row.key.round then 0 else row.verdict;
}

-- each text as it stands
abbrev pub as_is : List ℕ → List ℕ → List ℕ
as_is round answer = answer

-- the action with the text of its answer read by `ex`
abbrev pub exchanged : (List ℕ → List ℕ → List ℕ) → Action → Action
exchanged ex (Submit round number token answer) = Submit round number token (ex round answer)
exchanged ex (Import people) = Import people
exchanged ex (PutPuzzle key puzzle) = PutPuzzle key puzzle
exchanged ex (ReadPuzzle key) = ReadPuzzle key
exchanged ex ListPuzzles = ListPuzzles
exchanged ex (Certify key budget) = Certify key budget
exchanged ex (PutRound round sheet) = PutRound round sheet
exchanged ex (Release round) = Release round
exchanged ex ListRounds = ListRounds
exchanged ex (ReadRound round) = ReadRound round
exchanged ex (Answers round) = Answers round
exchanged ex (Solutions round) = Solutions round
exchanged ex (Protest round token number text) = Protest round token number text
exchanged ex (Protests round) = Protests round
exchanged ex (RuleProtest round entrant token ruling) = RuleProtest round entrant token ruling
exchanged ex (Publish round) = Publish round
exchanged ex (Table round) = Table round

-- the person's own answers show alike in both worlds, those of the first read by `ex`, and the person's protests are
-- the same
pub record OwnAlike (ex : List ℕ → List ℕ → List ℕ) (hidden : List ℕ → Bool) (person : Person) (world other : World)
    : Type 0 where
  pub answers : (key : AnswerKey) → key.entrant ≡ person.name →
      option_map (seen ex hidden) (get world.answers key) ≡ option_map (seen as_is hidden) (get other.answers key)
  pub protests : (key : ProtestKey) → key.entrant ≡ person.name → get world.protests key ≡ get other.protests key
