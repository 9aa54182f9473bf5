-- The actions of the handlers, and what is found for them.
use Rattle.std.specs.Prelude.{◌≡◌, ℕ, Option, Some}
use Rattle.std.specs.FinMap.{get}
use Rattle.hall_policy.specs.World.{World}
use Rattle.hall_policy.specs.Rules.{answers_given, protests_made}
use Rattle.hall_policy.specs.declared.record.AnswerRow.{AnswerRow}
use Rattle.hall_policy.specs.declared.request.Action.{Action}
use Rattle.hall_policy.specs.declared.request.Action.TheVariants as action
use Rattle.hall_policy.specs.declared.record.AnswerKey.{AnswerKey}
use Rattle.hall_policy.specs.declared.record.Person.{Person}
use Rattle.hall_policy.specs.declared.record.ProtestKey.{ProtestKey}
use Rattle.hall_policy.specs.declared.record.ProtestRow.{ProtestRow}
use Rattle.hall_desk.specs.Step.{open_protest}
use Rattle.hall_desk.specs.declared.submit.Submit.{Submit}
use Rattle.hall_desk.specs.declared.protest.Protest.{Protest}
use Rattle.hall_desk.specs.declared.rule_protest.RuleProtest.{RuleProtest}
use Rattle.hall_desk.specs.declared.import.Import.{Import}
use Rattle.hall_desk.specs.declared.put_puzzle.PutPuzzle.{PutPuzzle}
use Rattle.hall_desk.specs.declared.certify_puzzle.Certify.{Certify}
use Rattle.hall_desk.specs.declared.put_round.PutRound.{PutRound}
use Rattle.hall_desk.specs.declared.release.Release.{Release}
use Rattle.hall_desk.specs.declared.read_puzzle.ReadPuzzle.{ReadPuzzle}
use Rattle.hall_desk.specs.declared.list_puzzles.ListPuzzles.{ListPuzzles}
use Rattle.hall_desk.specs.declared.list_rounds.ListRounds.{ListRounds}
use Rattle.hall_desk.specs.declared.solutions.Solutions.{Solutions}
use Rattle.hall_desk.specs.declared.protests.Protests.{Protests}
use Rattle.hall_desk.specs.declared.publish.Publish.{Publish}

-- the action that hands the answer in
abbrev pub submit_action : Submit → Action
submit_action asked = action.Submit asked.round.now asked.number asked.token.now asked.answer.now

-- the key under which that answer of the person's is kept
abbrev pub submitted_key : Person → Submit → AnswerKey
submitted_key person asked =
    record { entrant = person.name; round = asked.round.now; number = asked.number; token = asked.token.now }

-- the row of the person's answer that is handed in, with its number, moment and verdict
abbrev pub submitted_row : Person → Submit → ℕ → ℕ → ℕ → AnswerRow
submitted_row person asked n t verdict =
    record { key = submitted_key person asked; n = n; moment = t; answer = asked.answer.now; verdict = verdict }

-- the caller's answer under the token of what is handed in
abbrev pub IsAnswerOf : World → Option Person → Submit → Option AnswerRow → Type 0
IsAnswerOf world caller asked found =
    (person : Person) → caller ≡ Some person → found ≡ get world.answers (submitted_key person asked)

-- how many answers to the puzzle the caller gave
abbrev pub IsCountOf : World → Option Person → Submit → ℕ → Type 0
IsCountOf world caller asked count =
    (person : Person) → caller ≡ Some person → count ≡ answers_given world person.name asked.round.now asked.number

-- the action that makes the protest
abbrev pub protest_action : Protest → Action
protest_action asked = action.Protest asked.round.now asked.token.now asked.number asked.text.now

-- where the person's protest is kept
abbrev pub protest_key : Person → Protest → ProtestKey
protest_key person asked = record { entrant = person.name; round = asked.round.now; token = asked.token.now }

-- the row of the person's protest, as it is first stored
abbrev pub protest_row : Person → Protest → ProtestRow
protest_row person asked = open_protest person asked.round.now asked.token.now asked.number asked.text.now

-- the caller's protest under the token of what is protested
abbrev pub IsProtestOf : World → Option Person → Protest → Option ProtestRow → Type 0
IsProtestOf world caller asked found =
    (person : Person) → caller ≡ Some person → found ≡ get world.protests (protest_key person asked)

-- how many protests in the round the caller made
abbrev pub IsProtestCountOf : World → Option Person → Protest → ℕ → Type 0
IsProtestCountOf world caller asked count =
    (person : Person) → caller ≡ Some person → count ≡ protests_made world person.name asked.round.now

-- the action that rules the protest
abbrev pub rule_protest_action : RuleProtest → Action
rule_protest_action asked = action.RuleProtest asked.round.now asked.entrant.now asked.token.now asked.ruling

-- where the protest is kept that is ruled
abbrev pub ruled_key : RuleProtest → ProtestKey
ruled_key asked = record { entrant = asked.entrant.now; round = asked.round.now; token = asked.token.now }

-- the action that imports the people
abbrev pub import_action : Import → Action
import_action imported = action.Import imported.people.now

-- the action that puts the puzzle
abbrev pub put_puzzle_action : PutPuzzle → Action
put_puzzle_action put = action.PutPuzzle put.key.now put.puzzle.now

-- the action that certifies the puzzle
abbrev pub certify_action : Certify → Action
certify_action certified = action.Certify certified.key.now certified.budget

-- the action that puts the round
abbrev pub put_round_action : PutRound → Action
put_round_action drafted = action.PutRound drafted.round.now drafted.sheet.now

-- the action that releases the round
abbrev pub release_action : Release → Action
release_action released = action.Release released.round.now

-- the action that reads the puzzle
abbrev pub read_puzzle_action : ReadPuzzle → Action
read_puzzle_action read = action.ReadPuzzle read.key.now

-- the action that lists puzzles
abbrev pub list_puzzles_action : ListPuzzles → Action
list_puzzles_action listed = action.ListPuzzles

-- the action that lists rounds
abbrev pub list_rounds_action : ListRounds → Action
list_rounds_action listed = action.ListRounds

-- the action that tells the round's solutions
abbrev pub solutions_action : Solutions → Action
solutions_action told = action.Solutions told.round.now

-- the action that lists the round's protests
abbrev pub protests_action : Protests → Action
protests_action listed = action.Protests listed.round.now

-- the action that publishes the round
abbrev pub publish_action : Publish → Action
publish_action published = action.Publish published.round.now
