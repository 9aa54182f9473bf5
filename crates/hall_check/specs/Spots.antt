-- Where a row stands.
use Rattle.hall_policy.specs.declared.record.Person.{Person}
use Rattle.hall_policy.specs.declared.record.PuzzleRow.{PuzzleRow}
use Rattle.hall_policy.specs.declared.record.Round.{Round}
use Rattle.hall_policy.specs.declared.record.Entry.{Entry}
use Rattle.hall_policy.specs.declared.record.PlaceKey.{PlaceKey}
use Rattle.hall_policy.specs.declared.record.TesterKey.{TesterKey}
use Rattle.hall_policy.specs.declared.record.AnswerRow.{AnswerRow}
use Rattle.hall_policy.specs.declared.record.ProtestRow.{ProtestRow}
use Rattle.hall_check.specs.declared.sentence.Spot.{Spot}
use Rattle.hall_check.specs.declared.sentence.Spot.TheVariants as spot

-- a person stands under the name
abbrev pub person_spot : Person → Spot
person_spot person = spot.Person person.name

-- a puzzle stands under its key
abbrev pub puzzle_spot : PuzzleRow → Spot
puzzle_spot row = spot.Puzzle row.key

-- a round stands under its id
abbrev pub round_spot : Round → Spot
round_spot round = spot.Round round.id

-- an entry stands under its place
abbrev pub place_spot : PlaceKey × Entry → Spot
place_spot place = spot.Entry place.0

-- a tester stands under its key
abbrev pub tester_spot : TesterKey × Unit {0} → Spot
tester_spot tester = spot.Tester tester.0

-- an answer stands under its key
abbrev pub answer_spot : AnswerRow → Spot
answer_spot row = spot.Answer row.key

-- a protest stands under its key
abbrev pub protest_spot : ProtestRow → Spot
protest_spot row = spot.Protest row.key
