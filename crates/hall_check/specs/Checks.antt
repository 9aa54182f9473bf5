-- What a check of a world tells of each sentence of a sane one.
use Rattle.std.specs.Prelude.{◌≡◌, List, [], ◌∷◌}
use Rattle.std.specs.FinMap.{entries, values}
use Rattle.hall_policy.specs.World.{World}
use Rattle.hall_policy.specs.declared.record.Person.{Person}
use Rattle.hall_policy.specs.declared.record.PuzzleRow.{PuzzleRow}
use Rattle.hall_policy.specs.declared.record.Round.{Round}
use Rattle.hall_policy.specs.declared.record.Entry.{Entry}
use Rattle.hall_policy.specs.declared.record.PlaceKey.{PlaceKey}
use Rattle.hall_policy.specs.declared.record.TesterKey.{TesterKey}
use Rattle.hall_policy.specs.declared.record.AnswerRow.{AnswerRow}
use Rattle.hall_policy.specs.declared.record.ProtestRow.{ProtestRow}
use Rattle.hall_check.specs.Finds.{Finds}
use Rattle.hall_desk.specs.Lookups.{IsReleasedRound}
use Rattle.hall_desk.specs.Sane.{IsPlaceThere, IsVerdictAt, MayTakePart}
use Rattle.hall_check.specs.Sentences.{HasOwnKey, HasRolesApart, IsKnown, HasFewPuzzles, HasSolution, HasList}
use Rattle.hall_check.specs.Sentences.{HasFewTesters, IsReleasedFirst, IsRoundThere, HasPuzzle, IsCertifiedFirst}
use Rattle.hall_check.specs.Sentences.{IsInNoOther, IsAnswerNumbered, IsNumberedOnce, IsOneOfFewAnswers, IsRuledFirst}
use Rattle.hall_check.specs.Sentences.{IsOneOfFewProtests}
use Rattle.hall_check.specs.Spots.{person_spot, puzzle_spot, round_spot, place_spot, tester_spot, answer_spot}
use Rattle.hall_check.specs.Spots.{protest_spot}
use Rattle.hall_check.specs.declared.sentence.Breaches.{Breaches}
use Rattle.hall_check.specs.declared.sentence.Sentence.{Sentence}
use Rattle.hall_check.specs.declared.sentence.Sentence.TheVariants.{OwnKey, RolesApart, AuthorThere, FewPuzzles}
use Rattle.hall_check.specs.declared.sentence.Sentence.TheVariants.{SolutionRight, StateTrue, ListWhole, FewTesters}
use Rattle.hall_check.specs.declared.sentence.Sentence.TheVariants.{ReleasedFirst, EntryHome, PuzzleThere}
use Rattle.hall_check.specs.declared.sentence.Sentence.TheVariants.{CertifiedFirst, InNoOther, TesterHome, TesterThere}
use Rattle.hall_check.specs.declared.sentence.Sentence.TheVariants.{AnswererThere, AnsweredThere, AnswerReleased}
use Rattle.hall_check.specs.declared.sentence.Sentence.TheVariants.{MayAnswer, VerdictTrue, Numbered, NumberedOnce}
use Rattle.hall_check.specs.declared.sentence.Sentence.TheVariants.{FewAnswers, ProtesterThere, ProtestedThere}
use Rattle.hall_check.specs.declared.sentence.Sentence.TheVariants.{ProtestReleased, MayProtest, RuledFirst, FewProtests}

-- what the sentence says of a person; one that speaks of other rows is true of none
abbrev pub SaysOfPerson : World → Sentence → Person → Type 0
SaysOfPerson world OwnKey = HasOwnKey world
SaysOfPerson world RolesApart = HasRolesApart
SaysOfPerson world _ = λ _. ⊥

-- what it says of a puzzle; what is found of a puzzle's state is told by `AreStatesTold`
abbrev pub SaysOfPuzzle : World → Sentence → PuzzleRow → Type 0
SaysOfPuzzle world AuthorThere = λ row. IsKnown world row.key.author
SaysOfPuzzle world FewPuzzles = HasFewPuzzles world
SaysOfPuzzle world SolutionRight = λ row. HasSolution row.puzzle row.state
SaysOfPuzzle world _ = λ _. ⊥

-- what it says of a round
abbrev pub SaysOfRound : World → Sentence → Round → Type 0
SaysOfRound world ListWhole = λ round. HasList world round.id
SaysOfRound world FewTesters = λ round. HasFewTesters world round.id
SaysOfRound world ReleasedFirst = IsReleasedFirst
SaysOfRound world _ = λ _. ⊥

-- what it says of an entry of a round's list
abbrev pub SaysOfEntry : World → Sentence → PlaceKey × Entry → Type 0
SaysOfEntry world EntryHome = λ place. IsRoundThere world place.0.round
SaysOfEntry world PuzzleThere = λ place. HasPuzzle world place.1
SaysOfEntry world CertifiedFirst = IsCertifiedFirst world
SaysOfEntry world InNoOther = IsInNoOther world
SaysOfEntry world _ = λ _. ⊥

-- what it says of a tester
abbrev pub SaysOfTester : World → Sentence → TesterKey × Unit {0} → Type 0
SaysOfTester world TesterHome = λ tester. IsRoundThere world tester.0.round
SaysOfTester world TesterThere = λ tester. IsKnown world tester.0.name
SaysOfTester world _ = λ _. ⊥

-- what it says of an answer
abbrev pub SaysOfAnswer : World → Sentence → AnswerRow → Type 0
SaysOfAnswer world AnswererThere = λ row. IsKnown world row.key.entrant
SaysOfAnswer world AnsweredThere = λ row. IsPlaceThere world row.key.round row.key.number
SaysOfAnswer world AnswerReleased = λ row. IsReleasedRound world row.key.round
SaysOfAnswer world MayAnswer = λ row. MayTakePart world row.key.entrant row.key.round
SaysOfAnswer world VerdictTrue = λ row. IsVerdictAt world row.key.round row.key.number row
SaysOfAnswer world Numbered = IsAnswerNumbered world
SaysOfAnswer world NumberedOnce = IsNumberedOnce world
SaysOfAnswer world FewAnswers = IsOneOfFewAnswers world
SaysOfAnswer world _ = λ _. ⊥

-- what it says of a protest
abbrev pub SaysOfProtest : World → Sentence → ProtestRow → Type 0
SaysOfProtest world ProtesterThere = λ row. IsKnown world row.key.entrant
SaysOfProtest world ProtestedThere = λ row. IsPlaceThere world row.key.round row.number
SaysOfProtest world ProtestReleased = λ row. IsReleasedRound world row.key.round
SaysOfProtest world MayProtest = λ row. MayTakePart world row.key.entrant row.key.round
SaysOfProtest world RuledFirst = IsRuledFirst world
SaysOfProtest world FewProtests = IsOneOfFewProtests world
SaysOfProtest world _ = λ _. ⊥

-- what is found of a sentence in the rows of the world that it speaks of
abbrev pub TellsSentence : World → Sentence → Breaches → Type 0
TellsSentence world OwnKey = Finds (SaysOfPerson world OwnKey) person_spot (values world.people)
TellsSentence world RolesApart = Finds (SaysOfPerson world RolesApart) person_spot (values world.people)
TellsSentence world AuthorThere = Finds (SaysOfPuzzle world AuthorThere) puzzle_spot (values world.puzzles)
TellsSentence world FewPuzzles = Finds (SaysOfPuzzle world FewPuzzles) puzzle_spot (values world.puzzles)
TellsSentence world SolutionRight = Finds (SaysOfPuzzle world SolutionRight) puzzle_spot (values world.puzzles)
TellsSentence world StateTrue = Finds (SaysOfPuzzle world StateTrue) puzzle_spot (values world.puzzles)
TellsSentence world ListWhole = Finds (SaysOfRound world ListWhole) round_spot (values world.rounds)
TellsSentence world FewTesters = Finds (SaysOfRound world FewTesters) round_spot (values world.rounds)
TellsSentence world ReleasedFirst = Finds (SaysOfRound world ReleasedFirst) round_spot (values world.rounds)
TellsSentence world EntryHome = Finds (SaysOfEntry world EntryHome) place_spot (entries world.places)
TellsSentence world PuzzleThere = Finds (SaysOfEntry world PuzzleThere) place_spot (entries world.places)
TellsSentence world CertifiedFirst = Finds (SaysOfEntry world CertifiedFirst) place_spot (entries world.places)
TellsSentence world InNoOther = Finds (SaysOfEntry world InNoOther) place_spot (entries world.places)
TellsSentence world TesterHome = Finds (SaysOfTester world TesterHome) tester_spot (entries world.testers)
TellsSentence world TesterThere = Finds (SaysOfTester world TesterThere) tester_spot (entries world.testers)
TellsSentence world AnswererThere = Finds (SaysOfAnswer world AnswererThere) answer_spot (values world.answers)
TellsSentence world AnsweredThere = Finds (SaysOfAnswer world AnsweredThere) answer_spot (values world.answers)
TellsSentence world AnswerReleased = Finds (SaysOfAnswer world AnswerReleased) answer_spot (values world.answers)
TellsSentence world MayAnswer = Finds (SaysOfAnswer world MayAnswer) answer_spot (values world.answers)
TellsSentence world VerdictTrue = Finds (SaysOfAnswer world VerdictTrue) answer_spot (values world.answers)
TellsSentence world Numbered = Finds (SaysOfAnswer world Numbered) answer_spot (values world.answers)
TellsSentence world NumberedOnce = Finds (SaysOfAnswer world NumberedOnce) answer_spot (values world.answers)
TellsSentence world FewAnswers = Finds (SaysOfAnswer world FewAnswers) answer_spot (values world.answers)
TellsSentence world ProtesterThere = Finds (SaysOfProtest world ProtesterThere) protest_spot (values world.protests)
TellsSentence world ProtestedThere = Finds (SaysOfProtest world ProtestedThere) protest_spot (values world.protests)
TellsSentence world ProtestReleased = Finds (SaysOfProtest world ProtestReleased) protest_spot (values world.protests)
TellsSentence world MayProtest = Finds (SaysOfProtest world MayProtest) protest_spot (values world.protests)
TellsSentence world RuledFirst = Finds (SaysOfProtest world RuledFirst) protest_spot (values world.protests)
TellsSentence world FewProtests = Finds (SaysOfProtest world FewProtests) protest_spot (values world.protests)

-- what is found of each of the sentences, in their order
abbrev pub AreTold : World → List Sentence → List Breaches → Type 0
AreTold world [] [] = Unit {0}
AreTold world [] (found ∷ rest) = ⊥
AreTold world (sentence ∷ others) [] = ⊥
AreTold world (sentence ∷ others) (found ∷ rest) =
    (found.sentence ≡ sentence) × TellsSentence world sentence found × AreTold world others rest
