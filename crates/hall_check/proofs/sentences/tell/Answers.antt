use Rattle.std.proofs.Common.{◌∙◌, ◌∷◌, [], sym}
use Rattle.std.specs.FinMap.{entries, values}
use Rattle.hall_check.specs.Asking.{asked_world}
use Rattle.hall_check.specs.Checks.{SaysOfPerson, SaysOfPuzzle, SaysOfRound, SaysOfEntry, SaysOfTester, SaysOfAnswer}
use Rattle.hall_check.specs.Checks.{SaysOfProtest}
use Rattle.hall_check.specs.Spots.{person_spot, puzzle_spot, round_spot, place_spot, tester_spot, answer_spot}
use Rattle.hall_check.specs.Spots.{protest_spot}
use Rattle.hall_check.specs.declared.sentence.Sentence.TheVariants as sentence
use Rattle.hall_check.proofs.Tellings.{telling}
use Rattle.hall_check.proofs.sentences.tell.Goals as goal

pub returns-in-OwnKey-clause-tells : goal.returns-in-OwnKey-clause-tells
returns-in-OwnKey-clause-tells c =
    let world = asked_world c.args.asking.now in
    telling c.args.asking.now (SaysOfPerson world) person_spot
    c.deref.result.now (values world.people) c.args.sentence
    sentence.OwnKey (sentence.RolesApart ∷ [])
    c.ask_each.result c.in-OwnKey.is
    ((λ _ finds. finds), (λ _ finds. finds))
    (λ able. c.deref.ensures.value ∙ sym able.0.people) c.ask_each.ensures.finds

pub returns-in-AuthorThere-clause-tells : goal.returns-in-AuthorThere-clause-tells
returns-in-AuthorThere-clause-tells c =
    let world = asked_world c.args.asking.now in
    telling c.args.asking.now (SaysOfPuzzle world) puzzle_spot
    c.deref-in-AuthorThere.result.now (values world.puzzles) c.args.sentence
    sentence.AuthorThere (sentence.FewPuzzles ∷ sentence.SolutionRight ∷ sentence.StateTrue ∷ [])
    c.ask_each-in-AuthorThere.result c.in-AuthorThere.is
    ((λ _ finds. finds), ((λ _ finds. finds), ((λ _ finds. finds), (λ _ finds. finds))))
    (λ able. c.deref-in-AuthorThere.ensures.value ∙ sym able.0.puzzles) c.ask_each-in-AuthorThere.ensures.finds

pub returns-in-ListWhole-clause-tells : goal.returns-in-ListWhole-clause-tells
returns-in-ListWhole-clause-tells c =
    let world = asked_world c.args.asking.now in
    telling c.args.asking.now (SaysOfRound world) round_spot
    c.deref-in-ListWhole.result.now (values world.rounds) c.args.sentence
    sentence.ListWhole (sentence.FewTesters ∷ sentence.ReleasedFirst ∷ [])
    c.ask_each-in-ListWhole.result c.in-ListWhole.is
    ((λ _ finds. finds), ((λ _ finds. finds), (λ _ finds. finds)))
    (λ able. c.deref-in-ListWhole.ensures.value ∙ sym able.0.rounds) c.ask_each-in-ListWhole.ensures.finds

pub returns-in-EntryHome-clause-tells : goal.returns-in-EntryHome-clause-tells
returns-in-EntryHome-clause-tells c =
    let world = asked_world c.args.asking.now in
    telling c.args.asking.now (SaysOfEntry world) place_spot
    c.deref-in-EntryHome.result.now (entries world.places) c.args.sentence
    sentence.EntryHome (sentence.PuzzleThere ∷ sentence.CertifiedFirst ∷ sentence.InNoOther ∷ [])
    c.ask_each-in-EntryHome.result c.in-EntryHome.is
    ((λ _ finds. finds), ((λ _ finds. finds), ((λ _ finds. finds), (λ _ finds. finds))))
    (λ able. c.deref-in-EntryHome.ensures.value ∙ sym able.0.places) c.ask_each-in-EntryHome.ensures.finds

pub returns-in-TesterHome-clause-tells : goal.returns-in-TesterHome-clause-tells
returns-in-TesterHome-clause-tells c =
    let world = asked_world c.args.asking.now in
    telling c.args.asking.now (SaysOfTester world) tester_spot
    c.deref-in-TesterHome.result.now (entries world.testers) c.args.sentence
    sentence.TesterHome (sentence.TesterThere ∷ [])
    c.ask_each-in-TesterHome.result c.in-TesterHome.is
    ((λ _ finds. finds), (λ _ finds. finds))
    (λ able. c.deref-in-TesterHome.ensures.value ∙ sym able.0.testers) c.ask_each-in-TesterHome.ensures.finds

pub returns-in-AnswererThere-clause-tells : goal.returns-in-AnswererThere-clause-tells
returns-in-AnswererThere-clause-tells c =
    let world = asked_world c.args.asking.now in
    telling c.args.asking.now (SaysOfAnswer world) answer_spot
    c.deref-in-AnswererThere.result.now (values world.answers) c.args.sentence
    sentence.AnswererThere (sentence.AnsweredThere ∷ sentence.AnswerReleased ∷ sentence.MayAnswer
    ∷ sentence.VerdictTrue ∷ sentence.Numbered ∷ sentence.NumberedOnce ∷ sentence.FewAnswers ∷ [])
    c.ask_each-in-AnswererThere.result c.in-AnswererThere.is (
      (λ _ finds. finds),
      (
        (λ _ finds. finds),
        (
          (λ _ finds. finds),
          (
            (λ _ finds. finds),
            (
              (λ _ finds. finds),
              ((λ _ finds. finds), ((λ _ finds. finds), (λ _ finds. finds))),
            ),
          ),
        ),
      ),
    )
    (λ able. c.deref-in-AnswererThere.ensures.value ∙ sym able.0.answers) c.ask_each-in-AnswererThere.ensures.finds

pub returns-in-ProtesterThere-clause-tells : goal.returns-in-ProtesterThere-clause-tells
returns-in-ProtesterThere-clause-tells c =
    let world = asked_world c.args.asking.now in
    telling c.args.asking.now (SaysOfProtest world) protest_spot
    c.deref-in-ProtesterThere.result.now (values world.protests) c.args.sentence
    sentence.ProtesterThere (sentence.ProtestedThere ∷ sentence.ProtestReleased ∷ sentence.MayProtest
    ∷ sentence.RuledFirst ∷ sentence.FewProtests ∷ [])
    c.ask_each-in-ProtesterThere.result c.in-ProtesterThere.is (
      (λ _ finds. finds),
      (
        (λ _ finds. finds),
        (
          (λ _ finds. finds),
          (
            (λ _ finds. finds),
            (
              (λ _ finds. finds),
              (λ _ finds. finds),
            ),
          ),
        ),
      ),
    )
    (λ able. c.deref-in-ProtesterThere.ensures.value ∙ sym able.0.protests) c.ask_each-in-ProtesterThere.ensures.finds
