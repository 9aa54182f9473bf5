-- What who is no director can't learn.
use Rattle.std.proofs.Common.{◌≡◌, inr, false, ℕ, [], Option, Some, None, lit<, refl, sym, ap, ◌∙◌, subst, ◌&&◌, ◌<◌}
use Rattle.std.proofs.Common.{Bool, true, not, nat_lt, List}
use Rattle.std.specs.Option.{option_map}
use Rattle.std.specs.FinMap.{FinMap, get}
use Rattle.std.proofs.lemmas.Bool.{false≢true}
use borrow.Author.Tests.{ltb-true}
use Rattle.hall_policy.specs.World.{World, answer_cmp, end_of}
use Rattle.hall_policy.specs.Ranges.{IsWorld, IsAction, IsRequest}
use Rattle.hall_policy.specs.First.{First}
use Rattle.hall_policy.specs.OwnAlike.{seen, as_is}
use Rattle.hall_policy.specs.declared.record.AnswerRow.{AnswerRow}
use Rattle.hall_policy.specs.declared.record.Person.{Person}
use Rattle.hall_policy.specs.declared.record.PuzzleKey.{PuzzleKey}
use Rattle.hall_policy.specs.declared.record.PuzzleState.{PuzzleState}
use Rattle.hall_policy.specs.declared.record.Round.{Round}
use Rattle.hall_policy.specs.declared.request.Action.{Action}
use Rattle.hall_policy.specs.declared.request.Action.TheVariants as action
use Rattle.hall_policy.specs.declared.rule.Decision.{Decision}
use Rattle.hall_policy.specs.declared.rule.Decision.TheVariants.{Allow, Repeat, Deny}
use Rattle.hall_policy.specs.declared.rule.Rule.TheVariants as rule
use Rattle.hall_policy.proofs.LoneDecisions.{lone, as_it_stands}
use Rattle.hall_policy.proofs.Texts.{and_first, and_second}
use Rattle.hall_store.specs.Caller.{caller_of}
use Rattle.hall_desk.specs.Alike.{LooksAlike}
use Rattle.hall_desk.specs.Secrecy.{hides_round, hides, DifferInVerdicts}
use Rattle.hall_desk.specs.Shown.{is_sealed}
use Rattle.hall_desk.specs.Step.{Asked, IsAnswered, Decided}
use Rattle.hall_desk.specs.declared.reply.Reply.{Reply}
use Rattle.hall_desk.proofs.StepsAlike.{same_callers, plain_answers}
use Rattle.hall_desk.proofs.RepliesAlike.{reply_stands}
use Rattle.hall_laws.specs.Roles.{IsNoDirector, Knows, KnowsNothingElse, DifferInUnstarted, PuzzlesHidden}
use Rattle.hall_laws.specs.Roles.{VerdictsHidden}
use Rattle.hall_laws.proofs.RolesAlike.{Change, nothing, looks_alike, person_answers}
use Rattle.hall_laws.proofs.RolesDecided.{Differ}

-- the first world with the puzzles and answers of the second, where all else is the same
abbrev pub beside : World → World → World
beside world other = record world { puzzles = other.puzzles; answers = other.answers; protests = world.protests }

pub beside_is : (world other : World) → world.people ≡ other.people → world.rounds ≡ other.rounds
    → world.places ≡ other.places → world.testers ≡ other.testers → world.protests ≡ other.protests
    → beside world other ≡ other
beside_is world other people rounds places testers protests = λ i. record {
  people = people i;
  puzzles = other.puzzles;
  rounds = rounds i;
  places = places i;
  answers = other.answers;
  protests = protests i;
  testers = testers i;
}

-- ---- a round that hides verdicts
not_hidden : (a b c : Bool) → b ≡ true → (a && (not b && c)) ≡ false
not_hidden true true c h = refl
not_hidden false true c h = refl
not_hidden a false c h = absurd (false≢true h)

hides_sealed : (world : World) (t : ℕ) (id : List ℕ) (round : Round) → hides world t id ≡ true
    → get world.rounds id ≡ Some round → (is_sealed round.mode ≡ true) × (t < end_of round)
hides_sealed world t id round is kept =
    let all : (is_sealed round.mode && (not round.published && nat_lt t (end_of round))) ≡ true =
    ap (hides_round t) (sym kept) ∙ is in
    (and_first _ _ all, ltb-true _ _ (and_second _ _ (and_second _ _ all)))

hides_unpublished : (world : World) (t : ℕ) (id : List ℕ) (round : Round) → hides world t id ≡ true
    → get world.rounds id ≡ Some round → round.published ≡ true → ⊥
hides_unpublished world t id round is kept published = false≢true
    (sym (ap (hides_round t) kept ∙ not_hidden (is_sealed round.mode) round.published (nat_lt t (end_of round))
    published)
    ∙ is)

-- the world stays where the caller is nobody
stays_for_nobody : (world : World) (a : Action) (t : ℕ) (d : Decision) (found : PuzzleState) (given : Reply)
    (new : World) → First world None a t d → Decided d world None a t found given new → new ≡ world
stays_for_nobody world a t (Deny k) found given new first p = p.1
stays_for_nobody world a t Repeat found given new first p = p.1
stays_for_nobody world (action.Table id) t Allow found given new first p = p.1
stays_for_nobody world _ t Allow found given new first p = absurd
    ((first rule.UnknownKey (lit< tt)).0 ((0, lit< tt, refl), refl))

module _ (world other new changed : World) (asked : Asked) (given answered : Reply) (first : IsAnswered world asked
    given new) (second : IsAnswered other asked answered changed) (people : world.people ≡ other.people) where
  abbrev caller : Option Person
  caller = caller_of world asked.request.key

  abbrev Alike : Type 0
  Alike = (given ≡ answered) × Change as_is world other new changed

  decided_for : (c : Option Person) → caller ≡ c → First world c asked.request.action asked.moment first.0
      × Decided first.0 world c asked.request.action asked.moment asked.found given new
  decided_for c who = subst (λ (x : Option Person). First world x asked.request.action asked.moment first.0
      × Decided first.0 world x asked.request.action asked.moment asked.found given new) who (first.1, first.2)

  decided_too : (c : Option Person) → caller ≡ c → First other c asked.request.action asked.moment second.0
      × Decided second.0 other c asked.request.action asked.moment asked.found answered changed
  decided_too c who = subst (λ (x : Option Person). First other x asked.request.action asked.moment second.0
      × Decided second.0 other x asked.request.action asked.moment asked.found answered changed)
      (sym (same_callers world other people asked.request.key) ∙ who) (second.1, second.2)

  -- a person who is no director is told the same, and changes the same
  person_alike : (one : beside world other ≡ other) → IsAction asked.request.action
      → Differ as_is (hides world asked.moment) world other.puzzles other.answers asked.moment → (person : Person)
      → caller ≡ Some person
      → person.roles.director ≡ false
      → ((key : PuzzleKey) → Knows world person key → get world.puzzles key ≡ get other.puzzles key) → Alike
  person_alike one is differ person who plain knows =
      let here = decided_for (Some person) who in
      let there = subst (λ (a : Action). First (beside world other) (Some person) a asked.moment second.0
      × Decided second.0 (beside world other) (Some person) a asked.moment asked.found answered changed)
      (sym (as_it_stands asked.request.action))
      (subst (λ (w : World). First w (Some person) asked.request.action asked.moment second.0
      × Decided second.0 w (Some person) asked.request.action asked.moment asked.found answered changed) (sym one)
      (decided_too (Some person) who)) in
      let (told, change) = person_answers as_is (hides world asked.moment) world other.puzzles other.answers
      asked.moment differ person plain knows asked.request.action first.0 second.0 asked.found given answered new
      changed is here.0 here.1 there.0 there.1 in
      subst (λ (w : World). (given ≡ answered) × Change as_is world w new changed) one
      (sym (reply_stands asked.request.action given) ∙ told, change)

  -- nobody changes anything
  nobody_alike : LooksAlike as_is (hides world asked.moment) (lone [] []) asked.moment world other → IsWorld world
      → IsWorld other → world.rounds ≡ other.rounds → world.places ≡ other.places → world.testers ≡ other.testers
      → caller ≡ None → Alike
  nobody_alike looks typed retyped rounds places testers nobody =
      let here = decided_for None nobody in
      let there = decided_too None nobody in (
        plain_answers (hides world asked.moment) world other people rounds places testers typed retyped (lone [] [])
            refl asked asked refl refl looks (inr nobody) given answered new changed first second,
        nothing
            (stays_for_nobody world asked.request.action asked.moment first.0 asked.found given new here.0 here.1)
            (stays_for_nobody other asked.request.action asked.moment second.0 asked.found answered changed there.0
            there.1),
      )

  -- whoever is no director is told the same, and changes the same
  caller_alike : (one : beside world other ≡ other) → IsAction asked.request.action
      → Differ as_is (hides world asked.moment) world other.puzzles other.answers asked.moment → IsNoDirector caller
      → KnowsNothingElse world other caller → Alike
  caller_alike one is differ plain knows = elim caller as (λ (found : Option Person). caller ≡ found → Alike) [
    | None ↦ λ nobody. nobody_alike
        (subst (λ (w : World). LooksAlike as_is (hides world asked.moment) (lone [] []) asked.moment world w) one
        (looks_alike as_is (hides world asked.moment) world other.puzzles other.answers asked.moment differ))
        differ.typed
        (subst IsWorld one differ.retyped) (ap (λ (w : World). w.rounds) one) (ap (λ (w : World). w.places) one)
        (ap (λ (w : World). w.testers) one) nobody
    | Some person ↦ λ who. person_alike one is differ person who (subst IsNoDirector who plain)
        (subst (KnowsNothingElse world other) who knows)
  ] refl

  pub puzzles_alike : IsWorld world → IsWorld other → IsRequest asked.request
      → DifferInUnstarted world other asked.moment → IsNoDirector caller → KnowsNothingElse world other caller → Alike
  puzzles_alike typed retyped is differ plain knows =
      let one : beside world other ≡ other = beside_is world other differ.people differ.rounds differ.places
      differ.testers differ.protests in
      caller_alike one is.action (record {
        apart = λ id a b same. same;
        plain = λ id plainly a. refl;
        seals = hides_sealed world asked.moment;
        published = λ id round is kept published. absurd (hides_unpublished world asked.moment id round is kept
            published);
        typed = typed;
        retyped = subst IsWorld (sym one) retyped;
        started = differ.started;
        shown = λ key. ap (λ (m : FinMap answer_cmp AnswerRow).
            option_map (seen as_is (hides world asked.moment)) (get m key)) differ.answers;
      }) plain knows

  pub verdicts_alike : IsWorld world → IsWorld other → IsRequest asked.request
      → DifferInVerdicts world other asked.moment → IsNoDirector caller → Alike
  verdicts_alike typed retyped is differ plain =
      let one : beside world other ≡ other = beside_is world other differ.people differ.rounds differ.places
      differ.testers differ.protests in
      caller_alike one is.action (record {
        apart = λ id a b same. same;
        plain = λ id plainly a. refl;
        seals = hides_sealed world asked.moment;
        published = λ id round is kept published. absurd (hides_unpublished world asked.moment id round is kept
            published);
        typed = typed;
        retyped = subst IsWorld (sym one) retyped;
        started = λ key started. ap (λ m. get m key) differ.puzzles;
        shown = differ.answers;
      }) plain (knows_all caller)
    where
      knows_all : (c : Option Person) → KnowsNothingElse world other c
      knows_all None = tt
      knows_all (Some person) = λ key knows. ap (λ m. get m key) differ.puzzles

pub puzzles_hidden : PuzzlesHidden
puzzles_hidden world other new changed asked given answered typed retyped is differ plain knows first second =
    (puzzles_alike world other new changed asked given answered first second differ.people typed retyped is differ plain
    knows).0

pub verdicts_hidden : VerdictsHidden
verdicts_hidden world other new changed asked given answered typed retyped is differ plain first second =
    (verdicts_alike world other new changed asked given answered first second differ.people typed retyped is differ
    plain).0
