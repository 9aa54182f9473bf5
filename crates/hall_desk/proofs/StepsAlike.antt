-- One step in two worlds that differ in puzzles before their start, or in hidden verdicts.
use Rattle.std.proofs.Common.{◌≡◌, ◌≢◌, ◌≤◌, ◌&&◌, inl, inr, if◌then◌else◌, ℕ, Bool, true, false, not, nat_lt, List, []}
use Rattle.std.proofs.Common.{Option, Some, None, arith, refl, sym, ap, ◌∙◌, subst}
use Rattle.std.specs.Option.{option_map}
use Rattle.std.specs.FinMap.{FinMap, get}
use Rattle.std.proofs.lemmas.Bool.{false≢true}
use borrow.Author.Tests.{ltb-true}
use Rattle.hall_policy.specs.Text.{text_cmp}
use Rattle.hall_policy.specs.World.{World, answer_cmp, protest_cmp, end_of}
use Rattle.hall_policy.specs.Ranges.{IsWorld}
use Rattle.hall_policy.specs.First.{First}
use Rattle.hall_policy.specs.declared.record.Person.{Person}
use Rattle.hall_policy.specs.declared.record.PuzzleKey.{PuzzleKey}
use Rattle.hall_policy.specs.declared.record.AnswerKey.{AnswerKey}
use Rattle.hall_policy.specs.declared.record.AnswerRow.{AnswerRow}
use Rattle.hall_policy.specs.declared.record.ProtestRow.{ProtestRow}
use Rattle.hall_policy.specs.declared.record.PuzzleState.{PuzzleState}
use Rattle.hall_policy.specs.declared.request.Action.{Action}
use Rattle.hall_policy.specs.declared.request.Request.{Request}
use Rattle.hall_store.specs.Caller.{with_key, caller_of}
use Rattle.hall_desk.specs.Shown.{is_sealed}
use Rattle.hall_desk.specs.Step.{Asked, IsAnswered, Step, Decided}
use Rattle.hall_policy.specs.OwnAlike.{is_entrant_alone, seen, as_is, exchanged}
use Rattle.hall_desk.specs.Alike.{LooksAlike}
use Rattle.hall_desk.specs.Exchanged.{exchanged_reply}
use Rattle.hall_desk.specs.Secrecy.{IsEntrantOrStranger, TestsPuzzle, TestsNothingElse, BeforeStart, hides_round, hides}
use Rattle.hall_desk.specs.Secrecy.{SealedVerdicts}
use Rattle.hall_desk.specs.declared.reply.Reply.{Reply}
use Rattle.hall_desk.specs.declared.reply.Reply.TheVariants as reply
use Rattle.hall_policy.proofs.Texts.{and_first, and_second}
use Rattle.hall_desk.proofs.RepliesAlike.{IsAtMost, either_answers, reply_stands}
use Rattle.hall_policy.proofs.LoneDecisions.{lone, as_it_stands}

-- the same key has the same holder, where people are the same
pub same_callers : (world other : World) → world.people ≡ other.people → (key : Option (List ℕ))
    → caller_of world key ≡ caller_of other key
same_callers world other people None = refl
same_callers world other people (Some key) = ap (λ (p : FinMap text_cmp Person). with_key (record world { people = p })
    key) people

-- no text is exchanged
never : List ℕ → Bool
never id = false

-- the answers to one request, and to the exchanged one
pub exchanged_answers : (ex : List ℕ → List ℕ → List ℕ) (hidden : List ℕ → Bool)
    → ((id a b : List ℕ) → ex id a ≡ ex id b → a ≡ b) → ((id : List ℕ) → hidden id ≡ false → (a : List ℕ) → ex id a ≡ a)
    →
    (world other : World) → world.people ≡ other.people → world.rounds ≡ other.rounds → world.places ≡ other.places
    → world.testers ≡ other.testers → IsWorld world → IsWorld other →
    (person : Person) → is_entrant_alone person ≡ true → (asked again : Asked) → again.moment ≡ asked.moment
    → again.request.key ≡ asked.request.key → again.request.action ≡ exchanged ex asked.request.action →
    LooksAlike ex hidden person asked.moment world other → IsAtMost (caller_of world asked.request.key) person →
    (given answered : Reply) (new changed : World) → IsAnswered world asked given new
    → IsAnswered other again answered changed → answered ≡ exchanged_reply ex asked.request.action given
exchanged_answers ex hidden apart plain world other people rounds places testers typed retyped person alone asked again
    at key action look is given answered new changed (d, first, p) (f, second, q) =
    let t : ℕ = asked.moment in
    let a : Action = asked.request.action in
    let c : Option Person = caller_of other again.request.key in
    let caller : c ≡ caller_of world asked.request.key = ap (caller_of other) key
    ∙ sym (same_callers world other people asked.request.key) in
    let there : First other c (exchanged ex a) t f = subst (λ (m : ℕ). First other c (exchanged ex a) m f) at
    (subst (λ (x : Action). First other c x again.moment f) action second) in
    let done : Decided f other c (exchanged ex a) t again.found answered changed =
    subst (λ (m : ℕ). Decided f other c (exchanged ex a) m again.found answered changed) at
    (subst (λ (x : Action). Decided f other c x again.moment again.found answered changed) action q) in
    either_answers ex hidden apart plain world other people rounds places testers typed retyped person alone t look
    (caller_of world asked.request.key) c caller is a d f asked.found again.found given answered new changed first p
    there done

-- the answers to one request, the same in both lists
pub plain_answers : (hidden : List ℕ → Bool) (world other : World) → world.people ≡ other.people
    → world.rounds ≡ other.rounds → world.places ≡ other.places → world.testers ≡ other.testers → IsWorld world
    → IsWorld other →
    (person : Person) → is_entrant_alone person ≡ true → (asked again : Asked) → again.moment ≡ asked.moment
    → again.request ≡ asked.request → LooksAlike as_is hidden person asked.moment world other
    → IsAtMost (caller_of world asked.request.key) person →
    (given answered : Reply) (new changed : World) → IsAnswered world asked given new
    → IsAnswered other again answered changed → given ≡ answered
plain_answers hidden world other people rounds places testers typed retyped person alone asked again at same look is
    given answered new changed first second =
    sym (exchanged_answers as_is hidden (λ id x y e. e) (λ id h x. refl) world other people rounds places testers typed
    retyped person alone asked again at
    (ap (λ (r : Request). r.key) same) (ap (λ (r : Request). r.action) same ∙ sym (as_it_stands asked.request.action))
    look is given answered new changed first second
    ∙ reply_stands asked.request.action given)

-- a step that serves
pub served : (world new : World) (t : ℕ) (request : Request) (given : Reply) → Step world t request given new
    → given ≢ reply.Unavailable →
    (found : PuzzleState) × IsAnswered world (record { moment = t; request = request; found = found }) given new
served world new t request given (inl h) not_refused = absurd (not_refused h.0)
served world new t request given (inr h) not_refused = h

-- a person who holds the role entrant alone, and as whom the caller is answered
entrant_for : (caller : Option Person) → IsEntrantOrStranger caller → (e : Person) × (is_entrant_alone e ≡ true)
    × IsAtMost caller e
entrant_for None stranger = (lone [] [], refl, inr refl)
entrant_for (Some e) alone = (e, alone, inl refl)

-- who is nobody is no tester, and the person is one of no round with a puzzle that differs
tests_alike : (world other : World) (caller : Option Person) (is : IsEntrantOrStranger caller) → IsWorld world
    → TestsNothingElse world other caller →
    (key : PuzzleKey) → TestsPuzzle world (entrant_for caller is).0.name key
    → get world.puzzles key ≡ get other.puzzles key
unfolding entrant_for
tests_alike world other None stranger typed tests key (id, entry, is_tester, lists, own) = absurd
    (let none : 1 ≤ 0 = (typed.in_range.testers (record { round = id; name = [] }) is_tester).long_enough in omega
    (arith, none))
tests_alike world other (Some e) alone typed tests key h = tests key h

-- ---- before the start
pub before_start : BeforeStart
before_start world other new changed t request given answered typed retyped differ caller tests step also serves
    serves_too =
    let who = entrant_for (caller_of world request.key) caller in
    let first = served world new t request given step serves in
    let second = served other changed t request answered also serves_too in
    plain_answers (λ id. false) world other differ.people differ.rounds differ.places differ.testers typed retyped who.0
    who.1
    (record { moment = t; request = request; found = first.0 })
    (record { moment = t; request = request; found = second.0 }) refl refl
    (record {
      own = record {
        answers = λ key own. ap (λ (m : FinMap answer_cmp AnswerRow). option_map (seen as_is (λ id. false)) (get m key))
            differ.answers;
        protests = λ key own. ap (λ (m : FinMap protest_cmp ProtestRow). get m key) differ.protests;
      };
      sealed = λ id round hidden kept. absurd (false≢true hidden);
      answers = λ id round kept published key own. ap (λ (m : FinMap answer_cmp AnswerRow). get m key) differ.answers;
      protests = λ id round kept published key own. ap (λ (m : FinMap protest_cmp ProtestRow). get m key)
          differ.protests;
      puzzles = differ.started;
      tested = tests_alike world other (caller_of world request.key) caller typed tests;
    }) who.2 given answered new changed first.1 second.1

-- ---- hidden verdicts
-- a row whose round hides nothing shows whole
seen_whole : (hidden : List ℕ → Bool) (row : AnswerRow) → hidden row.key.round ≡ false → seen as_is hidden row ≡ row
seen_whole hidden row shown =
    let verdict : (if hidden row.key.round then 0 else row.verdict) ≡ row.verdict = ap
    (λ (b : Bool). if b then 0 else row.verdict) shown in
    λ i. record row { verdict = verdict i }

pub whole_rows : (hidden : List ℕ → Bool) (x y : Option AnswerRow)
    → ((r : AnswerRow) → x ≡ Some r → hidden r.key.round ≡ false)
    → ((r : AnswerRow) → y ≡ Some r → hidden r.key.round ≡ false) →
    option_map (seen as_is hidden) x ≡ option_map (seen as_is hidden) y → x ≡ y
whole_rows hidden None None p q alike = refl
whole_rows hidden None (Some s) p q alike = let no : None ≡ Some (seen as_is hidden s) = alike in absurd (cc)
whole_rows hidden (Some r) None p q alike = let no : Some (seen as_is hidden r) ≡ None = alike in absurd (cc)
whole_rows hidden (Some r) (Some s) p q alike =
    let both : Some (seen as_is hidden r) ≡ Some (seen as_is hidden s) = alike in
    let same : seen as_is hidden r ≡ seen as_is hidden s = cc in
    ap Some (sym (seen_whole hidden r (p r refl)) ∙ same ∙ seen_whole hidden s (q s refl))

published_shows : (a c : Bool) → (b : Bool) → b ≡ true → (a && (not b && c)) ≡ false
published_shows true c true h = refl
published_shows false c true h = refl
published_shows a c false h = absurd (false≢true h)

pub sealed_verdicts : SealedVerdicts
sealed_verdicts world other new changed t request given answered typed retyped differ caller step also serves
    serves_too =
    let who = entrant_for (caller_of world request.key) caller in
    let first = served world new t request given step serves in
    let second = served other changed t request answered also serves_too in
    let hidden : List ℕ → Bool = hides world t in
    plain_answers hidden world other differ.people differ.rounds differ.places differ.testers typed retyped who.0 who.1
    (record { moment = t; request = request; found = first.0 })
    (record { moment = t; request = request; found = second.0 }) refl refl
    (record {
      own = record {
        answers = λ key own. differ.answers key;
        protests = λ key own. ap (λ (m : FinMap protest_cmp ProtestRow). get m key) differ.protests;
      };
      sealed = λ id round hides kept.
          let all : (is_sealed round.mode && (not round.published && nat_lt t (end_of round))) ≡ true = ap
          (hides_round t) (sym kept) ∙ hides in
          (and_first _ _ all, ltb-true _ _ (and_second _ _ (and_second _ _ all)));
      answers = λ id round kept published key own.
          let shown : hidden id ≡ false = ap (hides_round t) kept
          ∙ published_shows (is_sealed round.mode) (nat_lt t (end_of round)) round.published published in
          whole_rows hidden (get world.answers key) (get other.answers key)
          (λ r at. ap hidden (ap (λ (k : AnswerKey). k.round) (typed.answers key r at) ∙ own) ∙ shown)
          (λ r at. ap hidden (ap (λ (k : AnswerKey). k.round) (retyped.answers key r at) ∙ own) ∙ shown)
          (differ.answers key);
      protests = λ id round kept published key own. ap (λ (m : FinMap protest_cmp ProtestRow). get m key)
          differ.protests;
      puzzles = λ key started. ap (λ m. get m key) differ.puzzles;
      tested = λ key tests. ap (λ m. get m key) differ.puzzles;
    }) who.2 given answered new changed first.1 second.1
