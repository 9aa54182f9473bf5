-- An accepted answer stays accepted, whatever comes between.
use Rattle.std.proofs.Common.{◌≡◌, ◌≢◌, ◌⊎◌, ◌≤◌, inl, inr, ℕ, true, false, List, Option, Some, None, refl, sym, ap}
use Rattle.std.proofs.Common.{◌∙◌, subst, arith, lit<, if◌then◌else◌, suc}
use Rattle.std.proofs.Math.Bool.{and-false}
use Rattle.std.specs.FinMap.{get}
use Rattle.hall_policy.specs.World.{World, place_of, IsTesterOf}
use Rattle.hall_policy.specs.Actions.{number_of, last_rule}
use Rattle.hall_policy.specs.Rules.{HasHandIn}
use Rattle.hall_policy.specs.First.{First, NoneBelow, Forbids, Repeated}
use Rattle.hall_policy.specs.declared.rule.Rule.{Rule}
use Rattle.hall_policy.specs.declared.rule.Rule.TheVariants as rule
use Rattle.hall_policy.specs.declared.rule.Decision.{Decision}
use Rattle.hall_policy.specs.declared.rule.Decision.TheVariants.{Allow, Repeat, Deny}
use Rattle.hall_policy.specs.declared.record.Person.{Person}
use Rattle.hall_policy.specs.declared.record.Mode.{Mode}
use Rattle.hall_policy.specs.declared.record.Round.{Round}
use Rattle.hall_policy.specs.declared.record.PuzzleState.{PuzzleState}
use Rattle.hall_policy.specs.declared.record.AnswerRow.{AnswerRow}
use Rattle.hall_policy.specs.declared.request.Action.TheVariants as action
use Rattle.hall_policy.proofs.Maps.{get-insert_same}
use Rattle.hall_policy.proofs.Orders.{answer_total}
use Rattle.hall_store.specs.Caller.{caller_of}
use Rattle.hall_desk.specs.Shown.{told_verdict, is_sealed}
use Rattle.hall_desk.specs.Step.{Step, Decided, answer_row}
use Rattle.hall_desk.specs.Promises.{IsToldAgain, IsAcceptedNow, IsAcceptedRow, IsRetryOf, AcceptedAnswersStay}
use Rattle.hall_desk.specs.Records.{KeptRecords, StaysReleased}
use Rattle.hall_desk.specs.declared.reply.Reply.{Reply}
use Rattle.hall_desk.specs.declared.reply.Reply.TheVariants as reply
use Rattle.hall_desk.proofs.Tokens.{denied_by, token_decides, repeated_text, first_reply}
use Rattle.hall_desk.proofs.Remaining.{remains_on, still_released, step_remains, records_stay}

-- an accepted answer: no rule before the token's forbade it, and its row stands in the world after it
pub record IsAccepted (world kept : World) (t : ℕ) (caller : Option Person) (id : List ℕ) (number : ℕ)
    (token answer : List ℕ) (given : Reply) : Type 0 where
  pub person : Person
  pub is : caller ≡ Some person
  pub round : Round
  pub found : get world.rounds id ≡ Some round
  pub row : AnswerRow
  pub stands : get kept.answers (record { entrant = person.name; round = id; number = number; token = token }) ≡ Some
      row
  pub text : row.answer ≡ answer
  pub told : given ≡ reply.Submit row.n (told_verdict round row.verdict)
  pub since : (get world.answers (record { entrant = person.name; round = id; number = number; token = token }) ≡ Some
      row) ⊎ IsAcceptedNow world t person.name id number token row
  pub none : NoneBelow 6 world caller (action.Submit id number token answer) t

-- the one rule that repeats a Submit is the token's
pub repeats_at_six : (world : World) (caller : Option Person) (id : List ℕ) (number : ℕ) (token answer : List ℕ)
    (r : Rule) →
    Repeated r world caller (action.Submit id number token answer) → number_of r ≡ 6
repeats_at_six world caller id number token answer rule.TokenTaken h = refl
repeats_at_six world caller id number token answer _ h = absurd h.1

-- an answer is accepted by a step that stores it, or finds it stored
pub accepted : (world kept : World) (t : ℕ) (key : Option (List ℕ)) (id : List ℕ) (number : ℕ) (token answer : List ℕ)
    (n : ℕ) (told : Option ℕ) →
    Step world t (record { key = key; action = action.Submit id number token answer }) (reply.Submit n told) kept →
    IsAccepted world kept t (caller_of world key) id number token answer (reply.Submit n told)
accepted world kept t key id number token answer n told (inl (other, left)) = absurd (cc)
accepted world kept t key id number token answer n told (inr (found, (Deny k, first, (other, left)))) = absurd (cc)
accepted world kept t key id number token answer n told (inr
    (found, (Repeat, (r, repeated, none), ((person, is, (round, row, at, stands, says)), left)))) = record {
      person = person;
      is = is;
      round = round;
      found = at;
      row = row;
      stands = ap (λ (w : World). get w.answers (record {
        entrant = person.name;
        round = id;
        number = number;
        token =
            token;
      })) left ∙ stands;
      text = repeated_text world (caller_of world key) t person id number token answer row is stands r repeated;
      told = says;
      since = inl stands;
      none = subst (λ (m : ℕ). NoneBelow m world (caller_of world key) (action.Submit id number token answer) t)
          (repeats_at_six world (caller_of world key) id number token answer r repeated) none;
    }
accepted world kept t key id number token answer n told (inr
    (found, (Allow, none, (person, is, (round, entry, puzzle, verdict, at, place, grid, judged, (says, made)))))) =
    let row : AnswerRow = answer_row world person id number token answer t verdict in
    record {
      person = person;
      is = is;
      round = round;
      found = at;
      row = row;
      stands = ap (λ (w : World). get w.answers row.key) made ∙ get-insert_same answer_total world.answers row.key row;
      text = refl;
      told = says;
      since = inr (record {
        fresh = elim (get world.answers row.key) as (λ o. get world.answers row.key ≡ o → o ≡ None) [
          | None ↦ λ e. refl
          | Some old ↦ λ e. absurd (token_decides world (caller_of world key) t person id number token answer old is e
              (suc last_rule) none (lit< tt))
        ] refl;
        moment = refl;
        verdict = (entry, puzzle, place, grid, judged);
      });
      none = λ r few. none r (omega arith);
    }

-- who made the accepted answer is still the caller
pub same_caller : (world later : World) (key : Option (List ℕ)) (person : Person) → KeptRecords world later
    → caller_of world key ≡ Some person → caller_of later key ≡ caller_of world key
same_caller world later key person remains is = remains.callers key person is ∙ sym is

-- the verdict that is told depends on the round's mode alone
pub same_told : (a b : Round) (verdict : ℕ) → a.mode ≡ b.mode → told_verdict a verdict ≡ told_verdict b verdict
same_told a b verdict same = ap (λ (m : Mode). if is_sealed m then None else Some verdict) same

-- who has a hand in a round that stays had it before
pub hand_before : (world later : World) (id : List ℕ) (round : Round) (name : List ℕ) →
    get world.rounds id ≡ Some round → StaysReleased world later id round →
    HasHandIn later (Some id) name → HasHandIn world (Some id) name
hand_before world later id round name found stays (inl (q, r, entry, named, at, (place, lists), own)) =
    let one : id ≡ q = cc in
    let listed = sym (stays.places place) ∙ subst (λ (x : List ℕ). place_of later x place ≡ Some entry) (sym one)
    lists in
    inl (id, round, entry, refl, found, (place, listed), own)
hand_before world later id round name found stays (inr (q, r, named, at, tests)) =
    let one : id ≡ q = cc in
    let tested = (stays.testers name).0 (subst (λ (x : List ℕ). IsTesterOf later x name) (sym one) tests) in
    inr (id, round, refl, found, tested)

module _ (world later : World) (remains : KeptRecords world later) (caller : Option Person) (t u : ℕ) (id : List ℕ)
    (number : ℕ) (token answer again : List ℕ)
    (round : Round) (found : get world.rounds id ≡ Some round)
    (none : NoneBelow 6 world caller (action.Submit id number token answer) t) where
  -- the answer's round was released, since a draft is missing for a Submit
  pub was_released : round.released ≡ true
  was_released = elim round.released as (λ b. round.released ≡ b → b ≡ true) [
    | true ↦ λ e. refl
    | false ↦ λ e. absurd ((none rule.Missing (lit< tt)).0 (
      (2, lit< tt, refl),
      inl (λ r other.
          let both : Some round ≡ Some r = sym found ∙ other in
          let same : round ≡ r = cc in
          (subst (λ (x : Round). x.released ≡ false) same e, and-false _)),
    ))
  ] refl

  -- a rule before the token's that forbids the retry had forbidden the answer
  forbade : (r : Rule) → number_of r ≤ 5 → Forbids r later caller (action.Submit id number token again) u
      → Forbids r world caller (action.Submit id number token answer) t
  forbade rule.UnknownKey few h = h
  forbade rule.NoRole few h = h
  forbade rule.OtherAuthor few h = h
  forbade rule.Missing few (asked, inl missing) =
      let now = remains.rounds id round found was_released in
      let no : true ≡ false = sym (still_released world later id round now was_released)
      ∙ (missing now.after now.found).0 in
      absurd (cc)
  forbade rule.Missing few (asked, inr gone) = (
    asked,
    inr (sym
        ((remains.rounds id round found was_released).places number) ∙ gone),
  )
  forbade rule.OwnPuzzle few (asked, (free, (person, is, (entrant, hand)))) =
      let stays = remains.rounds id round found was_released in
      (asked, (free, (person, is, (entrant, hand_before world later id round person.name found stays hand))))
  forbade _ few h = absurd (omega arith)

  -- so no rule before the token's forbids the retry
  pub none_forbids : (r : Rule) → number_of r ≤ 5 → ¬ (Forbids r later caller (action.Submit id number token again) u)
  none_forbids r few h = (none r (omega arith)).0 (forbade r few h)

  module _ (person : Person) (is : caller ≡ Some person) (row : AnswerRow)
      (stands : get later.answers (record { entrant = person.name; round = id; number = number; token = token }) ≡ Some
      row)
      (text : row.answer ≡ answer) (first : Reply) (told : first ≡ reply.Submit row.n (told_verdict round row.verdict))
    where
      -- the first reply is told again: the row and its round's mode are the same
      told_again : (given : Reply) → IsToldAgain later id row again given → (again ≡ answer) × (given ≡ first)
      told_again given h =
          let now = remains.rounds id round found was_released in
          let both : Some h.round ≡ Some now.after = sym h.kept ∙ now.found in
          let one : h.round ≡ now.after = cc in
          let mode : h.round.mode ≡ round.mode = ap (λ (x : Round). x.mode) (one ∙ now.same) in (
            sym h.same_answer ∙ text,
            h.told ∙ ap (reply.Submit row.n) (same_told h.round round row.verdict mode)
                ∙ sym told,
          )

      -- a denial of the retry is that of the token's rule, for another text
      denied_again : (r : Rule) (k : ℕ) (given : Reply) → number_of r ≡ k
          → Forbids r later caller (action.Submit id number token again) u →
          NoneBelow k later caller (action.Submit id number token again) u → given ≡ reply.Denied k → (again ≢ answer)
          × (given ≡ reply.Denied 6)
      denied_again r k given own forbids before says = elim (denied_by later caller u person id number token again row
          is
          stands r k own forbids before) [
            | inl few ↦ absurd (none_forbids r few forbids)
            | inr (six, other) ↦ (λ same. other (text ∙ sym same), says ∙ ap reply.Denied six)
          ]

      -- the retry is answered as one, and changes nothing
      retried : (state : PuzzleState) (given : Reply) (new : World) (decision : Decision)
          → First later caller (action.Submit id number token again) u decision →
          Decided decision later caller (action.Submit id number token again) u state given new → (new ≡ later)
          × IsRetryOf answer again first given
      retried state given new (Deny k) (r, own, forbids, before) (says, left) =
          (left, inr (inl (denied_again r k given own forbids before says)))
      retried state given new Repeat (r, repeated, before) (says, left) = (
        left,
        inr (inr (told_again given (first_reply later caller u person id number token again row is stands given
            (repeated_text later caller u person id number token again row is stands r repeated) says))),
      )
      retried state given new Allow before decided = absurd (token_decides later caller u person id number token again
          row
          is stands (suc last_rule) before (lit< tt))

-- a retry of an accepted answer changes nothing, and is answered as one
answers_stay : (world kept later : World) (t : ℕ) (key : Option (List ℕ)) (id : List ℕ) (number : ℕ)
    (token answer : List ℕ) (n : ℕ) (told : Option ℕ) →
    Step world t (record { key = key; action = action.Submit id number token answer }) (reply.Submit n told) kept
    → KeptRecords kept later →
    (u : ℕ) (again : List ℕ) (given : Reply) (new : World) → Step later u
    (record { key = key; action = action.Submit id number token again }) given new →
    (new ≡ later) × IsRetryOf answer again (reply.Submit n told) given
answers_stay world kept later t key id number token answer n told first between u again given new (inl (says, left)) =
    (left, inl says)
answers_stay world kept later t key id number token answer n told first between u again given new
    (inr (found, (decision, decides, decided))) =
    let h = accepted world kept t key id number token answer n told first in
    let remains : KeptRecords world later = remains_on world kept later
    (step_remains world t (record { key = key; action = action.Submit id number token answer })
    (reply.Submit n told) kept first) between in
    let same : caller_of later key ≡ caller_of world key = same_caller world later key h.person remains h.is in
    retried world later remains (caller_of later key) t u id number token answer again h.round h.found
    (subst (λ (c : Option Person). NoneBelow 6 world c (action.Submit id number token answer) t) (sym same) h.none)
    h.person (same ∙ h.is) h.row (between.answers _ h.row h.stands) h.text (reply.Submit n told) h.told found given new
    decision decides decided

-- an accepted answer stays accepted
pub accepted_answers_stay : AcceptedAnswersStay
accepted_answers_stay world kept later t key id number token answer n told events first life =
    let h = accepted world kept t key id number token answer n told first in
    let between : KeptRecords kept later = records_stay kept later events life in
    let accepted_row : IsAcceptedRow world t h.person.name id number token answer (reply.Submit n told) h.row = record {
      told = record { round = h.round; kept = h.found; same_answer = h.text; told = h.told };
      since = h.since;
    } in (
      (
        h.person,
        h.row,
        h.is,
        accepted_row,
        between.answers (record
            { entrant = h.person.name; round = id; number = number; token = token }) h.row h.stands,
      ),
      answers_stay world kept later t key id number token answer n told first between,
    )
