-- An accepted protest stays accepted, whatever comes between.
use Rattle.std.proofs.Common.{◌≡◌, ◌≢◌, ◌⊎◌, ◌≤◌, inl, inr, ℕ, true, false, List, Option, Some, None, refl, sym, ap}
use Rattle.std.proofs.Common.{◌∙◌, subst, arith, lit<, suc}
use Rattle.std.proofs.Math.Bool.{and-false}
use Rattle.std.specs.FinMap.{get}
use Rattle.hall_policy.specs.World.{World, place_of, protest_of}
use Rattle.hall_policy.specs.Actions.{number_of, last_rule}
use Rattle.hall_policy.specs.First.{First, NoneBelow, Forbids, Repeated}
use Rattle.hall_policy.specs.declared.rule.Rule.{Rule}
use Rattle.hall_policy.specs.declared.rule.Rule.TheVariants as rule
use Rattle.hall_policy.specs.declared.rule.Decision.{Decision}
use Rattle.hall_policy.specs.declared.rule.Decision.TheVariants.{Allow, Repeat, Deny}
use Rattle.hall_policy.specs.declared.record.Person.{Person}
use Rattle.hall_policy.specs.declared.record.Round.{Round}
use Rattle.hall_policy.specs.declared.record.PuzzleState.{PuzzleState}
use Rattle.hall_policy.specs.declared.record.ProtestRow.{ProtestRow}
use Rattle.hall_policy.specs.declared.request.Action.TheVariants as action
use Rattle.hall_policy.proofs.Maps.{get-insert_same}
use Rattle.hall_policy.proofs.Orders.{protest_total}
use Rattle.hall_store.specs.Caller.{caller_of}
use Rattle.hall_desk.specs.Lookups.{IsReleasedRound}
use Rattle.hall_desk.specs.Step.{Step, Decided, open_protest}
use Rattle.hall_desk.specs.ProtestPromises.{IsProtestRetryOf, AcceptedProtestsStay}
use Rattle.hall_desk.specs.Records.{KeptRecords, StaysReleased}
use Rattle.hall_desk.specs.declared.reply.Reply.{Reply}
use Rattle.hall_desk.specs.declared.reply.Reply.TheVariants as reply
use Rattle.hall_desk.proofs.ProtestTokens.{denied_by, token_decides, repeated_protest}
use Rattle.hall_desk.proofs.Remaining.{remains_on, still_released, step_remains, records_stay}
use Rattle.hall_desk.proofs.Retries.{same_caller, hand_before}

-- an accepted protest: no rule before the token's forbade it, and its row stands in the world after it
pub record IsAcceptedProtest (world kept : World) (t : ℕ) (caller : Option Person) (id token : List ℕ) (number : ℕ)
    (text : List ℕ) : Type 0 where
  pub person : Person
  pub is : caller ≡ Some person
  pub row : ProtestRow
  pub stands : protest_of kept person.name id token ≡ Some row
  pub same_number : row.number ≡ number
  pub same_text : row.text ≡ text
  pub none : NoneBelow 6 world caller (action.Protest id token number text) t

-- the one rule that repeats a Protest is the token's
pub repeats_at_six : (world : World) (caller : Option Person) (id token : List ℕ) (number : ℕ) (text : List ℕ)
    (r : Rule) →
    Repeated r world caller (action.Protest id token number text) → number_of r ≡ 6
repeats_at_six world caller id token number text rule.TokenTaken h = refl
repeats_at_six world caller id token number text _ h = absurd h.1

-- a protest is accepted by a step that stores it, or finds it stored
pub accepted : (world kept : World) (t : ℕ) (key : Option (List ℕ)) (id token : List ℕ) (number : ℕ) (text : List ℕ) →
    Step world t (record { key = key; action = action.Protest id token number text }) (reply.Protest token) kept →
    IsAcceptedProtest world kept t (caller_of world key) id token number text
accepted world kept t key id token number text (inl (other, left)) = absurd (cc)
accepted world kept t key id token number text (inr (found, (Deny k, first, (other, left)))) = absurd (cc)
accepted world kept t key id token number text (inr (
  found,
  (
    Repeat,
    (r, repeated, none),
    ((person, is, (row, stands, says)), left),
  ),
)) =
    let same = repeated_protest world (caller_of world key) t person id token number text row is stands r repeated in
    record {
      person = person;
      is = is;
      row = row;
      stands = ap (λ (w : World). protest_of w person.name id token) left ∙ stands;
      same_number = same.0;
      same_text = same.1;
      none = subst (λ (m : ℕ). NoneBelow m world (caller_of world key) (action.Protest id token number text) t)
          (repeats_at_six world (caller_of world key) id token number text r repeated) none;
    }
accepted world kept t key id token number text (inr (found, (Allow, none, (person, is, (says, made))))) =
    let row : ProtestRow = open_protest person id token number text in
    record {
      person = person;
      is = is;
      row = row;
      stands = ap (λ (w : World). get w.protests row.key) made ∙ get-insert_same protest_total world.protests row.key
          row;
      same_number = refl;
      same_text = refl;
      none = λ r few. none r (omega arith);
    }

module _ (world later : World) (remains : KeptRecords world later) (caller : Option Person) (t u : ℕ)
    (id token : List ℕ) (number : ℕ) (text : List ℕ)
    (again_number : ℕ) (again_text : List ℕ) (none : NoneBelow 6 world caller (action.Protest id token number text) t)
  where
    -- the protest's round was released, since a draft, and a round that isn't there, is missing for a Protest
    was_released : IsReleasedRound world id
    was_released = elim (get world.rounds id) as (λ (o : Option Round). get world.rounds id ≡ o
        → IsReleasedRound world id) [
          | None ↦ λ gone. absurd ((none rule.Missing (lit< tt)).0 (
            (2, lit< tt, refl),
            inl (λ r other. absurd (let no : None ≡ Some r = sym gone ∙ other in cc)),
          ))
          | Some round ↦ λ found. (
            round,
            found,
            elim round.released as (λ b. round.released ≡ b → b ≡ true) [
              | true ↦ λ e. refl
              | false ↦ λ e. absurd ((none rule.Missing (lit< tt)).0 (
                (2, lit< tt, refl),
                inl (λ r other.
                    let both : Some round ≡ Some r = sym found ∙ other in
                    let same : round ≡ r = cc in
                    (subst (λ (x : Round). x.released ≡ false) same e, and-false _)),
              ))
            ] refl,
          )
        ] refl

    -- so it stays
    round_stays : StaysReleased world later id was_released.0
    round_stays = remains.rounds id was_released.0 was_released.1 was_released.2

    -- with the protest's number
    number_stays : place_of later id number ≢ None
    number_stays gone = (none rule.Missing (lit< tt)).0 (
      (2, lit< tt, refl),
      inr
          (sym (round_stays.places number) ∙ gone),
    )

    -- a number that is missing is another one
    pub missing_is_other : place_of later id again_number ≡ None → number ≢ again_number
    missing_is_other gone same = number_stays (subst (λ (n : ℕ). place_of later id n ≡ None) (sym same) gone)

    -- a rule before the token's that forbids the retry had forbidden the protest, or its number is missing
    forbade : (r : Rule) → number_of r ≤ 5 → Forbids r later caller (action.Protest id token again_number again_text) u
        →
        Forbids r world caller (action.Protest id token number text) t
        ⊎ ((number_of r ≡ 4) × (place_of later id again_number ≡ None))
    forbade rule.UnknownKey few h = inl h
    forbade rule.NoRole few h = inl h
    forbade rule.OtherAuthor few h = inl h
    forbade rule.Missing few (asked, inl missing) =
        let no : true ≡ false = sym (still_released world later id was_released.0 round_stays was_released.2)
        ∙ (missing round_stays.after round_stays.found).0 in
        absurd (cc)
    forbade rule.Missing few (asked, inr gone) = inr (refl, gone)
    forbade rule.OwnPuzzle few (asked, (free, (person, is, (entrant, hand)))) =
        let had = hand_before world later id was_released.0 person.name was_released.1 round_stays hand in
        inl (asked, (free, (person, is, (entrant, had))))
    forbade _ few h = absurd (omega arith)

    -- so a rule before the token's forbids the retry only where its number is missing
    pub forbids_missing : (r : Rule) → number_of r ≤ 5 → Forbids r later caller
        (action.Protest id token again_number again_text) u →
        (number_of r ≡ 4) × (place_of later id again_number ≡ None)
    forbids_missing r few h = elim (forbade r few h) [
      | inl before ↦ absurd ((none r (omega arith)).0 before)
      | inr missing ↦ missing
    ]

    module _ (person : Person) (is : caller ≡ Some person) (row : ProtestRow)
        (stands : protest_of later person.name id token ≡ Some row)
        (same_number : row.number ≡ number) (same_text : row.text ≡ text) where
      -- a denial of the retry is that of a missing number, or of the token's rule for another number or text
      denied_again : (r : Rule) (k : ℕ) (given : Reply) → number_of r ≡ k
          → Forbids r later caller (action.Protest id token again_number again_text) u →
          NoneBelow k later caller (action.Protest id token again_number again_text) u → given ≡ reply.Denied k →
          IsProtestRetryOf later id token number text again_number again_text given
      denied_again r k given own forbids before says = elim (denied_by later caller u person id token again_number
          again_text row is stands r k own forbids before) [
            | inl few ↦
                let missing = forbids_missing r few forbids in
                inr (inl (says ∙ ap reply.Denied (sym own ∙ missing.0), missing_is_other missing.1, missing.1))
            | inr (six, other) ↦ inr (inr (inl (
              says ∙ ap reply.Denied six,
              λ same. other (same_number ∙ same.0, same_text ∙ same.1),
              λ gone. (before rule.Missing (omega (arith, six))).0 ((2, lit< tt, refl), inr gone),
            )))
          ]

      -- the retry is answered as one, and changes nothing
      retried : (state : PuzzleState) (given : Reply) (new : World) (decision : Decision)
          → First later caller (action.Protest id token again_number again_text) u decision →
          Decided decision later caller (action.Protest id token again_number again_text) u state given new →
          (new ≡ later) × IsProtestRetryOf later id token number text again_number again_text given
      retried state given new (Deny k) (r, own, forbids, before) (says, left) =
          (left, denied_again r k given own forbids before says)
      retried state given new Repeat (r, repeated, before) ((other, also, (found, at, says)), left) =
          let same = repeated_protest later caller u person id token again_number again_text row is stands r repeated in
          (left, inr (inr (inr (says, (sym same_number ∙ same.0, sym same_text ∙ same.1)))))
      retried state given new Allow before decided = absurd (token_decides later caller u person id token again_number
          again_text row is stands (suc last_rule) before (lit< tt))

-- a retry of an accepted protest changes nothing, and is answered as one
protests_stay : (world kept later : World) (t : ℕ) (key : Option (List ℕ)) (id token : List ℕ) (number : ℕ)
    (text : List ℕ) →
    Step world t (record { key = key; action = action.Protest id token number text }) (reply.Protest token) kept
    → KeptRecords kept later →
    (u again_number : ℕ) (again_text : List ℕ) (given : Reply) (new : World) →
    Step later u (record { key = key; action = action.Protest id token again_number again_text }) given new →
    (new ≡ later) × IsProtestRetryOf later id token number text again_number again_text given
protests_stay world kept later t key id token number text first between u again_number again_text given new
    (inl (says, left)) = (left, inl says)
protests_stay world kept later t key id token number text first between u again_number again_text given new
    (inr (found, (decision, decides, decided))) =
    let h = accepted world kept t key id token number text first in
    let remains : KeptRecords world later = remains_on world kept later
    (step_remains world t (record { key = key; action = action.Protest id token number text }) (reply.Protest token)
    kept first) between in
    let same : caller_of later key ≡ caller_of world key = same_caller world later key h.person remains h.is in
    let stays = between.protests (record { entrant = h.person.name; round = id; token = token }) h.row h.stands in
    retried world later remains (caller_of later key) t u id token number text again_number again_text
    (subst (λ (c : Option Person). NoneBelow 6 world c (action.Protest id token number text) t) (sym same) h.none)
    h.person (same ∙ h.is) stays.after stays.found (ap (λ (r : ProtestRow). r.number) stays.same ∙ h.same_number)
    (ap (λ (r : ProtestRow). r.text) stays.same ∙ h.same_text) found given new decision decides decided

-- an accepted protest stays accepted
pub accepted_protests_stay : AcceptedProtestsStay
accepted_protests_stay world kept later t key id token number text events first life =
    let h = accepted world kept t key id token number text first in
    let between : KeptRecords kept later = records_stay kept later events life in
    let stays = between.protests (record { entrant = h.person.name; round = id; token = token }) h.row h.stands in (
      (
        h.person,
        stays.after,
        h.is,
        stays.found,
        (
          ap (λ (r : ProtestRow). r.number) stays.same
              ∙ h.same_number,
          ap (λ (r : ProtestRow). r.text) stays.same ∙ h.same_text,
        ),
      ),
      protests_stay world kept later t key id token number text first between,
    )
