-- The retry of an accepted protest has its answer in every later world.
use Rattle.std.proofs.Common.{◌≡◌, ◌≢◌, inr, ℕ, List, Option, Some, None, refl, sym, ap, ◌∙◌, subst, arith, lit<}
use Rattle.hall_policy.specs.World.{World, place_of, protest_of}
use Rattle.hall_policy.specs.First.{First, NoneBelow}
use Rattle.hall_policy.specs.declared.rule.Rule.TheVariants as rule
use Rattle.hall_policy.specs.declared.rule.Decision.TheVariants.{Repeat, Deny}
use Rattle.hall_policy.specs.declared.record.Person.{Person}
use Rattle.hall_policy.specs.declared.record.PuzzleState.TheVariants as state
use Rattle.hall_policy.specs.declared.record.ProtestRow.{ProtestRow}
use Rattle.hall_policy.specs.declared.request.Action.TheVariants as action
use Rattle.hall_policy.specs.declared.request.Request.{Request}
use Rattle.hall_store.specs.Caller.{caller_of}
use Rattle.hall_desk.specs.Step.{Step}
use Rattle.hall_desk.specs.ProtestPromises.{IsAgain, ProtestRetriesAreAnswered}
use Rattle.hall_desk.specs.Records.{KeptRecords}
use Rattle.hall_desk.specs.declared.reply.Reply.TheVariants as reply
use Rattle.hall_desk.proofs.ProtestTokens.{same_protest_stands}
use Rattle.hall_desk.proofs.Remaining.{remains_on, step_remains, records_stay}
use Rattle.hall_desk.proofs.Retries.{same_caller}
use Rattle.hall_desk.proofs.ProtestRetries.{repeats_at_six, accepted, missing_is_other, forbids_missing}

module _ (world later : World) (remains : KeptRecords world later) (t u : ℕ) (key : Option (List ℕ)) (id token : List ℕ)
    (number : ℕ) (text : List ℕ)
    (again_number : ℕ) (again_text : List ℕ) (none : NoneBelow 6 world (caller_of later key)
    (action.Protest id token number text) t)
    (person : Person) (is : caller_of later key ≡ Some person) (row : ProtestRow)
    (stands : protest_of later person.name id token ≡ Some row)
    (same_number : row.number ≡ number) (same_text : row.text ≡ text) where
  -- where the number isn't missing, no rule before the token's decides on the retry
  none_before : place_of later id again_number ≢ None → NoneBelow 6 later (caller_of later key)
      (action.Protest id token again_number again_text) u
  none_before there r few = (
    λ forbids. there (forbids_missing world later remains (caller_of later key) t u id token number text again_number
        again_text none r (omega arith) forbids).1,
    λ repeated. let six = repeats_at_six later (caller_of later key) id token again_number again_text r repeated in
        omega arith,
  )

  -- with the same number and text it is a repetition
  repeats : IsAgain number text again_number again_text → First later (caller_of later key)
      (action.Protest id token again_number again_text) u Repeat
  repeats same = (
    rule.TokenTaken,
    ((4, lit< tt, refl), (person, is, (row, stands, same_number ∙ same.0, same_text ∙ same.1))),
    none_before (λ gone. missing_is_other world later remains (caller_of later key) t u id token number text
        again_number again_text none gone same.0),
  )

  -- with a number that is missing the rule on what isn't there denies it
  denies_missing : place_of later id again_number ≡ None → First later (caller_of later key)
      (action.Protest id token again_number again_text) u (Deny 4)
  denies_missing gone = (
    rule.Missing,
    refl,
    ((2, lit< tt, refl), inr gone),
    λ r few. (
      λ forbids. let four = (forbids_missing world later remains (caller_of later key) t u id token number text
          again_number again_text none r (omega arith) forbids).0 in omega arith,
      λ repeated. let six = repeats_at_six later (caller_of later key) id token again_number again_text r repeated in
          omega arith,
    ),
  )

  -- with another number or text the token's rule denies it
  denies : ¬ (IsAgain number text again_number again_text) → place_of later id again_number ≢ None →
      First later (caller_of later key) (action.Protest id token again_number again_text) u (Deny 6)
  denies other there = (
    rule.TokenTaken,
    refl,
    (
      (4, lit< tt, refl),
      (
        (person, is, (row, stands)),
        λ same.
            let one = same_protest_stands later (caller_of later key) u person id token again_number again_text row is
            stands same in
            other (sym same_number ∙ one.0, sym same_text ∙ one.1),
      ),
    ),
    none_before there,
  )

  -- so there is a step that answers it
  answers_again : let again : Request = record {
    key = key;
    action = action.Protest id token again_number
        again_text;
  } in
      (IsAgain number text again_number again_text → Step later u again (reply.Protest token) later)
      × (place_of later id again_number ≡ None → Step later u again (reply.Denied 4) later)
      × (¬ (IsAgain number text again_number again_text) → place_of later id again_number ≢ None
      → Step later u again (reply.Denied 6) later)
  answers_again = (
    λ same. inr (state.New, (Repeat, repeats same, ((person, is, (row, stands, refl)), refl))),
    λ gone. inr (state.New, (Deny 4, denies_missing gone, (refl, refl))),
    λ other there. inr (state.New, (Deny 6, denies other there, (refl, refl))),
  )

-- the retry of an accepted protest has its answer
pub protest_retries_are_answered : ProtestRetriesAreAnswered
protest_retries_are_answered world kept later t u key id token number text again_number again_text events first life =
    let h = accepted world kept t key id token number text first in
    let between : KeptRecords kept later = records_stay kept later events life in
    let remains : KeptRecords world later = remains_on world kept later
    (step_remains world t (record { key = key; action = action.Protest id token number text }) (reply.Protest token)
    kept first) between in
    let same : caller_of later key ≡ caller_of world key = same_caller world later key h.person remains h.is in
    let stays = between.protests (record { entrant = h.person.name; round = id; token = token }) h.row h.stands in
    answers_again world later remains t u key id token number text again_number again_text
    (subst (λ (c : Option Person). NoneBelow 6 world c (action.Protest id token number text) t) (sym same) h.none)
    h.person (same ∙ h.is) stays.after stays.found (ap (λ (r : ProtestRow). r.number) stays.same ∙ h.same_number)
    (ap (λ (r : ProtestRow). r.text) stays.same ∙ h.same_text)
