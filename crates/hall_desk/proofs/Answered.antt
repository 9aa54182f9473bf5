-- The retry of an accepted answer has its answer in every later world.
use Rattle.std.proofs.Common.{◌≡◌, ◌≢◌, inr, ℕ, List, Option, Some, refl, sym, ap, ◌∙◌, subst, arith, lit<}
use Rattle.std.specs.FinMap.{get}
use Rattle.hall_policy.specs.World.{World}
use Rattle.hall_policy.specs.First.{First, NoneBelow}
use Rattle.hall_policy.specs.declared.rule.Rule.TheVariants as rule
use Rattle.hall_policy.specs.declared.rule.Decision.TheVariants.{Repeat, Deny}
use Rattle.hall_policy.specs.declared.record.Person.{Person}
use Rattle.hall_policy.specs.declared.record.Round.{Round}
use Rattle.hall_policy.specs.declared.record.PuzzleState.TheVariants as state
use Rattle.hall_policy.specs.declared.record.AnswerRow.{AnswerRow}
use Rattle.hall_policy.specs.declared.request.Action.TheVariants as action
use Rattle.hall_store.specs.Caller.{caller_of}
use Rattle.hall_desk.specs.Shown.{told_verdict}
use Rattle.hall_desk.specs.Step.{Step, FirstReply}
use Rattle.hall_desk.specs.Promises.{RetriesAreAnswered}
use Rattle.hall_desk.specs.Records.{KeptRecords}
use Rattle.hall_desk.specs.declared.reply.Reply.{Reply}
use Rattle.hall_desk.specs.declared.reply.Reply.TheVariants as reply
use Rattle.hall_desk.proofs.Tokens.{same_text_stands}
use Rattle.hall_desk.proofs.Remaining.{remains_on, step_remains, records_stay}
use Rattle.hall_desk.proofs.Retries.{repeats_at_six, accepted, same_caller, same_told, was_released, none_forbids}

module _ (world later : World) (remains : KeptRecords world later) (t u : ℕ) (key : Option (List ℕ)) (id : List ℕ)
    (number : ℕ) (token answer again : List ℕ)
    (round : Round) (found : get world.rounds id ≡ Some round)
    (none : NoneBelow 6 world (caller_of later key) (action.Submit id number token answer) t)
    (person : Person) (is : caller_of later key ≡ Some person) (row : AnswerRow)
    (stands : get later.answers (record { entrant = person.name; round = id; number = number; token = token }) ≡ Some
    row)
    (text : row.answer ≡ answer) where
  -- no rule before the token's decides on the retry
  none_before : NoneBelow 6 later (caller_of later key) (action.Submit id number token again) u
  none_before r few = (
    none_forbids world later remains (caller_of later key) t u id number token answer again round found none r
        (omega arith),
    λ repeated. let six = repeats_at_six later (caller_of later key) id number token again r repeated in omega arith,
  )

  -- with the same text it is a repetition
  repeats : answer ≡ again → First later (caller_of later key) (action.Submit id number token again) u Repeat
  repeats same = (rule.TokenTaken, ((4, lit< tt, refl), (person, is, (row, stands, text ∙ same))), none_before)

  -- with another text the token's rule denies it
  denies : answer ≢ again → First later (caller_of later key) (action.Submit id number token again) u (Deny 6)
  denies other = (
    rule.TokenTaken,
    refl,
    (
      (4, lit< tt, refl),
      (
        (person, is, (row, stands)),
        λ same. other
            (sym text ∙ same_text_stands later (caller_of later key) u person id number token again row is stands same),
      ),
    ),
    none_before,
  )

  module _ (first : Reply) (told : first ≡ reply.Submit row.n (told_verdict round row.verdict)) where
    -- the first reply is still that of the row: its round's mode is the same
    replies_again : FirstReply later (caller_of later key) (action.Submit id number token again) first
    replies_again =
        let now = remains.rounds id round found (was_released world later remains (caller_of later key) t u id number
        token answer again round found none) in (
          person,
          is,
          (
            now.after,
            row,
            now.found,
            stands,
            told
                ∙ ap (reply.Submit row.n) (same_told round now.after row.verdict
                (ap (λ (x : Round). x.mode) (sym now.same))),
          ),
        )

    -- so there is a step that answers it
    answers_again : (answer ≡ again → Step later u (record { key = key; action = action.Submit id number token again })
        first later)
        × (answer ≢ again → Step later u (record { key = key; action = action.Submit id number token again })
        (reply.Denied 6) later)
    answers_again = (
      λ same. inr (state.New, (Repeat, repeats same, (replies_again, refl))),
      λ other. inr
          (state.New, (Deny 6, denies other, (refl, refl))),
    )

-- the retry of an accepted answer has its answer
pub retries_are_answered : RetriesAreAnswered
retries_are_answered world kept later t u key id number token answer again n told events first life =
    let h = accepted world kept t key id number token answer n told first in
    let between : KeptRecords kept later = records_stay kept later events life in
    let remains : KeptRecords world later = remains_on world kept later
    (step_remains world t (record { key = key; action = action.Submit id number token answer })
    (reply.Submit n told) kept first) between in
    let same : caller_of later key ≡ caller_of world key = same_caller world later key h.person remains h.is in
    answers_again world later remains t u key id number token answer again h.round h.found
    (subst (λ (c : Option Person). NoneBelow 6 world c (action.Submit id number token answer) t) (sym same) h.none)
    h.person (same ∙ h.is) h.row (between.answers _ h.row h.stands) h.text (reply.Submit n told) h.told
