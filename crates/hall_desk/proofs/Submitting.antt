-- An answer that is judged, numbered and stored.
use Rattle.std.proofs.Common.{◌≡◌, ◌+◌, ℕ, Option, Some, None, refl, sym, ap, ◌∙◌, subst, arith}
use Rattle.std.specs.FinMap.{insert}
use Rattle.hall_policy.specs.World.{World, IsRoundAt}
use Rattle.hall_policy.specs.Rules.{answers_given}
use Rattle.hall_policy.specs.Facts.{AreTrue, IsRoundFound}
use Rattle.hall_policy.specs.declared.facts.Facts.{Facts}
use Rattle.hall_policy.specs.declared.record.Person.{Person}
use Rattle.hall_policy.specs.declared.record.PuzzleState.TheVariants as state
use Rattle.hall_policy.specs.declared.record.RoundRow.{RoundRow}
use Rattle.hall_store.specs.Store.{IsNumberTaken}
use Rattle.hall_store.specs.Change.{changed, CanMake, CanAddAnswer}
use Rattle.hall_store.specs.declared.change.Change.{Change}
use Rattle.hall_store.specs.declared.change.Change.TheVariants.{AddAnswer}
use Rattle.hall_desk.specs.Lookups.{IsThere}
use Rattle.hall_desk.specs.Handler.{submit_action, submitted_key, submitted_row}
use Rattle.hall_desk.specs.Plans.{IsChangeOf, IsMadePlan, IsJudgedAt}
use Rattle.hall_desk.specs.Sane.{Sane}
use Rattle.hall_desk.specs.Shown.{told_verdict}
use Rattle.hall_desk.specs.declared.plan.Plan.{Plan}
use Rattle.hall_desk.specs.declared.reply.Reply.TheVariants as reply
use Rattle.hall_desk.specs.declared.submit.Submit.{Submit}

module _ (world : World) (facts : Facts) (asked : Submit) (person : Person) (n : ℕ)
    (caller : facts.caller ≡ Some person)
    (told : AreTrue facts world (submit_action asked)) (numbered : n ≡ facts.count + 1) where
  -- the number is the one after those that were given
  next_number : n ≡ answers_given world person.name asked.round.now asked.number + 1
  next_number = numbered ∙ ap (λ (m : ℕ). m + 1) (told.1.1.1.1.1.1.1.1.0 person caller)

  -- in a sane world no answer has the number yet
  pub number_free : Sane world → ¬ (IsNumberTaken world person.name asked.round.now asked.number n)
  number_free sane (token, row, found, same) =
      let at_most = (sane.numbered (record {
        entrant = person.name;
        round = asked.round.now;
        number = asked.number;
        token = token;
      }) row found).1 in
      omega (arith, at_most, same, next_number)

  module _ (t verdict : ℕ) (row : RoundRow) (plan : Plan) (round : facts.round ≡ Some row) where
    -- the answer's row may be stored, and makes the plan
    pub submitted : facts.answer ≡ None → IsThere world facts.caller
        → IsJudgedAt world row asked.number asked.answer.now verdict →
        ¬ (IsNumberTaken world person.name asked.round.now asked.number n) →
        plan.reply ≡ reply.Submit n (told_verdict row.round verdict)
        → plan.change ≡ AddAnswer (submitted_row person asked n t verdict) →
        IsMadePlan world facts.caller (submit_action asked) t plan
    submitted fresh there (entry, puzzle, listed, kept, judged) free replied changes =
        let id = asked.round.now in
        let at : IsRoundAt world id row = subst (λ (found : Option RoundRow). IsRoundFound world (Some id) found) round
        told.1.1.0 in
        let place = at.list asked.number ∙ listed in
        let given : CanAddAnswer world (submitted_row person asked n t verdict) = record {
          fresh = sym (told.1.1.1.1.0.0 person caller) ∙ fresh;
          entrant = (person, subst (λ (who : Option Person). IsThere world who) caller there);
          place = (entry, place);
          next = λ token other found same. free (token, other, found, same);
        } in
        record {
          found = state.New;
          allowed = (
            person,
            caller,
            (
              row.round,
              entry,
              puzzle,
              verdict,
              at.head,
              place,
              kept,
              judged,
              (
                replied ∙ ap (λ (m : ℕ). reply.Submit m (told_verdict row.round verdict)) next_number,
                ap (λ (change : Change). changed change world) changes
                    ∙ ap (λ (m : ℕ). record world {
                      answers = insert world.answers (submitted_key person asked)
                          (submitted_row person asked m t verdict);
                    }) next_number,
              ),
            ),
          );
          can = subst (λ (change : Change). CanMake change world) (sym changes) given;
          quiet = λ nothing. absurd nothing;
          made = (subst (λ (change : Change). IsChangeOf change (submit_action asked)) (sym changes) refl, tt);
        }
