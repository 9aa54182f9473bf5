-- A protest that is stored.
use Rattle.std.proofs.Common.{◌≡◌, ℕ, List, Option, Some, None, refl, sym, ap, ◌∙◌, subst}
use Rattle.hall_policy.specs.World.{World, IsRoundAt}
use Rattle.hall_policy.specs.Facts.{AreTrue, IsRoundFound}
use Rattle.hall_policy.specs.Implies.{PlaceIsThere}
use Rattle.hall_policy.specs.declared.facts.Facts.{Facts}
use Rattle.hall_policy.specs.declared.record.Person.{Person}
use Rattle.hall_policy.specs.declared.record.PuzzleState.TheVariants as state
use Rattle.hall_policy.specs.declared.record.RoundRow.{RoundRow}
use Rattle.hall_store.specs.Change.{changed, CanMake, CanAddProtest}
use Rattle.hall_store.specs.declared.change.Change.{Change}
use Rattle.hall_store.specs.declared.change.Change.TheVariants.{AddProtest}
use Rattle.hall_desk.specs.Lookups.{IsThere}
use Rattle.hall_desk.specs.Handler.{protest_action, protest_row}
use Rattle.hall_desk.specs.Plans.{IsChangeOf, IsMadePlan}
use Rattle.hall_desk.specs.declared.plan.Plan.{Plan}
use Rattle.hall_desk.specs.declared.protest.Protest.{Protest}
use Rattle.hall_desk.specs.declared.reply.Reply.TheVariants as reply

-- the protest's row may be stored, and makes the plan
pub protested : (world : World) (facts : Facts) (asked : Protest) (person : Person) (t : ℕ) (plan : Plan)
    → facts.caller ≡ Some person →
    facts.protest ≡ None → PlaceIsThere facts (protest_action asked) asked.number
    → AreTrue facts world (protest_action asked) → IsThere world facts.caller →
    plan.reply ≡ reply.Protest asked.token.now → plan.change ≡ AddProtest (protest_row person asked)
    → IsMadePlan world facts.caller (protest_action asked) t plan
protested world facts asked person t plan caller fresh place told there replied changes =
    let id : List ℕ = asked.round.now in
    let row : RoundRow = place.round.row in
    let at : IsRoundAt world id row = subst (λ (found : Option RoundRow). IsRoundFound world (Some id) found)
    place.round.found told.1.1.0 in
    let given : CanAddProtest world (protest_row person asked) = record {
      fresh = sym (told.1.1.1.1.0.1 person caller) ∙ fresh;
      entrant = (person, subst (λ (who : Option Person). IsThere world who) caller there);
      place = (place.entry.0, at.list asked.number ∙ place.entry.1);
    } in
    record {
      found = state.New;
      allowed = (person, caller, (replied, ap (λ (change : Change). changed change world) changes));
      can = subst (λ (change : Change). CanMake change world) (sym changes) given;
      quiet = λ nothing. absurd nothing;
      made = (subst (λ (change : Change). IsChangeOf change (protest_action asked)) (sym changes) refl, tt);
    }
