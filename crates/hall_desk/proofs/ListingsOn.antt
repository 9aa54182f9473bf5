-- A listing of answers that is made in slices.
use Rattle.std.proofs.Common.{◌≡◌, ◌||◌, ℕ, zero, suc, false, List, Some, Contains, IsTrue, sym, ap, ◌∙◌, subst, arith}
use Rattle.std.proofs.Common.{Option}
use Rattle.hall_policy.specs.Actions.{last_rule, rules_asked}
use Rattle.hall_policy.specs.Decided.{IsDecided, IsDecidedUpTo}
use Rattle.hall_policy.specs.Facts.{IsRoundFound}
use Rattle.hall_policy.specs.First.{First}
use Rattle.hall_policy.specs.Rules.{TheCaller}
use Rattle.hall_policy.specs.World.{World, IsRoundAt}
use Rattle.hall_policy.specs.declared.facts.Facts.{Facts}
use Rattle.hall_policy.specs.declared.record.Person.{Person}
use Rattle.hall_policy.specs.declared.record.RoundRow.{RoundRow}
use Rattle.hall_policy.specs.declared.request.Action.{Action}
use Rattle.hall_policy.specs.declared.request.Action.TheVariants.{Answers}
use Rattle.hall_policy.specs.declared.request.Request.{Request}
use Rattle.hall_policy.specs.declared.rule.Decision.{Decision}
use Rattle.hall_policy.specs.declared.rule.Decision.TheVariants.{Allow}
use Rattle.hall_policy.specs.declared.rule.Rule.{Rule}
use Rattle.hall_store.specs.Caller.{caller_of}
use Rattle.hall_store.specs.Store.{Content, IsRoundKept, Kept}
use Rattle.hall_store.proofs.Knowing.{carried}
use Rattle.hall_desk.specs.Listings.{ListsOn, WaitsForListing}
use Rattle.hall_desk.specs.Wanted.{AsksListing}
use Rattle.hall_desk.specs.declared.listing.Listings.{Listings}
use Rattle.hall_desk.proofs.FactsTold.{list_told}
use Rattle.hall_desk.proofs.Wants.{at_any_moment, is_timed}

answers_untimed : (id : List ℕ) (r : Rule) → Contains (rules_asked (Answers id)) r → is_timed r ≡ false
answers_untimed id r (zero, within, is) = ap is_timed (sym is)
answers_untimed id r (suc zero, within, is) = ap is_timed (sym is)
answers_untimed id r (suc (suc zero), within, is) = ap is_timed (sym is)
answers_untimed id r (suc (suc (suc i)), within, is) = absurd (omega (arith, within))

-- a director or a referee whom the rules allow the answers of the round asks for all of them
pub listing_asked : (new : Content) (facts : Facts) (request : Request) (id : List ℕ) (t : ℕ) (decision : Decision)
    → request.action ≡ Answers id → (new.honest → new.serves → facts.caller ≡ caller_of new.world request.key)
    → TheCaller facts.caller (λ person. IsTrue (person.roles.director || person.roles.referee))
    → (new.honest → new.serves × IsRoundKept new.world id facts.round)
    → IsDecidedUpTo last_rule facts request.action t decision → decision ≡ Allow → new.honest
    → new.serves × AsksListing new.world request
listing_asked new facts request id t decision is caller official read decided allows h =
    let world : World = new.world in
    let s : new.serves = (read h).0 in
    let who : facts.caller ≡ caller_of world request.key = caller h s in
    let sure : IsDecided world facts (Answers id) t Allow =
    subst (λ (a : Action). IsDecided world facts a t Allow) is
    (subst (λ (d : Decision). IsDecided world facts request.action t d) allows
    (decided world (list_told world facts request.action id is (read h).1.row))) in
    let there = sure.implied.object in
    let at : IsRoundAt world id there.row = subst (λ (found : Option RoundRow). IsRoundFound world (Some id) found)
    there.found (read h).1.row in (
      s,
      record {
        id = id;
        round = there.row.round;
        asked = is;
        sender = subst (λ (found : Option Person).
            TheCaller found (λ person. IsTrue (person.roles.director || person.roles.referee))) who official;
        allowed = λ later. subst (λ (a : Action). First world (caller_of world request.key) a later Allow) (sym is)
            (subst (λ (found : Option Person). First world found (Answers id) later Allow) who
            (at_any_moment world facts.caller (Answers id) t later (answers_untimed id) sure.first));
        kept = at.head;
      },
    )

-- and waits for them, once the listing came on
pub listing_waits : (old new : Content) (request : Request) (id : List ℕ) (before after : Listings)
    → request.action ≡ Answers id → Kept old new → (old.honest → old.serves × AsksListing old.world request)
    → (new.honest → new.serves × ListsOn before.listing id after.listing after.listed)
    → WaitsForListing new request before after
listing_waits old new request id before after is kept told on h =
    let s : new.serves = (on h).0 in
    let asks : AsksListing new.world request =
    carried (λ w. AsksListing w request) old new kept (λ h0 _. (told h0).1) h s in
    let named : Answers id ≡ Answers asks.id = sym is ∙ asks.asked in
    let same : id ≡ asks.id = cc in (
      s,
      asks,
      subst (λ (i : List ℕ). ListsOn before.listing i after.listing after.listed) same (on h).1,
    )
