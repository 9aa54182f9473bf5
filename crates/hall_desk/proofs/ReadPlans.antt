-- The plan of an action that only reads, once the rules are decided.
use Rattle.std.proofs.Common.{◌≡◌, ℕ, None, refl, sym, subst}
use Rattle.hall_policy.specs.Actions.{last_rule}
use Rattle.hall_policy.specs.Facts.{AreTrue}
use Rattle.hall_policy.specs.Decided.{IsDecided, IsDecidedUpTo}
use Rattle.hall_policy.specs.declared.facts.Facts.{Facts}
use Rattle.hall_policy.specs.declared.record.PuzzleState.TheVariants as state
use Rattle.hall_policy.specs.declared.request.Request.{Request}
use Rattle.hall_policy.specs.declared.rule.Decision.{Decision}
use Rattle.hall_policy.specs.declared.rule.Decision.TheVariants.{Allow, Deny}
use Rattle.hall_store.specs.Store.{Content, Kept, Asks}
use Rattle.hall_store.specs.declared.change.Change.TheVariants.{Nothing}
use Rattle.hall_store.proofs.Knowing.{carried}
use Rattle.hall_desk.specs.Lookups.{IsCaller}
use Rattle.hall_desk.specs.Step.{Allowed}
use Rattle.hall_desk.specs.Plans.{IsPlanFor, IsMadeBy}
use Rattle.hall_desk.specs.declared.plan.Plan.{Plan}
use Rattle.hall_desk.specs.declared.reply.Reply.{Reply}
use Rattle.hall_desk.specs.declared.reply.Reply.TheVariants as reply
use Rattle.hall_desk.proofs.PlanLemmas.{planned}

-- the plan that answers so, and changes nothing
abbrev pub answering : Reply → Plan
answering given = record { reply = given; change = Nothing; visits = None }

module _ (old mid : Content) (facts : Facts) (t : ℕ) (request : Request)
    (caller : Asks old (λ world. IsCaller world request.key facts.caller))
    (kept : Kept old mid) (serves : mid.honest → mid.serves)
    (found : mid.honest → AreTrue facts mid.world request.action)
    (decision : Decision) (decided : IsDecidedUpTo last_rule facts request.action t decision) where
  -- the caller was found before
  caller_there : mid.honest → IsCaller mid.world request.key facts.caller
  caller_there h = carried (λ w. IsCaller w request.key facts.caller) old mid kept caller h (serves h)

  -- it is denied
  pub denied_plan : (rule : ℕ) (plan : Plan) → decision ≡ Deny rule → plan ≡ answering (reply.Denied rule) → mid.honest
      → mid.serves × IsPlanFor mid.world t request plan
  denied_plan rule plan denied made h = (
    serves h,
    subst (λ (p : Plan). IsPlanFor mid.world t request p) (sym made)
        (planned facts mid.world t request (Deny rule) (reply.Denied rule) Nothing None (caller_there h)
        (subst (λ (d : Decision). IsDecided mid.world facts request.action t d) denied (decided mid.world (found h)))
        state.GaveUp (refl, refl) tt (λ _. refl) (λ allowed. absurd (cc))),
  )

  -- it is answered
  pub read_plan : (new : Content) (given : Reply) (plan : Plan) → decision ≡ Allow → Kept mid new →
      (new.honest → new.serves × (Allowed new.world facts.caller request.action t state.GaveUp given new.world
      × IsMadeBy new.world request.action (answering given))) →
      plan ≡ answering given → new.honest → new.serves × IsPlanFor new.world t request plan
  read_plan new given plan allowed left served made h =
      let s : new.serves = (served h).0 in (
        s,
        subst (λ (p : Plan). IsPlanFor new.world t request p) (sym made)
            (planned facts new.world t request Allow given Nothing None
            (carried (λ w. IsCaller w request.key facts.caller) mid new left (λ h0 s0. caller_there h0) h s)
            (carried (λ w. IsDecided w facts request.action t Allow) mid new left
            (λ h0 s0. subst (λ (d : Decision). IsDecided mid.world facts request.action t d) allowed
            (decided mid.world (found h0))) h s)
            state.GaveUp (served h).1.0 tt (λ _. refl) (λ _. (served h).1.1)),
      )
