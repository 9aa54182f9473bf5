-- The plan of a round that is read.
use Rattle.std.proofs.Common.{◌≡◌, ℕ, List, refl, sym, subst}
use Rattle.hall_policy.specs.Actions.{last_rule}
use Rattle.hall_policy.specs.Facts.{AreTrue}
use Rattle.hall_policy.specs.Decided.{IsDecidedUpTo}
use Rattle.hall_policy.specs.declared.facts.Facts.{Facts}
use Rattle.hall_policy.specs.declared.record.PuzzleState.TheVariants as state
use Rattle.hall_policy.specs.declared.request.Action.{Action}
use Rattle.hall_policy.specs.declared.request.Action.TheVariants.{ReadRound}
use Rattle.hall_policy.specs.declared.request.Request.{Request}
use Rattle.hall_policy.specs.declared.rule.Decision.{Decision}
use Rattle.hall_policy.specs.declared.rule.Decision.TheVariants.{Allow, Deny}
use Rattle.hall_store.specs.Store.{Content, Kept, Asks, IsRoundKept}
use Rattle.hall_desk.specs.Lookups.{IsCaller}
use Rattle.hall_desk.specs.RoundCopy.{IsShownAt}
use Rattle.hall_desk.specs.Step.{Allowed}
use Rattle.hall_desk.specs.Plans.{IsPlanFor, IsMadeBy}
use Rattle.hall_desk.specs.declared.plan.Plan.{Plan}
use Rattle.hall_desk.specs.declared.reply.Reply.TheVariants as reply
use Rattle.hall_desk.specs.declared.reply.ShownRound.{ShownRound}
use Rattle.hall_desk.proofs.ReadPlans.{answering, denied_plan, read_plan}
use Rattle.hall_desk.proofs.FactsTold.{read_told}

module _ (old mid : Content) (facts : Facts) (t : ℕ) (request : Request) (id : List ℕ)
    (is : request.action ≡ ReadRound id)
    (caller : Asks old (λ world. IsCaller world request.key facts.caller)) (kept : Kept old mid)
    (read : mid.honest → mid.serves × IsRoundKept mid.world id facts.round) where
  -- what the rules read was found
  found : mid.honest → AreTrue facts mid.world request.action
  found h = read_told mid.world facts request.action id is (read h).1.row

  module _ (decision : Decision) (decided : IsDecidedUpTo last_rule facts request.action t decision) where
    -- a round that isn't read
    pub round_denied : (rule : ℕ) (plan : Plan) → decision ≡ Deny rule → plan ≡ answering (reply.Denied rule)
        → mid.honest → mid.serves × IsPlanFor mid.world t request plan
    round_denied = denied_plan old mid facts t request caller kept (λ h. (read h).0) found decision decided

    -- a round that is read
    pub round_planned : (new : Content) (shown : ShownRound) (plan : Plan) → decision ≡ Allow → Kept mid new →
        (new.honest → new.serves × IsShownAt new.world id shown) → plan ≡ answering (reply.ReadRound shown) →
        new.honest → new.serves × IsPlanFor new.world t request plan
    round_planned new shown plan allowed left served =
        read_plan old mid facts t request caller kept (λ h. (read h).0) found decision decided new
        (reply.ReadRound shown) plan allowed left (λ h.
        let at = (served h).1 in (
          (served h).0,
          (
            subst (λ (a : Action). Allowed new.world facts.caller a t state.GaveUp (reply.ReadRound shown) new.world)
                (sym is) ((at.0, shown, at.1, at.2, refl), refl),
            subst (λ (a : Action). IsMadeBy new.world a (answering (reply.ReadRound shown))) (sym is) (tt, tt),
          ),
        ))
