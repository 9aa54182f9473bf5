-- The plan of a table.
use Rattle.std.proofs.Common.{◌≡◌, ℕ, List, refl, sym, subst}
use Rattle.hall_policy.specs.Actions.{last_rule}
use Rattle.hall_policy.specs.Facts.{AreTrue}
use Rattle.hall_policy.specs.Decided.{IsDecidedUpTo}
use Rattle.hall_policy.specs.declared.facts.Facts.{Facts}
use Rattle.hall_policy.specs.declared.record.PuzzleState.TheVariants as state
use Rattle.hall_policy.specs.declared.request.Action.{Action}
use Rattle.hall_policy.specs.declared.request.Action.TheVariants.{Table}
use Rattle.hall_policy.specs.declared.request.Request.{Request}
use Rattle.hall_policy.specs.declared.rule.Decision.{Decision}
use Rattle.hall_policy.specs.declared.rule.Decision.TheVariants.{Allow, Deny}
use Rattle.hall_store.specs.Store.{Content, Kept, Asks, IsRoundKept}
use Rattle.hall_desk.specs.Lookups.{IsCaller}
use Rattle.hall_desk.specs.Totals.{IsTableAt}
use Rattle.hall_desk.specs.Step.{Allowed}
use Rattle.hall_desk.specs.Plans.{IsPlanFor, IsMadeBy}
use Rattle.hall_desk.specs.declared.plan.Plan.{Plan}
use Rattle.hall_desk.specs.declared.reply.Reply.TheVariants as reply
use Rattle.hall_desk.proofs.ReadPlans.{answering, denied_plan, read_plan}
use Rattle.hall_desk.proofs.FactsTold.{table_told}

module _ (old mid : Content) (facts : Facts) (t : ℕ) (request : Request) (id : List ℕ) (is : request.action ≡ Table id)
    (caller : Asks old (λ world. IsCaller world request.key facts.caller)) (kept : Kept old mid)
    (read : mid.honest → mid.serves × IsRoundKept mid.world id facts.round) where
  -- what the rules read was found
  found : mid.honest → AreTrue facts mid.world request.action
  found h = table_told mid.world facts request.action id is (read h).1.row

  module _ (decision : Decision) (decided : IsDecidedUpTo last_rule facts request.action t decision) where
    -- a table that is denied
    pub table_denied : (rule : ℕ) (plan : Plan) → decision ≡ Deny rule → plan ≡ answering (reply.Denied rule)
        → mid.honest → mid.serves × IsPlanFor mid.world t request plan
    table_denied = denied_plan old mid facts t request caller kept (λ h. (read h).0) found decision decided

    -- a table that is answered
    pub table_planned : (new : Content) (text : List ℕ) (plan : Plan) → decision ≡ Allow → Kept mid new →
        (new.honest → new.serves × IsTableAt new.world id text) → plan ≡ answering (reply.Table text) →
        new.honest → new.serves × IsPlanFor new.world t request plan
    table_planned new text plan allowed left served =
        read_plan old mid facts t request caller kept (λ h. (read h).0) found decision decided new (reply.Table text)
        plan allowed left (λ h. (
          (served h).0,
          (
            subst (λ (a : Action). Allowed new.world facts.caller a t state.GaveUp (reply.Table text) new.world)
                (sym is) ((text, (served h).1, refl), refl),
            subst (λ (a : Action). IsMadeBy new.world a (answering (reply.Table text))) (sym is) (tt, tt),
          ),
        ))
