-- What a stop leaves of a store whose requests are answered.
use Rattle.std.proofs.Common.{◌≡◌, inl, inr, ℕ, IsErrAnd, IfOk, Result, Ok, Err, sym, subst}
use Rattle.hall_policy.specs.World.{World}
use Rattle.hall_policy.specs.declared.request.Request.{Request}
use Rattle.hall_store.specs.Store.{Content, Kept, Leads, LeavesNoOther, LeavesOneOf}
use Rattle.hall_store.specs.Change.{changed}
use Rattle.hall_store.specs.declared.change.Change.TheVariants.{Nothing}
use Rattle.hall_desk.specs.Plan.{planned_reply, planned_change}
use Rattle.hall_desk.specs.Plans.{Planned}
use Rattle.hall_desk.specs.Step.{Step}
use Rattle.hall_desk.specs.declared.plan.Plan.{Plan}

-- what a stop leaves in one way it leaves in another that follows from it
pub leaves_turn : (R Q : World → World → Type 0) (old new : Content)
    → ((before left : World) → R before left → Q before left) → LeavesOneOf R old new → LeavesOneOf Q old new
leaves_turn R Q old new turn stops h left may = elim (stops h left may)
    [ inl earlier ↦ inl earlier | inr made ↦ inr (made.0, turn old.world left made.1) ]

-- and where it leaves no other
pub leaves_none : (R : World → World → Type 0) (old new : Content) → LeavesNoOther old new → LeavesOneOf R old new
leaves_none R old new none h left may = inl (none h left may)

-- nothing is said of what is refused
pub if_err : {T E : Type 0} (r : Result T E) (P : E → Type 0) (Q : T → Type 0) → IsErrAnd r P → IfOk r Q
if_err (Ok x) P Q is = absurd is
if_err (Err e) P Q is = tt

-- a plan that was made over a store, and its change made there
pub planned_leaves : (E : Type 0) (t : ℕ) (request : Request) (old mid new : Content) (plan : Plan) → Kept old mid
    → Planned {E = E} mid t request (Ok plan) → Leads mid new
    → (planned_change plan ≡ Nothing → LeavesNoOther mid new)
    → (mid.serves → LeavesOneOf (λ before left. left ≡ changed (planned_change plan) before) mid new)
    → LeavesOneOf (λ before left. Step before t request (planned_reply plan) left) old new
planned_leaves E t request old mid new plan kept (inl made) leads quiet stops h left may =
    let before = leads.honest h in
    let p = made before in
    elim (stops p.0 h left may) [
      | inl earlier ↦ inl (kept.stops before left earlier)
      | inr is ↦
          let step : Step mid.world t request (planned_reply plan) (changed (planned_change plan) mid.world) = inr
          p.1.answered in
          inr (
            kept.serves before p.0,
            subst (λ (w : World). Step w t request (planned_reply plan) left) (kept.world before p.0)
                (subst (λ (w : World). Step mid.world t request (planned_reply plan) w) (sym is.1) step),
          )
    ]
planned_leaves E t request old mid new plan kept (inr made) leads quiet stops h left may = inl
    (kept.stops (leads.honest h) left (quiet made.0 h left may))
