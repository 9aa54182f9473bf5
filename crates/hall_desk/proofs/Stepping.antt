-- A plan and its commit make a step.
use Rattle.std.proofs.Common.{◌≡◌, ◌≤◌, ◌⊎◌, inl, inr, ℕ, Ok, sym, ap, ◌∙◌, subst, arith}
use Rattle.hall_policy.specs.World.{World}
use Rattle.hall_policy.specs.declared.request.Request.{Request}
use Rattle.hall_store.specs.Store.{CanRefuseIn, Content, Kept, Leads, LeavesNoOther, LeavesOneOf, MakesInWorld}
use Rattle.hall_store.specs.Store.{WritesOnce}
use Rattle.hall_store.specs.Change.{changed}
use Rattle.hall_desk.specs.Step.{Step}
use Rattle.hall_desk.specs.Plans.{IsPlanFor, IsQuiet, Planned, IsStepOver, StepCanFail, StopsWithin, WritesIfAny}
use Rattle.hall_store.specs.declared.change.Change.{Change}
use Rattle.hall_store.specs.declared.change.Change.TheVariants.{Nothing}
use Rattle.hall_desk.specs.declared.reply.Reply.{Reply}
use Rattle.hall_desk.specs.declared.reply.Reply.TheVariants.{Unavailable}
use Rattle.hall_desk.specs.declared.plan.Plan.{Plan}
use Rattle.hall_store.proofs.Knowing.{more_after}

-- what a commit makes of the world of a store that served before
pub committed : {S R : Type 0} (E : Type 0) (content : S → Content) (old new : S) (change : Change) (done : R)
    → (change ≡ Nothing → new ≡ old)
    → (change ≡ Nothing) ⊎ MakesInWorld {E = E} change (content old) (content new) (Ok done)
    → (content new).honest → (content old).serves → (content new).serves
    × ((content new).world ≡ changed change (content old).world)
committed E content old new change done nothing (inl none) h s =
    subst (λ i. (content i).serves × ((content i).world ≡ changed change (content old).world)) (sym (nothing none))
    (s, sym (ap (λ c. changed c (content old).world) none))
committed E content old new change done nothing (inr made) h s = made h

module _ (t : ℕ) (request : Request) where
  -- a plan that was made over a store, and its change made there
  pub planned_steps : (E : Type 0) (old mid new : Content) (plan : Plan) (given : Reply) → Kept old mid
      → Planned {E = E} mid t request (Ok plan) → Leads mid new →
      given ≡ plan.reply → (new.honest → mid.serves → new.serves × (new.world ≡ changed plan.change mid.world))
      → new.honest → IsStepOver old t request given new
  planned_steps E old mid new plan given kept (inl made) leads told done h =
      let before = leads.honest h in
      let p = made before in
      let after = done h p.0 in
      let step : Step mid.world t request plan.reply (changed plan.change mid.world) = inr p.1.answered in
      inr (
        kept.serves before p.0,
        after.0,
        subst (λ (r : Reply). Step old.world t request r new.world) (sym told)
            (subst (λ (w : World). Step w t request plan.reply new.world) (kept.world before p.0)
            (subst (λ (w : World). Step mid.world t request plan.reply w) (sym after.1) step)),
      )
  planned_steps E old mid new plan given kept (inr made) leads told done h = inl (
    (λ w.
        subst (λ (r : Reply). Step w t request r w) (sym told)
        (subst (λ (change : Change). Step w t request plan.reply (changed change w)) made.0
        (inr (made.1 w).answered))),
    (λ s.
        let before = leads.serves h s in
        (done h before).1 ∙ ap (λ (change : Change). changed change mid.world) made.0
        ∙ kept.world (leads.honest h) before),
  )

  -- and what a stop leaves of it
  pub planned_stops : (E : Type 0) (old mid new : Content) (plan : Plan) (given : Reply) → (plan.reply ≡ given)
      ⊎ (given ≡ Unavailable) → Kept old mid → Planned {E = E} mid t request (Ok plan) → Leads mid new →
      (plan.change ≡ Nothing → LeavesNoOther mid new) → (mid.serves
      → LeavesOneOf (λ before left. left ≡ changed plan.change before) mid new)
      → StopsWithin old t request given new
  planned_stops E old mid new plan given which kept (inl made) leads quiet stops h left may =
      let before = leads.honest h in
      let p = made before in
      elim (stops p.0 h left may) [
        | inl earlier ↦ inl (kept.stops before left earlier)
        | inr is ↦
            let step : Step mid.world t request plan.reply (changed plan.change mid.world) = inr p.1.answered in
            inr (
              kept.serves before p.0,
              (
                plan.reply,
                which,
                subst (λ (w : World). Step w t request plan.reply left) (kept.world before p.0)
                    (subst (λ (w : World). Step mid.world t request plan.reply w) (sym is.1) step),
              ),
            )
      ]
  planned_stops E old mid new plan given which kept (inr made) leads quiet stops h left may = inl
      (kept.stops (leads.honest h) left (quiet made.0 h left may))

-- what leaves the number of writes, and then at most one
pub once_after : (old mid new : Content) → Kept old mid → WritesOnce mid new → WritesOnce old new
once_after old mid new kept once = omega (arith, kept.writes, once)

-- the step of a plan whose change was refused may be refused for that
pub refused_step : (E : Type 0) (old mid new : Content) (t : ℕ) (request : Request) (plan : Plan) → Kept old mid
    → Leads mid new → Planned {E = E} mid t request (Ok plan) → (plan.change ≡ Nothing → ⊥)
    → CanRefuseIn plan.change mid new → StepCanFail old t request new
refused_step E old mid new t request plan kept leads planned never (inl more) =
    inl (inl (more_after old.faults mid.faults new.faults kept.counts more))
refused_step E old mid new t request plan kept leads (inr none) never (inr refused) = absurd (never none.0)
refused_step E old mid new t request plan kept leads (inl made) never (inr refused) = inr (plan, is, refused)
  where
    is : new.honest → old.serves × IsPlanFor old.world t request plan
    is h =
        let before = leads.honest h in
        let p = made before in
        (kept.serves before p.0, subst (λ (w : World). IsPlanFor w t request plan) (kept.world before p.0) p.1)

-- a plan for a request that has nothing to write changes nothing
pub quiet_plan : (world : World) (t : ℕ) (request : Request) (plan : Plan) → IsPlanFor world t request plan
    → IsQuiet world t request → plan.change ≡ Nothing
quiet_plan world t request plan is (inl others) = is.quiet (inl (others is.answered.1.0 is.answered.1.1))
quiet_plan world t request plan is (inr nothing) = is.quiet (inr nothing)

-- so its commit makes no write
module _ {S : Type 0} (content : S → Content) (old : Content) (mid new : S) (plan : Plan)
    (kept : Kept old (content mid)) (nothing : plan.change ≡ Nothing → new ≡ mid) where
  pub quiet_commit : plan.change ≡ Nothing → (content new).writes ≤ old.writes
  quiet_commit none = subst (λ (i : S). (content i).writes ≤ old.writes) (sym (nothing none)) kept.writes

  pub planned_quiet : (E : Type 0) (t : ℕ) (request : Request) → Planned {E = E} (content mid) t request (Ok plan)
      → Leads (content mid) (content new) → WritesIfAny old t request (content new)
  planned_quiet E t request (inl made) leads h s quiet =
      let before = leads.honest h in
      let p = made before in
      quiet_commit (quiet_plan (content mid).world t request plan p.1
      (subst (λ (w : World). IsQuiet w t request) (sym (kept.world before p.0)) quiet))
  planned_quiet E t request (inr made) leads h s quiet = quiet_commit made.0

-- what changes nothing leaves nothing else
pub same_stops : {S : Type 0} (content : S → Content) (old new : S) → new ≡ old
    → LeavesNoOther (content old) (content new)
same_stops content old new same h left may = subst (λ i. (content i).may_leave left) same may
