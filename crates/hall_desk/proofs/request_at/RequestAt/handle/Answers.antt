use Rattle.std.proofs.Common.{Option, inl, inr, refl, sym, subst}
use Rattle.hall_policy.specs.Decided.{IsDecided}
use Rattle.hall_policy.specs.declared.record.Person.{Person}
use Rattle.hall_policy.specs.declared.request.Action.{Action}
use Rattle.hall_policy.specs.declared.rule.Decision.{Decision}
use Rattle.hall_policy.specs.declared.rule.Decision.TheVariants.{Allow}
use Rattle.hall_store.specs.Store.{Kept}
use Rattle.hall_store.specs.Change.{changed}
use Rattle.hall_desk.specs.Lookups.{IsCaller}
use Rattle.hall_desk.specs.Step.{Allowed}
use Rattle.hall_desk.specs.Plans.{IsMadePlan, IsPlanFor, HasNothingToWrite, IsMadeBy}
use Rattle.hall_store.proofs.Knowing.{carried, kept_then, told_through}
use Rattle.hall_desk.proofs.PlanLemmas.{planned}
use Rattle.hall_desk.proofs.request_at.RequestAt.handle.Goals as goal

pub returns-in-Allow-clause-told : goal.returns-in-Allow-clause-told
returns-in-Allow-clause-told g c =
    let facts = c.decision.new.facts in
    let request = c.args.self.now.request.now in
    let action = g.H.Handler.action_of c.args.handler.now in
    let old = g.S.ReadStore.content c.args.store.now in
    let mid = g.S.ReadStore.content c.decision.new.store in
    let new = g.S.ReadStore.content c.plan.new.store in
    let decided = c.in_ok-decision.ensures in
    let kept : Kept old new = kept_then old mid new decided.kept c.plan.ensures.kept in
    told_through c.plan.result (λ w plan. IsMadePlan w facts.caller action c.args.self.now.t plan)
    (λ w plan. IsPlanFor w c.args.self.now.t request plan) old mid new c.plan.ensures.kept decided.told.0
    (λ plan h s made.
    planned facts new.world c.args.self.now.t request Allow plan.reply plan.change plan.visits
    (subst (λ (who : Option Person). IsCaller new.world request.key who) (sym decided.caller)
    (carried (λ w. IsCaller w request.key c.args.facts.now.caller) old new kept c.requires.caller h s))
    (carried (λ w. IsDecided w facts request.action c.args.self.now.t Allow) mid new c.plan.ensures.kept
    (λ h0 s0. subst (λ (decision : Decision). IsDecided mid.world facts request.action c.args.self.now.t decision)
    c.in-Allow.is (decided.told.1 h0 s0)) h s)
    made.found (subst (λ (a : Action). Allowed new.world facts.caller a c.args.self.now.t made.found plan.reply
    (changed plan.change new.world)) (sym c.requires.same) made.allowed) made.can
    (λ why. elim why [
      | inl denied ↦ absurd (denied refl)
      | inr nothing ↦ made.quiet
          (subst (λ (a : Action). HasNothingToWrite new.world a) c.requires.same nothing)
    ])
    (λ allowed. subst (λ (a : Action). IsMadeBy new.world a plan) (sym c.requires.same) made.made))
    c.plan.ensures.told
