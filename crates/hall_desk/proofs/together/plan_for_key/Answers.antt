use Rattle.std.proofs.Common.{rules, ◌≡◌, true, Some, sym, ap, subst, ◌∙◌}
use Rattle.hall_policy.specs.World.{World}
use Rattle.hall_policy.specs.declared.request.Request.{Request}
use Rattle.hall_store.specs.Caller.{caller_of}
use Rattle.hall_desk.specs.Plans.{IsPlanFor}
use Rattle.hall_desk.specs.Together.{IsPlanBeside}
use Rattle.hall_desk.proofs.JoinLemmas.{planned_beside}
use Rattle.hall_desk.proofs.together.plan_for_key.Goals as goal

pub returns-clause-planned : goal.returns-clause-planned
returns-clause-planned g c =
    let (round, number, token, answer, is) = c.requires in
    let content = g.S.ReadStore.content c.plan_for_caller.new.store in
    let mid = g.S.ReadStore.content c.person_by_key.new.self in
    let made = c.plan_for_caller.ensures in
    let told = c.in_ok-plan.ensures.told in
    let yes : c.may_join.result ≡ true = search rules in
    subst (λ (r : Request). IsPlanBeside content c.args.asked.now.t r c.args.joint.now c.in_ok-plan.plan) (sym is)
    (planned_beside c.args.asked.now.t (Some c.args.key.now) round number token answer c.in_ok-plan.plan content
    c.args.joint.now
    (λ honest.
    let serves = told.0 honest (c.in_ok-facts.ensures.served (made.kept.honest honest)).0 in (
      serves,
      subst (λ (r : Request). IsPlanFor content.world c.args.asked.now.t r c.in_ok-plan.plan) is
          (told.1 honest serves),
    ))
    (λ honest person at.
    let serves = told.0 honest (c.in_ok-facts.ensures.served (made.kept.honest honest)).0 in
    let holder = (c.in_ok-facts.ensures.served (made.kept.honest honest)).1 in
    let then : caller_of mid.world (Some c.args.key.now) ≡ Some person =
    ap (λ (w : World). caller_of w (Some c.args.key.now)) (sym (made.kept.world honest serves)) ∙ at in
    c.may_join.ensures yes person (holder.found ∙ then)))
