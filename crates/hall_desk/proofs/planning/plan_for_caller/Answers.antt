use Rattle.std.proofs.Common.{None, refl, sym, subst}
use Rattle.hall_policy.specs.declared.rule.Decision.TheVariants.{Deny}
use Rattle.hall_policy.specs.declared.record.PuzzleState.TheVariants as state
use Rattle.hall_store.specs.declared.change.Change.TheVariants as change
use Rattle.hall_desk.specs.Plans.{IsPlanFor}
use Rattle.hall_desk.specs.declared.plan.Plan.{Plan}
use Rattle.hall_desk.specs.declared.reply.Reply.TheVariants as reply
use Rattle.hall_desk.proofs.Copied.{copies_kept}
use Rattle.hall_desk.proofs.PlanLemmas.{planned}
use Rattle.hall_desk.proofs.FactsTold.{caller_told}
use Rattle.hall_desk.proofs.planning.plan_for_caller.Goals as goal

pub returns-in-Some-clause-told : goal.returns-in-Some-clause-told
returns-in-Some-clause-told g c =
    let facts = c.args.facts.now in
    let request = c.args.asked.now.request.now in
    let world = (g.S.ReadStore.content c.args.store.now).world in (
      (λ h s. s),
      (λ h s. subst (λ (plan : Plan). IsPlanFor world c.args.asked.now.t request plan) (sym c.of.ensures)
          (planned facts world c.args.asked.now.t request (Deny c.in-Some.rule) (reply.Denied c.in-Some.rule)
          change.Nothing None (c.requires.caller h s)
          (c.in-Some.ensures.some world (caller_told facts world request.action)) state.GaveUp (refl, refl) tt
          (λ _. refl) (λ allowed. absurd (cc)))),
    )

pub returns-in-ReadRound-clause-copied : goal.returns-in-ReadRound-clause-copied
returns-in-ReadRound-clause-copied g c =
    let left = copies_kept _ _ c.args.copies.now c.plan_round.ensures.kept c.requires.copied in
    record {
      tables = left.tables;
      round = c.plan_round.ensures.copied;
      tabling = left.tabling;
      listings = left.listings;
    }

pub returns-in-Answers-clause-copied : goal.returns-in-Answers-clause-copied
returns-in-Answers-clause-copied g c =
    let left = copies_kept _ _ c.args.copies.now c.plan_answers.ensures.kept c.requires.copied in
    record {
      tables = left.tables;
      round = left.round;
      tabling = left.tabling;
      listings = c.plan_answers.ensures.listed;
    }

pub returns-in_default-clause-copied : goal.returns-in_default-clause-copied
returns-in_default-clause-copied g c = copies_kept _ _ c.args.copies.now c.dispatch.ensures.kept c.requires.copied
