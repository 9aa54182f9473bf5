use Rattle.std.proofs.Common.{Option, None, refl, sym, ap, ◌∙◌, subst}
use Rattle.hall_desk.specs.Lookups.{IsThere}
use Rattle.hall_policy.specs.declared.record.Person.{Person}
use Rattle.hall_policy.specs.declared.record.PuzzleState.TheVariants as state
use Rattle.hall_policy.specs.declared.rule.Decision.TheVariants.{Deny}
use Rattle.hall_store.specs.Caller.{caller_of}
use Rattle.hall_desk.specs.Plans.{IsPlanFor}
use Rattle.hall_desk.specs.declared.plan.Plan.{Plan}
use Rattle.hall_desk.specs.declared.reply.Reply.TheVariants as reply
use Rattle.hall_store.specs.declared.change.Change.TheVariants as change
use Rattle.hall_desk.proofs.PlanLemmas.{planned}
use Rattle.hall_desk.proofs.FactsTold.{caller_told, table_without_caller}
use Rattle.hall_desk.proofs.planning.deny_without_key.Goals as goal

pub returns-clause-planned : goal.returns-clause-planned
returns-clause-planned c = λ world.
    let facts = c.args.facts.now in
    let request = c.args.asked.now.request.now in
    subst (λ (plan : Plan). IsPlanFor world c.args.asked.now.t request plan) (sym c.of.ensures)
    (planned facts world c.args.asked.now.t request (Deny c.in-Some.rule) (reply.Denied c.in-Some.rule) change.Nothing
    None
    (record {
      found = c.requires.caller ∙ sym (ap (caller_of world) c.requires.key);
      there = subst (λ (who : Option Person). IsThere world who) (sym c.requires.caller) tt;
    })
    (c.in-Some.ensures.some world (caller_told facts world request.action)) state.GaveUp (refl, refl) tt (λ _. refl)
    (λ allowed. absurd (cc)))

pub unreachable-requires : goal.unreachable-requires
unreachable-requires c =
    let table = table_without_caller c.args.facts.now c.args.asked.now.request.now.action c.args.asked.now.t
    c.in-None.ensures.none c.requires.caller in
    c.requires.action table.0 table.1
