use Rattle.std.proofs.Common.{Option, sym, subst}
use Rattle.hall_policy.specs.declared.record.Person.{Person}
use Rattle.hall_policy.specs.declared.rule.Decision.TheVariants.{Deny}
use Rattle.hall_store.proofs.Knowing.{carried}
use Rattle.hall_desk.specs.Lookups.{IsCaller}
use Rattle.hall_desk.proofs.FactsTold.{caller_told}
use Rattle.hall_desk.proofs.Wants.{none_denied, told_asked}
use Rattle.hall_desk.proofs.wanted_search.search_for_caller.Goals as goal

pub returns-in_ok-search_of_found-in-Allow-clause-told : goal.returns-in_ok-search_of_found-in-Allow-clause-told
returns-in_ok-search_of_found-in-Allow-clause-told g c =
    let old = g.S.ReadStore.content c.args.store.now in
    let new = g.S.ReadStore.content c.decision.new.store in
    let request = c.args.asked.now.request.now in
    let certified = c.args.certified.now in
    let decided = c.in_ok-decision.ensures in
    told_asked certified.memo.now _ old new request c.decision.new.facts _ c.args.pass.now certified.key.now
    certified.budget
    c.args.asked.now.t c.requires.action c.requires.key
    (λ h s. subst (λ (who : Option Person). IsCaller new.world request.key who) (sym decided.caller)
    (carried (λ w. IsCaller w request.key c.args.facts.now.caller) old new decided.kept c.requires.caller h s))
    decided.told c.in-Allow.is c.in_ok-search_of_found-in-Allow.ensures.found

pub returns-in-Some-clause-told : goal.returns-in-Some-clause-told
returns-in-Some-clause-told g c =
    let facts = c.args.facts.now in
    let request = c.args.asked.now.request.now in
    let world = (g.S.ReadStore.content c.args.store.now).world in (
      (λ h s. s),
      (λ h s. none_denied world request c.args.certified.now.memo.now facts c.args.asked.now.t (Deny c.in-Some._rule)
          (c.requires.caller h s) (c.in-Some.ensures.some world (caller_told facts world request.action))
          (λ same. absurd cc)),
    )
