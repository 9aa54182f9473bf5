use Rattle.hall_desk.proofs.Copied.{copies_kept}
use Rattle.hall_desk.proofs.PlanLemmas.{told_plan}
use Rattle.hall_desk.proofs.planning.plan_by_key.Goals as goal

pub returns-in_ok-facts-in-Some-clause-planned : goal.returns-in_ok-facts-in-Some-clause-planned
returns-in_ok-facts-in-Some-clause-planned g c =
    let made = c.plan_for_caller.ensures in
    told_plan c.plan_for_caller.result (g.S.ReadStore.content c.person_by_key.new.self)
    (g.S.ReadStore.content c.plan_for_caller.new.store) c.args.asked.now.t c.args.asked.now.request.now
    made.kept (λ h. (c.in_ok-facts-in-Some.ensures.served h).0) made.told

pub returns-in_err-facts-in-Some-clause-copied : goal.returns-in_err-facts-in-Some-clause-copied
returns-in_err-facts-in-Some-clause-copied g c =
    copies_kept _ _ c.args.copies.now c.person_by_key.ensures.kept c.requires.copied

pub plan_for_caller-requires-clause-copied : goal.plan_for_caller-requires-clause-copied
plan_for_caller-requires-clause-copied g c =
    copies_kept _ _ c.args.copies.now c.person_by_key.ensures.kept c.requires.copied
