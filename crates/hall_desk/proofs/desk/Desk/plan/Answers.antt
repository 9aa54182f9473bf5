use Rattle.std.proofs.Common.{arith}
use Rattle.hall_desk.proofs.StepsSane.{plan_sane}
use Rattle.hall_desk.proofs.desk.Desk.plan.Goals as goal

pub returns-clause-sane : goal.returns-clause-sane
returns-clause-sane g c = plan_sane c.make_plan-plan.result (g.S.ReadStore.content c.make_plan-plan.new.store) c.args.t
    c.args.request.now
    (omega arith, omega (arith, c.get-moment.ensures.value, c.get-moment.ensures.most)) c.in_range.ensures
    c.make_plan-plan.ensures.planned
