use Rattle.std.proofs.Common.{arith}
use Rattle.hall_desk.proofs.StepsSane.{steps_sane}
use Rattle.hall_desk.proofs.step.step.Goals as goal

pub returns-clause-sane : goal.returns-clause-sane
returns-clause-sane g c = λ h s sane.
    steps_sane (g.S.ReadStore.content c.args.store.now) (g.S.ReadStore.content c.make_step-reply.new.store) c.args.t
    c.args.request.now c.make_step-reply.result
    (omega arith, omega (arith, c.get-moment.ensures.value, c.get-moment.ensures.most)) c.in_range.ensures s
    (c.make_step-reply.ensures.steps h) sane
