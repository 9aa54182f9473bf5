use Rattle.std.proofs.Common.{subst}
use Rattle.hall_desk.specs.Plans.{IsStepOver, StopsWithin, WritesIfAny}
use Rattle.hall_desk.proofs.Promises.{unique_solutions, right_answers}
use Rattle.hall_desk.proofs.desk.Desk.step.Goals as goal

pub returns-clause-steps : goal.returns-clause-steps
returns-clause-steps g c =
    subst (λ s. (g.S.ReadStore.content c.step.new.store).honest →
    IsStepOver (g.S.ReadStore.content s) c.args.t c.args.request.now c.step.result
    (g.S.ReadStore.content c.step.new.store))
    c.self.view_is c.step.ensures.steps

pub returns-clause-quiet : goal.returns-clause-quiet
returns-clause-quiet g c =
    subst (λ s. WritesIfAny (g.S.ReadStore.content s) c.args.t c.args.request.now
    (g.S.ReadStore.content c.step.new.store))
    c.self.view_is c.step.ensures.quiet

pub returns-clause-unique : goal.returns-clause-unique
returns-clause-unique g c = rw (← c.self.view_is) (λ h s sane. unique_solutions
    (g.S.ReadStore.content c.step.new.store).world (c.step.ensures.sane h s sane))

pub returns-clause-right : goal.returns-clause-right
returns-clause-right g c = rw (← c.self.view_is) (λ h s sane. right_answers
    (g.S.ReadStore.content c.step.new.store).world (c.step.ensures.sane h s sane))

pub returns-clause-stops : goal.returns-clause-stops
returns-clause-stops g c =
    subst (λ s. StopsWithin (g.S.ReadStore.content s) c.args.t c.args.request.now c.step.result
    (g.S.ReadStore.content c.step.new.store))
    c.self.view_is c.step.ensures.stops
