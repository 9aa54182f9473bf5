use Rattle.std.proofs.Common.{subst, IfOk}
use Rattle.hall_desk.specs.Plans.{LeavesRun, Runs}
use Rattle.hall_desk.proofs.Promises.{unique_solutions, right_answers}
use Rattle.hall_desk.proofs.desk.Desk.run.Goals as goal

pub returns-clause-runs : goal.returns-clause-runs
returns-clause-runs g c =
    subst (λ s. IfOk c.run.result (λ replies. (g.S.ReadStore.content c.run.new.store).honest →
    Runs (g.S.ReadStore.content s) c.args.requests.now replies.items (g.S.ReadStore.content c.run.new.store)))
    c.self.view_is c.run.ensures.runs

pub returns-clause-unique : goal.returns-clause-unique
returns-clause-unique g c = rw (← c.self.view_is) (λ h s sane. unique_solutions
    (g.S.ReadStore.content c.run.new.store).world (c.run.ensures.sane h s sane))

pub returns-clause-right : goal.returns-clause-right
returns-clause-right g c = rw (← c.self.view_is) (λ h s sane. right_answers
    (g.S.ReadStore.content c.run.new.store).world (c.run.ensures.sane h s sane))

pub returns-clause-left : goal.returns-clause-left
returns-clause-left g c =
    subst (λ s. IfOk c.run.result (λ replies. LeavesRun (g.S.ReadStore.content s) c.args.requests.now replies.items
    (g.S.ReadStore.content c.run.new.store)))
    c.self.view_is c.run.ensures.left
