use Rattle.std.proofs.Common.{inl, inr, refl, sym}
use Rattle.hall_desk.specs.declared.reply.Reply.TheVariants.{Unavailable}
use Rattle.hall_store.specs.declared.fault.StoreFault.{StoreFault}
use Rattle.hall_desk.proofs.Stepping.{committed, planned_steps, planned_quiet, planned_stops, same_stops}
use Rattle.hall_desk.proofs.step.make_step.Goals as goal

pub returns-in-Ok-commit-clause-steps : goal.returns-in-Ok-commit-clause-steps
returns-in-Ok-commit-clause-steps g c =
    let made = c.in-Ok-commit.ensures in
    planned_steps c.args.t c.args.request.now StoreFault (g.S.ReadStore.content c.args.store.now)
    (g.S.ReadStore.content c.make_plan-made.new.store) (g.S.ReadStore.content c.commit.new.store)
    c.in-Ok.plan c.in-Ok-commit.reply c.in-Ok.ensures.kept c.in-Ok.ensures.planned made.leads made.reply
    (committed StoreFault g.S.ReadStore.content c.make_plan-made.new.store c.commit.new.store c.in-Ok.plan.change
    c.in-Ok-commit.reply (λ none. (made.nothing none).1) made.made)

pub returns-in-Ok-commit-clause-quiet : goal.returns-in-Ok-commit-clause-quiet
returns-in-Ok-commit-clause-quiet g c =
    let made = c.in-Ok-commit.ensures in
    planned_quiet g.S.ReadStore.content (g.S.ReadStore.content c.args.store.now) c.make_plan-made.new.store
    c.commit.new.store c.in-Ok.plan c.in-Ok.ensures.kept
    (λ none. (made.nothing none).1) StoreFault c.args.t c.args.request.now c.in-Ok.ensures.planned made.leads

pub returns-in-Err-commit-clause-quiet : goal.returns-in-Err-commit-clause-quiet
returns-in-Err-commit-clause-quiet g c =
    let made = c.in-Err-commit.ensures in
    planned_quiet g.S.ReadStore.content (g.S.ReadStore.content c.args.store.now) c.make_plan-made.new.store
    c.commit.new.store c.in-Ok.plan c.in-Ok.ensures.kept
    (λ none. (made.nothing none).1) StoreFault c.args.t c.args.request.now c.in-Ok.ensures.planned made.leads

pub returns-in-Ok-commit-clause-stops : goal.returns-in-Ok-commit-clause-stops
returns-in-Ok-commit-clause-stops g c =
    let made = c.in-Ok-commit.ensures in
    planned_stops c.args.t c.args.request.now StoreFault (g.S.ReadStore.content c.args.store.now)
    (g.S.ReadStore.content c.make_plan-made.new.store) (g.S.ReadStore.content c.commit.new.store)
    c.in-Ok.plan c.in-Ok-commit.reply (inl (sym made.reply)) c.in-Ok.ensures.kept c.in-Ok.ensures.planned made.leads
    (λ none. same_stops g.S.ReadStore.content c.make_plan-made.new.store c.commit.new.store (made.nothing none).1)
    made.stops

pub returns-in-Err-commit-clause-stops : goal.returns-in-Err-commit-clause-stops
returns-in-Err-commit-clause-stops g c =
    let made = c.in-Err-commit.ensures in
    planned_stops c.args.t c.args.request.now StoreFault (g.S.ReadStore.content c.args.store.now)
    (g.S.ReadStore.content c.make_plan-made.new.store) (g.S.ReadStore.content c.commit.new.store)
    c.in-Ok.plan Unavailable (inr refl) c.in-Ok.ensures.kept c.in-Ok.ensures.planned made.leads
    (λ none. same_stops g.S.ReadStore.content c.make_plan-made.new.store c.commit.new.store (made.nothing none).1)
    made.stops
