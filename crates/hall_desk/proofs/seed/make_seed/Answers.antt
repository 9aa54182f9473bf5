use Rattle.hall_desk.proofs.Stepping.{once_after}
use Rattle.hall_desk.proofs.Seeding.{seed_fails, seed_made, seed_refused, seed_quiet, seed_stops, seed_answered}
use Rattle.hall_desk.proofs.seed.make_seed.Goals as goal

pub returns-clause-seeds : goal.returns-clause-seeds
returns-clause-seeds g c =
    let made = c.commit.ensures in
    let plan = c.in_ok-plan.ensures in
    seed_made g.S.ReadStore.content (g.S.ReadStore.content c.args.store.now) c.plan_seed.new.store c.commit.new.store
    c.args.people.now c.in_ok-plan.plan plan.kept made.leads
    c.commit.result plan.asked plan.told.1 made.nothing made.made made.reply

pub returns-clause-left : goal.returns-clause-left
returns-clause-left g c =
    let made = c.commit.ensures in
    let plan = c.in_ok-plan.ensures in
    seed_refused g.S.ReadStore.content (g.S.ReadStore.content c.args.store.now) c.plan_seed.new.store c.commit.new.store
    c.args.people.now c.in_ok-plan.plan plan.kept made.leads
    c.commit.result (λ none. (made.nothing none).0) made.made

pub returns-clause-answered : goal.returns-clause-answered
returns-clause-answered g c = seed_answered c.commit.result c.in_ok-plan.plan c.in_ok-plan.ensures.answered
    c.commit.ensures.reply

pub returns-clause-quiet : goal.returns-clause-quiet
returns-clause-quiet g c =
    let made = c.commit.ensures in
    let plan = c.in_ok-plan.ensures in
    seed_quiet g.S.ReadStore.content (g.S.ReadStore.content c.args.store.now) c.plan_seed.new.store c.commit.new.store
    c.args.people.now c.in_ok-plan.plan plan.kept made.leads
    c.commit.result plan.denied (λ none. (made.nothing none).1) made.reply

pub returns-clause-once : goal.returns-clause-once
returns-clause-once g c =
    once_after (g.S.ReadStore.content c.args.store.now) (g.S.ReadStore.content c.plan_seed.new.store)
    (g.S.ReadStore.content c.commit.new.store) c.in_ok-plan.ensures.kept c.commit.ensures.once

pub returns-clause-stops : goal.returns-clause-stops
returns-clause-stops g c =
    let plan = c.in_ok-plan.ensures in
    seed_stops g.S.ReadStore.content (g.S.ReadStore.content c.args.store.now) c.plan_seed.new.store c.commit.new.store
    c.args.people.now c.in_ok-plan.plan plan.kept c.commit.ensures.leads
    plan.told.0 plan.told.1 c.commit.ensures.stops

pub returns-clause-fault : goal.returns-clause-fault
returns-clause-fault g c =
    let plan = c.in_ok-plan.ensures in
    seed_fails c.commit.result c.args.people.now c.in_ok-plan.plan.change (g.S.ReadStore.content c.args.store.now)
    (g.S.ReadStore.content c.plan_seed.new.store) (g.S.ReadStore.content c.commit.new.store) plan.changes
    (λ none. (c.commit.ensures.nothing none).0) plan.kept.counts c.commit.ensures.fault
