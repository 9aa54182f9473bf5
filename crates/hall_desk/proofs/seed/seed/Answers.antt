use Rattle.hall_desk.proofs.Seeding.{seeds_sane}
use Rattle.hall_desk.proofs.seed.seed.Goals as goal

pub returns-clause-sane : goal.returns-clause-sane
returns-clause-sane g c =
    seeds_sane c.make_seed-made.result (g.S.ReadStore.content c.args.store.now)
    (g.S.ReadStore.content c.make_seed-made.new.store) c.args.people.now
    c.in_range.ensures.list c.in_range.ensures.each c.make_seed-made.ensures.leads c.make_seed-made.ensures.left
    c.make_seed-made.ensures.seeds
