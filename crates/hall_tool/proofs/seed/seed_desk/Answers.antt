use Rattle.hall_desk.specs.Desk.{kept_by}
use Rattle.hall_tool.proofs.Seeding.{seeded_is}
use Rattle.hall_tool.proofs.seed.seed_desk.Goals as goal

pub returns-in-Ok-try_seed-clause-seeded : goal.returns-in-Ok-try_seed-clause-seeded
returns-in-Ok-try_seed-clause-seeded g c =
    seeded_is c.args.list.now (g.S.ReadStore.content (kept_by c.args.desk.now))
    (g.S.ReadStore.content (kept_by c.try_seed.new.self)) c.in-Ok-try_seed.reply _
    c.seeded_by.ensures (_, c.in-Ok.ensures, c.in-Ok-try_seed.ensures.seeds)
    c.in-Ok-try_seed.ensures.answered c.in-Ok-try_seed.ensures.quiet
