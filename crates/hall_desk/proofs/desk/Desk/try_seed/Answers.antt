use Rattle.std.proofs.Common.{subst, IfOk}
use Rattle.hall_desk.specs.Plans.{Seeds, StopsInSeed}
use Rattle.hall_desk.proofs.desk.Desk.try_seed.Goals as goal

pub returns-clause-seeds : goal.returns-clause-seeds
returns-clause-seeds g c =
    subst (λ s. IfOk c.seed.result (λ reply. (g.S.ReadStore.content c.seed.new.store).honest →
    Seeds (g.S.ReadStore.content s) c.args.people.now reply (g.S.ReadStore.content c.seed.new.store)))
    c.self.view_is c.seed.ensures.seeds

pub returns-clause-stops : goal.returns-clause-stops
returns-clause-stops g c =
    subst (λ s. StopsInSeed (g.S.ReadStore.content s) c.args.people.now (g.S.ReadStore.content c.seed.new.store))
    c.self.view_is c.seed.ensures.stops
