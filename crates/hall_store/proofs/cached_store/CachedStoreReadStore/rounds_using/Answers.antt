use Rattle.hall_store.proofs.Agrees.{read_agrees}
use Rattle.hall_store.proofs.cached_store.CachedStoreReadStore.rounds_using.Goals as goal

pub invariant_of-self : goal.invariant_of-self
invariant_of-self g c =
    read_agrees c.rounds_using-told.result (g.S.ReadStore.content c.self.inside.store)
    (g.S.ReadStore.content c.rounds_using-told.new.self) c.self.inside.cache c.forget_if_refused.new.self _
    c.self.invariant c.rounds_using-told.ensures.kept c.rounds_using-told.ensures.served
    c.forget_if_refused.ensures.kept c.forget_if_refused.ensures.forgot
