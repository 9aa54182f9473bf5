use Rattle.hall_store.proofs.Agrees.{read_agrees}
use Rattle.hall_store.proofs.cached_store.CachedStoreReadStore.protests_of.Goals as goal

pub invariant_of-self : goal.invariant_of-self
invariant_of-self g c =
    read_agrees c.protests_of-told.result (g.S.ReadStore.content c.self.inside.store)
    (g.S.ReadStore.content c.protests_of-told.new.self) c.self.inside.cache c.forget_if_refused.new.self _
    c.self.invariant c.protests_of-told.ensures.kept c.protests_of-told.ensures.served c.forget_if_refused.ensures.kept
    c.forget_if_refused.ensures.forgot
