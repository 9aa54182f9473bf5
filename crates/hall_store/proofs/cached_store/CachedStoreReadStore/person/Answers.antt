use Rattle.hall_store.proofs.Agrees.{read_agrees}
use Rattle.hall_store.proofs.cached_store.CachedStoreReadStore.person.Goals as goal

pub invariant_of-self : goal.invariant_of-self
invariant_of-self g c =
    read_agrees c.person-told.result (g.S.ReadStore.content c.self.inside.store)
    (g.S.ReadStore.content c.person-told.new.self) c.self.inside.cache c.forget_if_refused.new.self _
    c.self.invariant c.person-told.ensures.kept c.person-told.ensures.served c.forget_if_refused.ensures.kept
    c.forget_if_refused.ensures.forgot
