use Rattle.hall_store.proofs.Agrees.{read_agrees}
use Rattle.hall_store.proofs.cached_store.CachedStoreReadStore.people.Goals as goal

pub invariant_of-self : goal.invariant_of-self
invariant_of-self g c =
    read_agrees c.people-told.result (g.S.ReadStore.content c.self.inside.store)
    (g.S.ReadStore.content c.people-told.new.self) c.self.inside.cache c.forget_if_refused.new.self _
    c.self.invariant c.people-told.ensures.kept c.people-told.ensures.served c.forget_if_refused.ensures.kept
    c.forget_if_refused.ensures.forgot
