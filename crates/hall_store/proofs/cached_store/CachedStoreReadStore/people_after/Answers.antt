use Rattle.hall_store.proofs.Agrees.{read_agrees}
use Rattle.hall_store.proofs.cached_store.CachedStoreReadStore.people_after.Goals as goal

pub invariant_of-self : goal.invariant_of-self
invariant_of-self g c =
    read_agrees c.people_after-told.result (g.S.ReadStore.content c.self.inside.store)
    (g.S.ReadStore.content c.people_after-told.new.self) c.self.inside.cache c.forget_if_refused.new.self _
    c.self.invariant c.people_after-told.ensures.kept c.people_after-told.ensures.served
    c.forget_if_refused.ensures.kept c.forget_if_refused.ensures.forgot
