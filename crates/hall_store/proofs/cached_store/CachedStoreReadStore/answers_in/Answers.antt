use Rattle.hall_store.proofs.Agrees.{read_agrees}
use Rattle.hall_store.proofs.cached_store.CachedStoreReadStore.answers_in.Goals as goal

pub invariant_of-self : goal.invariant_of-self
invariant_of-self g c =
    read_agrees c.answers_in-told.result (g.S.ReadStore.content c.self.inside.store)
    (g.S.ReadStore.content c.answers_in-told.new.self) c.self.inside.cache c.forget_if_refused.new.self _
    c.self.invariant c.answers_in-told.ensures.kept c.answers_in-told.ensures.served c.forget_if_refused.ensures.kept
    c.forget_if_refused.ensures.forgot
