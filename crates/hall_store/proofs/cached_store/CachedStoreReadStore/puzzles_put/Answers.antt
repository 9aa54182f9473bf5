use Rattle.hall_store.proofs.Agrees.{read_agrees}
use Rattle.hall_store.proofs.cached_store.CachedStoreReadStore.puzzles_put.Goals as goal

pub invariant_of-self : goal.invariant_of-self
invariant_of-self g c =
    read_agrees c.puzzles_put-told.result (g.S.ReadStore.content c.self.inside.store)
    (g.S.ReadStore.content c.puzzles_put-told.new.self) c.self.inside.cache c.forget_if_refused.new.self _
    c.self.invariant c.puzzles_put-told.ensures.kept c.puzzles_put-told.ensures.served c.forget_if_refused.ensures.kept
    c.forget_if_refused.ensures.forgot
