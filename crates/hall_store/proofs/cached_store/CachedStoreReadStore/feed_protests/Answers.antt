use Rattle.std.proofs.Common.{◌≡◌}
use Rattle.hall_store.specs.Store.{protests_in}
use Rattle.hall_store.proofs.Agrees.{fed_agrees}
use Rattle.hall_store.proofs.cached_store.CachedStoreReadStore.feed_protests.Goals as goal

pub invariant_of-self : goal.invariant_of-self
invariant_of-self g c =
    fed_agrees c.feed_protests-told.result (g.S.ReadStore.content c.self.inside.store)
    (g.S.ReadStore.content c.feed_protests-told.new.self) c.self.inside.cache c.forget_if_refused.new.self
    g.K.Sink.takes (λ world rows. rows ≡ protests_in world c.args.round.now) c.args.sink.now
    c.feed_protests-told.new.sink
    c.self.invariant c.feed_protests-told.ensures.kept c.feed_protests-told.ensures.fed c.forget_if_refused.ensures.kept
    c.forget_if_refused.ensures.forgot

pub returns-clause-fault : goal.returns-clause-fault
returns-clause-fault g c = rw (← c.self.view_is) c.feed_protests-told.ensures.fault
