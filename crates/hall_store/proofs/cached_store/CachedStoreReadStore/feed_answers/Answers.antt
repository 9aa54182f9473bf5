use Rattle.hall_store.specs.Store.{IsListing, is_between}
use Rattle.hall_store.proofs.Agrees.{fed_agrees}
use Rattle.hall_store.proofs.cached_store.CachedStoreReadStore.feed_answers.Goals as goal

pub invariant_of-self : goal.invariant_of-self
invariant_of-self g c =
    fed_agrees c.feed_answers-told.result (g.S.ReadStore.content c.self.inside.store)
    (g.S.ReadStore.content c.feed_answers-told.new.self) c.self.inside.cache c.forget_if_refused.new.self
    g.K.Sink.takes (λ world rows. IsListing world (is_between c.args.round.now c.args.after.now c.args.last.now) rows)
    c.args.sink.now c.feed_answers-told.new.sink
    c.self.invariant c.feed_answers-told.ensures.kept c.feed_answers-told.ensures.fed c.forget_if_refused.ensures.kept
    c.forget_if_refused.ensures.forgot

pub returns-clause-fault : goal.returns-clause-fault
returns-clause-fault g c = rw (← c.self.view_is) c.feed_answers-told.ensures.fault
