use Rattle.hall_store.proofs.Agrees.{write_agrees, rulings_spare}
use Rattle.hall_store.proofs.cached_store.CachedStoreStore.rule_protest.Goals as goal

pub invariant_of-self : goal.invariant_of-self
invariant_of-self g c =
    write_agrees c.rule_protest-told.result _ (g.S.ReadStore.content c.self.inside.store)
    (g.S.ReadStore.content c.rule_protest-told.new.self) c.self.inside.cache c.forget_if_refused.new.self
    (rulings_spare c.args.key.now c.args.ruling)
    c.self.invariant c.rule_protest-told.ensures.makes c.forget_if_refused.ensures.kept
    c.forget_if_refused.ensures.forgot
