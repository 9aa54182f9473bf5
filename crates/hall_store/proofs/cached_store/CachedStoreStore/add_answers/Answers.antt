use Rattle.hall_store.proofs.Agrees.{write_agrees, joint_spare}
use Rattle.hall_store.proofs.cached_store.CachedStoreStore.add_answers.Goals as goal

pub invariant_of-self : goal.invariant_of-self
invariant_of-self g c =
    write_agrees c.add_answers-told.result _ (g.S.ReadStore.content c.self.inside.store)
    (g.S.ReadStore.content c.add_answers-told.new.self) c.self.inside.cache c.forget_if_refused.new.self
    (joint_spare c.args.rows.now)
    c.self.invariant c.add_answers-told.ensures.makes c.forget_if_refused.ensures.kept c.forget_if_refused.ensures.forgot
