use Rattle.std.proofs.Common.{sym, subst}
use Rattle.hall_store.specs.Store.{Asks}
use Rattle.hall_store.specs.Change.{CanSetState}
use Rattle.hall_store.proofs.cached_store.CachedStoreStore.set_state.Goals as goal

pub set_state-requires : goal.set_state-requires
set_state-requires g c = subst (λ s. Asks (g.S.ReadStore.content s) (λ world. CanSetState world c.args.key.now))
    (sym c.self.view_is) c.requires
