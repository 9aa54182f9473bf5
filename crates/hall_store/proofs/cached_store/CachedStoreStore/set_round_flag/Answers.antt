use Rattle.std.proofs.Common.{sym, subst}
use Rattle.hall_store.specs.Store.{Asks}
use Rattle.hall_store.specs.Change.{CanSetFlag}
use Rattle.hall_store.proofs.cached_store.CachedStoreStore.set_round_flag.Goals as goal

pub set_round_flag-requires : goal.set_round_flag-requires
set_round_flag-requires g c = subst (λ s. Asks (g.S.ReadStore.content s) (λ world. CanSetFlag world c.args.id.now))
    (sym c.self.view_is) c.requires
