use Rattle.std.proofs.Common.{sym, subst}
use Rattle.hall_store.specs.Store.{Asks}
use Rattle.hall_store.specs.Change.{CanPutRound}
use Rattle.hall_store.proofs.cached_store.CachedStoreStore.put_round.Goals as goal

pub put_round-requires : goal.put_round-requires
put_round-requires g c = subst (λ s. Asks (g.S.ReadStore.content s) (λ world. CanPutRound world c.args.row))
    (sym c.self.view_is) c.requires
