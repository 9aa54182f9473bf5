use Rattle.std.proofs.Common.{sym, subst}
use Rattle.hall_store.specs.Store.{Asks}
use Rattle.hall_store.specs.Change.{CanPutPuzzle}
use Rattle.hall_store.proofs.cached_store.CachedStoreStore.put_puzzle.Goals as goal

pub put_puzzle-requires : goal.put_puzzle-requires
put_puzzle-requires g c = subst (λ s. Asks (g.S.ReadStore.content s) (λ world. CanPutPuzzle world c.args.row))
    (sym c.self.view_is) c.requires
