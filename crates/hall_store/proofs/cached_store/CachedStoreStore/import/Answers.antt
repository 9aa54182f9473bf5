use Rattle.std.proofs.Common.{sym, subst}
use Rattle.hall_store.specs.Store.{Asks}
use Rattle.hall_store.specs.Change.{CanImport}
use Rattle.hall_store.proofs.cached_store.CachedStoreStore.import.Goals as goal

pub import-requires : goal.import-requires
import-requires g c = subst (λ s. Asks (g.S.ReadStore.content s) (λ world. CanImport world c.args.people.now))
    (sym c.self.view_is) c.requires
