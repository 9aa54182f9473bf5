use Rattle.hall_sql.proofs.StoreLemmas.{settled_at}
use Rattle.hall_sql.proofs.sql_store.SqlStoreReadStore.at_rest.Goals as goal

pub returns : goal.returns
returns g c = settled_at g.S.Store g.met.S.Store.settled c.args.self.now c.in_hall.ensures
    (rw (← c.self.view_is) c.live.ensures)
