use Rattle.hall_sql.proofs.MigrationLemmas.{source_settled}
use Rattle.hall_sql.proofs.old_store.OldStore.at_rest.Goals as goal

pub returns : goal.returns
returns g c = source_settled g.S.Store g.met.S.Store.settled c.args.self.now c.in_old_hall.ensures
    (rw (← c.self.view_is) c.live.ensures)
