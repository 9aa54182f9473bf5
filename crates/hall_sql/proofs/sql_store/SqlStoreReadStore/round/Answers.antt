use Rattle.hall_sql.proofs.sql_store.SqlStoreReadStore.round.Goals as goal

pub returns : goal.returns
returns g c = rw (← c.self.view_is) c.round.ensures
