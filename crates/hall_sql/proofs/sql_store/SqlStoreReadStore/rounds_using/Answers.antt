use Rattle.hall_sql.proofs.sql_store.SqlStoreReadStore.rounds_using.Goals as goal

pub returns : goal.returns
returns g c = rw (← c.self.view_is) c.rounds_using.ensures
