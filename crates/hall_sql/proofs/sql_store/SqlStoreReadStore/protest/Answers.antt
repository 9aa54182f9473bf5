use Rattle.hall_sql.proofs.sql_store.SqlStoreReadStore.protest.Goals as goal

pub returns : goal.returns
returns g c = rw (← c.self.view_is) c.protest.ensures.reads
