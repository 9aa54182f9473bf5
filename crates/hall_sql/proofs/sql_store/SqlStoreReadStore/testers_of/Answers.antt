use Rattle.hall_sql.proofs.sql_store.SqlStoreReadStore.testers_of.Goals as goal

pub returns : goal.returns
returns g c = rw (← c.self.view_is) c.testers_of.ensures
