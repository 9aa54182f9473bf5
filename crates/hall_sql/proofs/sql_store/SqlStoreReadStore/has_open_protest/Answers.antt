use Rattle.hall_sql.proofs.sql_store.SqlStoreReadStore.has_open_protest.Goals as goal

pub returns : goal.returns
returns g c = rw (← c.self.view_is) c.has_open_protest.ensures
