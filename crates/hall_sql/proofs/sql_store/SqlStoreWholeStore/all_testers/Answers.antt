use Rattle.hall_sql.proofs.sql_store.SqlStoreWholeStore.all_testers.Goals as goal

pub returns : goal.returns
returns g c = rw (← c.self.view_is) c.all_testers.ensures
