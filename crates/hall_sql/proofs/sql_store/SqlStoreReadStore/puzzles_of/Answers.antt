use Rattle.hall_sql.proofs.sql_store.SqlStoreReadStore.puzzles_of.Goals as goal

pub returns : goal.returns
returns g c = rw (← c.self.view_is) c.puzzles_of.ensures
