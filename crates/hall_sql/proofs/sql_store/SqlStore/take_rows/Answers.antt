use Rattle.hall_sql.proofs.sql_store.SqlStore.take_rows.Goals as goal

pub returns-clause-stops : goal.returns-clause-stops
returns-clause-stops g c = rw (← c.self.view_is) c.take_rows.ensures.stops

pub returns-clause-cause : goal.returns-clause-cause
returns-clause-cause g c = rw (← c.self.view_is) c.take_rows.ensures.cause
