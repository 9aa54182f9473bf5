use Rattle.hall_sql.specs.Tables.{old_schema}
use Rattle.hall_sql.proofs.old_store.OldStore.read_rows.Goals as goal

pub invariant_of-self : goal.invariant_of-self
invariant_of-self g c = (c.read_rows.ensures.rested old_schema c.self.invariant).tabled

pub returns-clause-rested : goal.returns-clause-rested
returns-clause-rested g c = rw (← c.self.view_is) (c.read_rows.ensures.rested old_schema c.self.invariant)

pub returns-clause-cause : goal.returns-clause-cause
returns-clause-cause g c = rw (← c.self.view_is) c.read_rows.ensures.cause
