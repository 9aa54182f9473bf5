use Rattle.hall_sql.proofs.FailLemmas.{import_fault}
use Rattle.hall_sql.proofs.sql_store.SqlStoreStore.import.Goals as goal

pub returns-clause-fault : goal.returns-clause-fault
returns-clause-fault g c =
    rw (← c.self.view_is)
    (import_fault _ _ c.import.result c.self.invariant g.S.Store c.args.people.now c.import.ensures.wrote.refused
    c.import.ensures.cause)
