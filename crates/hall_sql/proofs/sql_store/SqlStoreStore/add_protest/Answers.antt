use Rattle.hall_sql.proofs.FailLemmas.{protest_fault}
use Rattle.hall_sql.proofs.sql_store.SqlStoreStore.add_protest.Goals as goal

pub returns-clause-fault : goal.returns-clause-fault
returns-clause-fault g c =
    rw (← c.self.view_is)
    (protest_fault _ _ c.add_protest.result c.self.invariant c.args.row c.add_protest.ensures.wrote.refused
    c.add_protest.ensures.cause)
