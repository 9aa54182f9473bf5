use Rattle.hall_sql.proofs.FailLemmas.{ruling_fault}
use Rattle.hall_sql.proofs.sql_store.SqlStoreStore.rule_protest.Goals as goal

pub returns-clause-cause : goal.returns-clause-cause
returns-clause-cause g c = rw (← c.self.view_is) c.rule_protest.ensures.cause

pub returns-clause-fault : goal.returns-clause-fault
returns-clause-fault g c =
    rw (← c.self.view_is)
    (ruling_fault _ _ c.rule_protest.result c.self.invariant c.args.key.now c.args.ruling
    c.rule_protest.ensures.wrote.refused c.rule_protest.ensures.cause)
