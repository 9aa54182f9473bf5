use Rattle.hall_sql.proofs.FailLemmas.{state_fault}
use Rattle.hall_sql.proofs.sql_store.SqlStoreStore.set_state.Goals as goal

pub returns-clause-cause : goal.returns-clause-cause
returns-clause-cause g c = rw (← c.self.view_is) c.set_state.ensures.cause

pub returns-clause-fault : goal.returns-clause-fault
returns-clause-fault g c =
    rw (← c.self.view_is)
    (state_fault _ _ c.set_state.result c.self.invariant c.args.key.now c.args.known c.set_state.ensures.wrote.refused
    c.set_state.ensures.cause)
