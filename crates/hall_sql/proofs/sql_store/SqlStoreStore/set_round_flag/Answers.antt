use Rattle.hall_sql.proofs.FailLemmas.{flag_fault}
use Rattle.hall_sql.proofs.sql_store.SqlStoreStore.set_round_flag.Goals as goal

pub returns-clause-cause : goal.returns-clause-cause
returns-clause-cause g c = rw (← c.self.view_is) c.set_round_flag.ensures.cause

pub returns-clause-fault : goal.returns-clause-fault
returns-clause-fault g c =
    rw (← c.self.view_is)
    (flag_fault _ _ c.set_round_flag.result c.self.invariant c.args.id.now c.args.flag
    c.set_round_flag.ensures.wrote.refused c.set_round_flag.ensures.cause)
