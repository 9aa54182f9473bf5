use Rattle.hall_sql.proofs.FailLemmas.{put_round_fault}
use Rattle.hall_sql.proofs.sql_store.SqlStoreStore.put_round.Goals as goal

pub returns-clause-fault : goal.returns-clause-fault
returns-clause-fault g c =
    rw (← c.self.view_is)
    (put_round_fault _ _ c.put_round.result c.self.invariant c.args.row c.put_round.ensures.wrote.refused
    c.put_round.ensures.cause)
