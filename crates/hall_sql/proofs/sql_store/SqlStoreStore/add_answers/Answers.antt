use Rattle.hall_sql.proofs.FailLemmas.{joint_fault}
use Rattle.hall_sql.proofs.sql_store.SqlStoreStore.add_answers.Goals as goal

pub add_answers-requires-clause-can : goal.add_answers-requires-clause-can
add_answers-requires-clause-can g c = rw c.self.view_is c.requires

pub returns-clause-fault : goal.returns-clause-fault
returns-clause-fault g c =
    rw (← c.self.view_is)
    (joint_fault _ _ c.add_answers.result c.self.invariant c.args.rows.now c.add_answers.ensures.wrote.refused
    c.add_answers.ensures.cause)
