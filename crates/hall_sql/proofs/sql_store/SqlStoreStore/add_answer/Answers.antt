use Rattle.hall_sql.proofs.FailLemmas.{answer_fault}
use Rattle.hall_sql.proofs.sql_store.SqlStoreStore.add_answer.Goals as goal

pub add_answer-requires-clause-can : goal.add_answer-requires-clause-can
add_answer-requires-clause-can g c = rw c.self.view_is c.requires

pub returns-clause-fault : goal.returns-clause-fault
returns-clause-fault g c =
    rw (← c.self.view_is)
    (answer_fault _ _ c.add_answer.result c.self.invariant c.args.row c.add_answer.ensures.wrote.refused
    c.add_answer.ensures.cause)
