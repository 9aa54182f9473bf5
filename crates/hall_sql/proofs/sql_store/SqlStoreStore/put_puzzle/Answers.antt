use Rattle.hall_sql.proofs.FailLemmas.{puzzle_fault}
use Rattle.hall_sql.proofs.sql_store.SqlStoreStore.put_puzzle.Goals as goal

pub returns-clause-fault : goal.returns-clause-fault
returns-clause-fault g c =
    rw (← c.self.view_is)
    (puzzle_fault _ _ c.put_puzzle.result c.self.invariant c.args.row c.put_puzzle.ensures.wrote.refused
    c.put_puzzle.ensures.cause)
