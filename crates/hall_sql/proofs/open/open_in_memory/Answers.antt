use Rattle.hall_sql.proofs.OpenedLemmas.{bare_in_memory, empty_in_memory, memory_serves, refused_in_memory}
use Rattle.hall_sql.proofs.open.open_in_memory.Goals as goal

pub returns-in-Ok-clause-empty : goal.returns-in-Ok-clause-empty
returns-in-Ok-clause-empty c = empty_in_memory c.in_ok-conn.conn c.in-Ok.store c.in_ok-conn.ensures.empty
    c.in-Ok.ensures.adopted

pub returns-in-Ok-clause-bare : goal.returns-in-Ok-clause-bare
returns-in-Ok-clause-bare c = bare_in_memory c.in_ok-conn.conn c.in-Ok.store c.in_ok-conn.ensures.empty
    c.in-Ok.ensures.adopted

pub returns-in-Err-clause-cause : goal.returns-in-Err-clause-cause
returns-in-Err-clause-cause c failed =
    refused_in_memory c.in_ok-conn.conn c.in-Err.field-0.conn c.in_ok-conn.ensures.empty
    c.in_ok-conn.ensures.fresh.unlimited
    (c.in-Err.ensures.cause (memory_serves c.in-Err.field-0.conn).0 failed)
