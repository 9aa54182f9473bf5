use Rattle.std.proofs.Common.{arith}
use Rattle.sqlite.specs.State.{HasCleanDisk}
use Rattle.sqlite.specs.Files.{file_state}
use Rattle.hall_sql.proofs.StoppedLemmas.{stops_find, stops_found, stops_hold, stops_leave}
use Rattle.hall_sql.proofs.open.let_go.Goals as goal

pub returns-clause-stopped : goal.returns-clause-stopped
returns-clause-stopped g c =
    stops_found c.into_store.result (file_state c.args.store) c.into_store.ensures.numbered c.into_store.ensures.sound
    (rw c.into_connection-conn.ensures.same at c.into_store.ensures.quiet.outcomes)

pub returns-clause-left : goal.returns-clause-left
returns-clause-left g c clean = stops_leave c.into_store.result (file_state c.args.store)
    (returns-clause-stopped g c clean)

pub returns-clause-holds : goal.returns-clause-holds
returns-clause-holds g c =
    stops_hold c.into_store.result (file_state c.args.store) c.into_store.ensures.numbered c.into_store.ensures.sound
    (rw c.into_connection-conn.ensures.same at c.into_store.ensures.quiet.outcomes)
    (rw c.into_connection-conn.ensures.same at c.into_connection-conn.ensures.hall)
    (rw c.into_connection-conn.ensures.same at c.schema-schema.ensures.live) c.at_rest.ensures
    (λ clean. let was : HasCleanDisk (file_state c.args.store) = omega
    (arith, (rw c.into_connection-conn.ensures.same at c.into_store.ensures.quiet).clean, clean) in was)

pub returns-clause-rested : goal.returns-clause-rested
returns-clause-rested g c =
    stops_find c.into_store.result (file_state c.args.store) c.into_store.ensures.numbered c.into_store.ensures.sound
    (rw c.into_connection-conn.ensures.same at c.into_store.ensures.quiet.outcomes)
    (rw c.into_connection-conn.ensures.same at c.into_connection-conn.ensures.hall)
    (rw c.into_connection-conn.ensures.same at c.schema-schema.ensures.live) c.at_rest.ensures
    (λ clean. let was : HasCleanDisk (file_state c.args.store) = omega
    (arith, (rw c.into_connection-conn.ensures.same at c.into_store.ensures.quiet).clean, clean) in was)
