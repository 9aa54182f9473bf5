use Rattle.std.proofs.Common.{◌≡◌, drop, IsTrue}
use Rattle.sqlite.specs.Held.{state}
use Rattle.sqlite.specs.State.{HasCleanDisk}
use Rattle.hall_sql.specs.Inside.{LeadsUncommitted}
use Rattle.hall_sql.specs.Made.{HasGrown}
use Rattle.hall_sql.proofs.make.make_tables.Given as goal

abbrev pub invariant-loop-table : goal.invariant-loop-table
invariant-loop-table g l =
    let base = state g.S.Store l.fn.tx.conn.now in
    let now = state g.S.Store l.tx.conn.now in
    (l.tx.conn.ghost_name ≡ l.fn.tx.conn.ghost_name) × LeadsUncommitted base now
    × (HasCleanDisk now → IsTrue base.in_transaction → HasGrown l.tables (drop l.table-index l.tables) base now)
