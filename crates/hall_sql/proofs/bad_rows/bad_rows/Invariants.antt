use Rattle.std.proofs.Common.{take}
use Rattle.sqlite.specs.Held.{state}
use Rattle.sqlite.specs.State.{HasCleanDisk}
use Rattle.hall_sql.specs.BadRows.{AreToldBad}
use Rattle.hall_sql.specs.Standing.{KeptAnyTables}
use Rattle.hall_sql.proofs.bad_rows.bad_rows.Given as goal

abbrev pub invariant-loop-table : goal.invariant-loop-table
invariant-loop-table g l =
    let old = state g.S.Store l.fn.conn in
    let now = state g.S.Store l.conn in
    KeptAnyTables old now × (HasCleanDisk now → AreToldBad (take l.table-index l.tables) old now l.bad.items)
