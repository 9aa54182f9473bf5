use Rattle.std.proofs.Common.{take}
use Rattle.sqlite.specs.Held.{state}
use Rattle.sqlite.specs.State.{HasCleanDisk}
use Rattle.hall_sql.specs.Standing.{AddsNoOutcome, LeadsConnection}
use Rattle.hall_sql.specs.Scan.{AreScanned}
use Rattle.hall_sql.proofs.scan.check_all_rowids.Given as goal

abbrev pub invariant-loop-table : goal.invariant-loop-table
invariant-loop-table g l =
    let old = state g.S.Store l.fn.conn in
    let now = state g.S.Store l.conn in
    LeadsConnection old now × AddsNoOutcome old now × (HasCleanDisk now → AreScanned (take l.table-index l.tables) old
    now)
