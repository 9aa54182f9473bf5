use Rattle.std.proofs.Common.{◌≡◌}
use Rattle.sqlite.specs.Held.{state}
use Rattle.sqlite.specs.State.{HasCleanDisk, IsUnchanged}
use Rattle.hall_sql.specs.Standing.{AddsNoOutcome, LeadsConnection}
use Rattle.hall_sql.specs.Statements.{rowids_text}
use Rattle.hall_sql.specs.Scan.{HasScanned}
use Rattle.hall_sql.proofs.scan.check_rowids.Given as goal

abbrev pub invariant-scan : goal.invariant-scan
invariant-scan g l =
    let old = state g.S.Store l.fn.conn in
    let now = state g.S.Store l.rows.conn.now in
    (l.rows.conn.ghost_name ≡ l.initial.rows.conn.ghost_name) × LeadsConnection old now × AddsNoOutcome old now
    × (HasCleanDisk now → IsUnchanged old now × HasScanned g.S.Store (rowids_text l.fn.table) l.rows.conn.now l.last)
