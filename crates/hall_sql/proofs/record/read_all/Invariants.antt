use Rattle.std.proofs.Common.{◌≡◌, map, Some, take}
use Rattle.hall_sql.proofs.record.read_all.Given as goal

abbrev pub invariant-loop-row : goal.invariant-loop-row
invariant-loop-row g l = map g.T.Record.read (take l.row-index l.rows) ≡ map Some l.records.items
