use Rattle.std.proofs.Common.{take}
use Rattle.hall_sql.specs.BadRows.{AreNone}
use Rattle.hall_sql.proofs.bad_rows.is_whole.Given as goal

abbrev pub invariant-loop-rows : goal.invariant-loop-rows
invariant-loop-rows l = AreNone (take l.rows-index l.bad)
