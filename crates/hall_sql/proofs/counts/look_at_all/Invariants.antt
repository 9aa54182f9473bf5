use Rattle.std.proofs.Common.{take}
use Rattle.hall_sql.specs.Counts.{AreReadAs}
use Rattle.hall_sql.proofs.counts.look_at_all.Given as goal

-- the rows up to here are records
abbrev pub invariant-loop-row : goal.invariant-loop-row
invariant-loop-row g l = AreReadAs g.T.Counted.counts (take l.row-index l.rows)
