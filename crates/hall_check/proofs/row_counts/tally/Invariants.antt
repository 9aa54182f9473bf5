use Rattle.std.proofs.Common.{take}
use Rattle.hall_check.specs.Tally.{IsTally}
use Rattle.hall_check.proofs.row_counts.tally.Given as goal

-- the rows so far are counted
abbrev pub invariant-loop-row : goal.invariant-loop-row
invariant-loop-row g l = IsTally g.K.Ord.cmp g.K.KeyOf.key_of (take l.row-index l.rows) l.counts.entries
