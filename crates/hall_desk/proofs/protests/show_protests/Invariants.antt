use Rattle.std.proofs.Common.{◌≡◌, map, take}
use Rattle.hall_desk.specs.Shown.{protest_line}
use Rattle.hall_desk.proofs.protests.show_protests.Given as goal

-- the lines so far show the rows so far
abbrev pub invariant-loop-row : goal.invariant-loop-row
invariant-loop-row l = l.lines.items ≡ map protest_line (take l.row-index l.rows)
