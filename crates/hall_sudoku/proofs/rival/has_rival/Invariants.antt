use Rattle.std.proofs.Common.{◌≤◌}
use Rattle.hall_sudoku.specs.Rival.{HasRival}
use Rattle.hall_sudoku.proofs.rival.has_rival.Given as goal

-- the cells so far are no rivals
abbrev pub invariant-loop-other : goal.invariant-loop-other
invariant-loop-other l = record { later : (h : HasRival l.units l.partial.places l.fn.cell) → l.other ≤ h.other }
