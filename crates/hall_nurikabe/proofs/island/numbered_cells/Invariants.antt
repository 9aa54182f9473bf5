use Rattle.hall_grid.specs.Nurikabe.{IsNumbered}
use Rattle.hall_nurikabe.proofs.Marks.{MarksBelow}
use Rattle.hall_nurikabe.proofs.island.numbered_cells.Given as goal

abbrev pub invariant-loop-cell : goal.invariant-loop-cell
invariant-loop-cell l = MarksBelow (IsNumbered l.puzzle) l.cell l.marks.items
