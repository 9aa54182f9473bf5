use Rattle.std.proofs.Common.{◌-◌}
use Rattle.hall_grid.specs.Board.{cells}
use Rattle.hall_nurikabe.proofs.IsFound.{Grouping}
use Rattle.hall_nurikabe.proofs.group.find.Given as goal

abbrev pub invariant-loop-at : goal.invariant-loop-at
invariant-loop-at l =
    Grouping l.position.puzzle.now.size l.position.partial.now.places l.value l.from l.group.places.items
    l.group.cells.items l.group.exits l.at

abbrev pub decreases-loop-at : goal.decreases-loop-at
decreases-loop-at l = cells l.position.puzzle.now.size - l.at
