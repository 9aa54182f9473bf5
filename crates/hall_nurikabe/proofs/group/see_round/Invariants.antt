use Rattle.hall_grid.proofs.Labelling.{AmongFirst}
use Rattle.hall_nurikabe.specs.Group.{Sees}
use Rattle.hall_nurikabe.proofs.group.see_round.Given as goal

abbrev pub invariant-loop-place : goal.invariant-loop-place
invariant-loop-place l =
    Sees l.position.puzzle.now.size l.position.partial.now.places l.value (AmongFirst l.place-items l.place-index)
    l.group.places.items l.fn.group.cells.items l.group.cells.items l.fn.group.exits l.group.exits
