use Rattle.hall_grid.specs.Reached.{IsMarked}
use Rattle.hall_nurikabe.specs.Steps.{AreSources, FallsByOne}
use Rattle.hall_nurikabe.proofs.steps.steps_left.Given as goal

abbrev pub invariant-loop-reach : goal.invariant-loop-reach
invariant-loop-reach l = record {
  sources : AreSources l.position.puzzle.now l.position.partial.now.places l.labels l.sizes l.owners
      (IsMarked l.free.items) l.left.items;
  falls : FallsByOne l.position.puzzle.now.size (IsMarked l.free.items) l.left.items l.reach;
}

abbrev pub decreases-loop-reach : goal.decreases-loop-reach
decreases-loop-reach l = l.reach
