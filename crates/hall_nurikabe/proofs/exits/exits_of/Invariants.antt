use Rattle.hall_nurikabe.specs.Exit.{KnowsExits}
use Rattle.hall_nurikabe.proofs.exits.exits_of.Given as goal

abbrev pub invariant-loop-cell : goal.invariant-loop-cell
invariant-loop-cell l = KnowsExits l.position.puzzle.now.size l.position.partial.now.places l.labels l.cell
    l.exits.items
