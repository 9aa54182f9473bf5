use Rattle.hall_nurikabe.proofs.AreSources.{SourcesBelow}
use Rattle.hall_nurikabe.proofs.steps.find_sources.Given as goal

abbrev pub invariant-loop-cell : goal.invariant-loop-cell
invariant-loop-cell l = SourcesBelow l.position.puzzle.now l.labels l.sizes l.owners l.position.partial.now.places
    l.cell l.left.items l.free.items
