use Rattle.hall_nurikabe.specs.Counts.{AreCounts}
use Rattle.hall_nurikabe.proofs.island.count_by_label.Given as goal

abbrev pub invariant-loop-cell : goal.invariant-loop-cell
invariant-loop-cell l = AreCounts l.labels l.marks l.cell l.counts.items
