use Rattle.hall_nurikabe.proofs.AreRegions.{OwnersBelow}
use Rattle.hall_nurikabe.proofs.region.owners.Given as goal

abbrev pub invariant-loop-cell : goal.invariant-loop-cell
invariant-loop-cell l = OwnersBelow l.puzzle l.labels l.owners.items l.cell
