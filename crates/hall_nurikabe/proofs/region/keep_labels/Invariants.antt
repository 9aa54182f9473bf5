use Rattle.hall_nurikabe.proofs.AreKept.{KeptBelow}
use Rattle.hall_nurikabe.proofs.region.keep_labels.Given as goal

abbrev pub invariant-loop-place : goal.invariant-loop-place
invariant-loop-place l = KeptBelow l.partial.places l.value l.place l.fn.labels l.labels
