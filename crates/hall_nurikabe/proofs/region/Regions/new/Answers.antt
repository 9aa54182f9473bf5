use Rattle.hall_nurikabe.proofs.AreBroken.{AreCells-from_regions}
use Rattle.hall_nurikabe.proofs.AreRegions.{AreRegions-from_AreCounts}
use Rattle.hall_nurikabe.proofs.region.Regions.new.Goals as goal

pub count_by_label-requires-clause-labels : goal.count_by_label-requires-clause-labels
count_by_label-requires-clause-labels c = rw c.deref.ensures.value
    (AreCells-from_regions _ c.args.size _ _ c.in_ok-labels.ensures)

pub returns : goal.returns
returns c = AreRegions-from_AreCounts c.args.size _ _ _ c.in_ok-labels.ensures
    (rw c.deref.ensures.value at c.in_ok-sizes.ensures)
