use Rattle.hall_nurikabe.proofs.AreBroken.{AreCells-from_regions}
use Rattle.hall_nurikabe.proofs.branch.next_beside.Goals as goal

pub owners-requires-clause-labels : goal.owners-requires-clause-labels
owners-requires-clause-labels c = AreCells-from_regions _ c.args.position.now.puzzle.now.size _ _ c.requires.components

pub count_exits-requires-clause-labels : goal.count_exits-requires-clause-labels
count_exits-requires-clause-labels c = AreCells-from_regions _ c.args.position.now.puzzle.now.size _ _
    c.requires.components

pub most_known-requires-clause-labels : goal.most_known-requires-clause-labels
most_known-requires-clause-labels c = AreCells-from_regions _ c.args.position.now.puzzle.now.size _ _
    c.requires.components
