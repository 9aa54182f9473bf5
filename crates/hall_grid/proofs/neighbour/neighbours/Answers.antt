use Rattle.hall_grid.proofs.Beside.{touching_are}
use Rattle.hall_grid.proofs.neighbour.neighbours.Goals as goal

pub returns-clause-touching : goal.returns-clause-touching
returns-clause-touching c =
    touching_are c.args.size c.args.cell _ _ _ _ c.above.ensures c.left.ensures c.right.ensures c.below.ensures
