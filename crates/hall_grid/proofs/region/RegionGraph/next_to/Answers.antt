use Rattle.std.proofs.Common.{inr}
use Rattle.hall_grid.specs.Board.{cells}
use Rattle.hall_grid.specs.RegionLaws.{marked_below}
use Rattle.hall_grid.proofs.Beside.{padded_touching, padded_among}
use Rattle.hall_grid.proofs.region.RegionGraph.next_to.Goals as goal

pub returns-clause-below : goal.returns-clause-below
returns-clause-below c = λ other h.
    let around = c.neighbours.ensures in
    (padded_touching c.args.self.now.size c.args.node _ _ _ _ around.up around.left around.right around.down other h).0

pub returns-clause-next : goal.returns-clause-next
returns-clause-next c = λ other h.
    let around = c.neighbours.ensures in
    (padded_touching c.args.self.now.size c.args.node _ _ _ _ around.up around.left around.right around.down other h).1

pub returns-clause-all : goal.returns-clause-all
returns-clause-all c = λ other t m.
    let around = c.neighbours.ensures in
    let below = marked_below c.args.self.now.allowed.now other (cells c.args.self.now.size) c.args.self.now.exact m in
    inr
    (padded_among c.args.self.now.size c.args.node _ _ _ _ around.up around.left around.right around.down other below t)
