use Rattle.std.proofs.Common.{◌+◌, ◌*◌, length}
use Rattle.hall_grid.specs.Flood.{unlabelled}
use Rattle.hall_grid.proofs.Floods.{Flooding}
use Rattle.hall_grid.proofs.graph.flood.Given as goal

abbrev pub invariant-loop-node : goal.invariant-loop-node
invariant-loop-node g l =
    Flooding (g.G.Graph.nodes l.graph) (g.G.Graph.IsNext l.graph)
    (g.G.Graph.IsMember l.graph) l.root l.fn.labels l.labels l.stack.items

abbrev pub decreases-loop-node : goal.decreases-loop-node
decreases-loop-node g l = 2 * unlabelled l.labels + length l.stack.items
