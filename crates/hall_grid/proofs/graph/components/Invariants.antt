use Rattle.std.proofs.Common.{◌≡◌, []}
use Rattle.hall_grid.proofs.Floods.{Labelling}
use Rattle.hall_grid.proofs.graph.components.Given as goal

abbrev pub invariant-loop-node : goal.invariant-loop-node
invariant-loop-node g l = record {
  labelling : Labelling (g.G.Graph.nodes l.graph) (g.G.Graph.IsNext l.graph)
      (g.G.Graph.IsMember l.graph) l.labels.items l.node;
  empty : l.stack.items ≡ [];
}
