use Rattle.hall_grid.proofs.Floods.{Flooding-start, Flooding-step, taken_below}
use Rattle.hall_grid.proofs.graph.flood.Goals as goal

pub loop-node-init : goal.loop-node-init
loop-node-init g c =
    Flooding-start _ _ _ _ _ _ _ c.requires.components (rw c.requires.empty at c.in_ok-label_node.ensures)

pub label_around-requires-clause-node : goal.label_around-requires-clause-node
label_around-requires-clause-node g c =
    taken_below _ _ _ _ _ _ c.loop-node.stack.items _ c.in-Some.node c.in-Some.ensures.items c.loop-node.invariant

pub loop-node-preserved : goal.loop-node-preserved
loop-node-preserved g c =
    Flooding-step _ _ _ _ _ _ c.loop-node.stack.items _ c.in-Some.node c.in-Some.ensures.items c.loop-node.invariant _ _
    (g.met.G.Graph.symmetric c.args.graph.now) c.in_ok-label_around.ensures
