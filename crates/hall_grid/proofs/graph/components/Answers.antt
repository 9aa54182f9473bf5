use Rattle.std.proofs.Common.{◌≡◌, length, arith}
use Rattle.hall_grid.proofs.Floods.{Labelling-step, AreComponents-from_Labelling, written}
use Rattle.hall_grid.proofs.graph.components.Goals as goal

pub loop-node-preserved : goal.loop-node-preserved
loop-node-preserved g c =
    let whole : length c.flood.new.labels ≡ c.loop-node.labels.len =
    omega (arith, c.flood.auto.labels, c.deref_mut.ensures.len) in
    rw (written c.loop-node.labels.len c.flood.new.labels c.loop-node.labels.items whole)
    record {
      labelling =
          Labelling-step _ _ _ _ _ _ c.loop-node.invariant.labelling
          (rw c.deref_mut.ensures.value at c.in_ok-flood.ensures.floods);
      empty = c.in_ok-flood.ensures.empty;
    }

pub returns : goal.returns
returns g c =
    AreComponents-from_Labelling _ _ _ _ (g.met.G.Graph.member_below c.args.graph.now) c.loop-node.node
    (omega (arith, c.nodes-nodes.ensures)) c.loop-node.invariant.labelling
