use Rattle.std.proofs.Common.{Some, take}
use Rattle.std.specs.Prelude.{Contains}
use Rattle.hall_grid.specs.Flood.{Labels}
use Rattle.hall_grid.proofs.graph.label_around.Given as goal

abbrev pub invariant-loop-place : goal.invariant-loop-place
invariant-loop-place g l =
    Labels (λ x. Contains (take l.place-index l.place-items) (Some x))
    (g.G.Graph.IsMember l.graph) l.label l.fn.labels l.labels l.fn.stack.items l.stack.items
