use Rattle.std.proofs.Common.{inr}
use Rattle.hall_grid.proofs.Beside.{padded_touching, padded_among}
use Rattle.hall_nurikabe.proofs.colour.ColouredGraph.next_to.Goals as goal

pub returns-clause-below : goal.returns-clause-below
returns-clause-below c = λ other h.
    (padded_touching c.args.self.now.size c.args.node _ _ _ _ c.neighbours.ensures.up c.neighbours.ensures.left
    c.neighbours.ensures.right c.neighbours.ensures.down other h).0

pub returns-clause-next : goal.returns-clause-next
returns-clause-next c = λ other h.
    (padded_touching c.args.self.now.size c.args.node _ _ _ _ c.neighbours.ensures.up c.neighbours.ensures.left
    c.neighbours.ensures.right c.neighbours.ensures.down other h).1

pub returns-clause-all : goal.returns-clause-all
returns-clause-all c = λ other t member.
    inr (padded_among c.args.self.now.size c.args.node _ _ _ _ c.neighbours.ensures.up c.neighbours.ensures.left
    c.neighbours.ensures.right c.neighbours.ensures.down other
    member.0 t)
