use Rattle.std.proofs.Common.{arith}
use Rattle.hall_grid.proofs.Labelling.{labelled_below}
use Rattle.hall_nurikabe.proofs.exits.is_growing.Goals as goal

pub must_grow-requires : goal.must_grow-requires
must_grow-requires c = λ cell e.
    let low = labelled_below c.args.labels.now cell c.args.label (c.requires.owners.owner c.args.label cell e).1 in
    let whole = c.requires.exact in
    omega arith
