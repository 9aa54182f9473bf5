use Rattle.std.proofs.Common.{◌<◌, subst}
use Rattle.hall_grid.specs.Slither.{dots}
use Rattle.hall_slither.specs.Count.{IsCentre}
use Rattle.hall_slither.specs.declared.count.Centre.{Centre}
use Rattle.hall_slither.proofs.Demand.{AreBelow-dot}
use Rattle.hall_slither.proofs.count.sides_round.Goals as goal

pub returns-in-Dot-clause-below : goal.returns-in-Dot-clause-below
returns-in-Dot-clause-below c =
    let low : c.in-Dot.dot < dots c.args.size = subst (λ (centre : Centre). IsCentre c.args.size centre) c.in-Dot.is
    c.requires.centre in
    rw c.sides_at.ensures (AreBelow-dot c.args.size c.in-Dot.dot c.requires.size.some_cols low)
