use Rattle.std.proofs.Common.{◌<◌, Some, ap, ◌∙◌, subst}
use Rattle.hall_grid.specs.Slither.{dots}
use Rattle.hall_slither.specs.Count.{IsCentre}
use Rattle.hall_slither.specs.declared.count.Centre.{Centre}
use Rattle.hall_slither.proofs.Demand.{passes_count, counts}
use Rattle.hall_slither.proofs.count.demand_at.Goals as goal

pub returns-in-Dot-clause-meets : goal.returns-in-Dot-clause-meets
returns-in-Dot-clause-meets c = λ f right.
    let low : c.in-Dot.field-0 < dots c.args.puzzle.now.size = subst
    (λ (centre : Centre). IsCentre c.args.puzzle.now.size centre) c.in-Dot.is c.requires.centre in
    rw c.in-Dot.is (passes_count c.args.puzzle.now f c.in-Dot.field-0 c.requires.kind c.requires.size.some_cols right
    low)

pub returns-in-Number-clause-meets : goal.returns-in-Number-clause-meets
returns-in-Number-clause-meets c = λ f right.
    rw c.in-Cell.is (counts c.args.puzzle.now f c.in-Cell.cell c.in-Number.number c.requires.kind right
    (c.clue.ensures ∙ ap Some c.in-Number.is))
