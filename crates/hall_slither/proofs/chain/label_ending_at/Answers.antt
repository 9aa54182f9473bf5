use Rattle.std.proofs.lemmas.Grind.{common_steps}
use Rattle.std.proofs.Common.{get_or, Some, None, sym, refl, subst, arith}
use Rattle.std.specs.Prelude.{Contains}
use Rattle.hall_grid.specs.Slither.{all_sides, IsLine, ShareDot}
use Rattle.hall_grid.proofs.AreComponents.{labelled_member}
use Rattle.hall_slither.specs.Dot.{AreBelow}
use Rattle.hall_slither.proofs.Demand.{AreBelow-dot}
use Rattle.hall_slither.proofs.SidesBeside.{end_of_contained, contained_from_end}
use Rattle.hall_slither.proofs.HaveEnds.{touched_once, label_touches}
use Rattle.hall_slither.proofs.chain.label_ending_at.Goals as goal

pub returns-then-degree-ne1-clause-none : goal.returns-then-degree-ne1-clause-none
returns-then-degree-ne1-clause-none c = λ label t.
    let one = touched_once c.args.size c.args.lines.now c.args.labels.now c.requires.labels label c.args.dot t in
    let is = c.degree.ensures.degree in
    omega arith

pub first_line-requires : goal.first_line-requires
first_line-requires c =
    subst (λ n. AreBelow n c.sides_at.result) (sym c.requires.lines)
    (subst (AreBelow (all_sides c.args.size)) (sym c.sides_at.ensures)
    (AreBelow-dot c.args.size c.args.dot c.requires.size.some_cols c.requires.board))

pub returns-in_default-clause-none : goal.returns-in_default-clause-none
returns-in_default-clause-none c = λ label t.
    let member = labelled_member (all_sides c.args.size) (ShareDot c.args.size) (IsLine c.args.size c.args.lines.now)
    c.args.labels.now c.requires.labels t.0 label t.1 in
    let has : Contains c.sides_at.result (Some t.0) =
    subst (λ sides. Contains sides (Some t.0)) (sym c.sides_at.ensures)
    (contained_from_end c.args.size c.args.dot t.0 c.requires.size.some_cols c.requires.board member.0 t.2) in
    absurd (c.in_default.ensures.none t.0 has member.1)

pub returns-clause-some : goal.returns-clause-some
returns-clause-some c =
    let has = subst (λ sides. Contains sides (Some c.in-Some.side)) c.sides_at.ensures c.in-Some.ensures.found.0 in
    label_touches c.args.size c.args.lines.now c.args.labels.now c.requires.labels c.in-Some.side c.args.dot
    (get_or c.args.labels.now c.in-Some.side None) refl
    (end_of_contained c.args.size c.args.dot c.in-Some.side c.requires.size.some_cols c.requires.board has)

pub returns-clause-none : goal.returns-clause-none
returns-clause-none c = grind (arith, common_steps)
