use Rattle.std.proofs.Common.{◌≡◌, sym, ◌∙◌}
use Rattle.hall_nurikabe.proofs.Block.{fourth_forced, four_hopeless}
use Rattle.hall_nurikabe.proofs.Marks.{set_from_test}
use Rattle.hall_nurikabe.proofs.blocks.last_of.Goals as goal

pub returns-in-None : goal.returns-in-None
returns-in-None c =
    fourth_forced c.args.puzzle.now c.requires.kind c.args.partial.now.places c.args.a c.args.b c.args.c c.args.d
    c.requires.block
    (sym c.get.ensures ∙ set_from_test _ 1 c.if-ne.ensures) (sym c.get-else-ne.ensures
    ∙ set_from_test _ 1 c.if-ne-2.ensures)
    (sym c.get-else-ne-2.ensures ∙ set_from_test _ 1 c.if-ne-3.ensures) c.requires.partial.size (sym c.in-None.ensures)

pub returns-in-Some-eq1 : goal.returns-in-Some-eq1
returns-in-Some-eq1 c =
    let one : c.in-Some-eq1.field-0 ≡ 1 = c.in-Some-eq1.field-0-test in
    four_hopeless c.args.puzzle.now c.requires.kind c.args.partial.now.places c.args.a c.args.b c.args.c c.args.d
    c.requires.block
    (sym c.get.ensures ∙ set_from_test _ 1 c.if-ne.ensures) (sym c.get-else-ne.ensures
    ∙ set_from_test _ 1 c.if-ne-2.ensures)
    (sym c.get-else-ne-2.ensures ∙ set_from_test _ 1 c.if-ne-3.ensures)
    (sym c.in-Some-eq1.ensures ∙ (let k = one in cc))
