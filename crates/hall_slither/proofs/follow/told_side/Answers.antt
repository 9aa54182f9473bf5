use Rattle.std.proofs.Common.{◌<◌, ◌∙◌, cond, sym, ap, arith, rules}
use Rattle.hall_grid.specs.Slither.{all_sides}
use Rattle.hall_solve.specs.Question.{IsOpen}
use Rattle.hall_slither.specs.Colour.{cells_by}
use Rattle.hall_slither.proofs.AreSet.{unset_from}
use Rattle.hall_slither.proofs.AreColoured.{forced_by_colours}
use Rattle.hall_slither.proofs.follow.told_side.Goals as goal

pub returns-then-differs : goal.returns-then-differs
returns-then-differs c =
    let board = c.args.position.now.puzzle.now in
    let p = c.args.position.now.partial.now.places in
    let side = c.in-Some.side in
    let below : side < all_sides board.size = search rules in
    let unset : IsOpen p side = (
      let exact = c.args.position.now.fits.size in omega arith,
      sym c.get.ensures
          ∙ unset_from c.get.result c.is_none.result c.is_none.ensures c.if-is_none.true,
    ) in
    forced_by_colours board p c.args.position.now.colours.now side c.cells_by-first.result.0 c.cells_by-first.result.1 1
    c.in-Some-differ.differs c.args.position.now.kind c.size-size.ensures.board below unset
    (c.cells_by-first.ensures.cells ∙ ap (λ size. cells_by size side) c.size-size.ensures.size) c.in-Some-differ.ensures
    c.args.position.now.coloured
    (sym (ap (λ b. cond b 1 0) c.if-differs.true))

pub returns-else-differs : goal.returns-else-differs
returns-else-differs c =
    let board = c.args.position.now.puzzle.now in
    let p = c.args.position.now.partial.now.places in
    let side = c.in-Some.side in
    let below : side < all_sides board.size = search rules in
    let unset : IsOpen p side = (
      let exact = c.args.position.now.fits.size in omega arith,
      sym c.get.ensures
          ∙ unset_from c.get.result c.is_none.result c.is_none.ensures c.if-is_none.true,
    ) in
    forced_by_colours board p c.args.position.now.colours.now side c.cells_by-first.result.0 c.cells_by-first.result.1 0
    c.in-Some-differ.differs c.args.position.now.kind c.size-size.ensures.board below unset
    (c.cells_by-first.ensures.cells ∙ ap (λ size. cells_by size side) c.size-size.ensures.size) c.in-Some-differ.ensures
    c.args.position.now.coloured
    (sym (ap (λ b. cond b 1 0) c.if-differs.false))
