use Rattle.std.proofs.Common.{◌<◌, ◌∙◌, ap, arith}
use Rattle.hall_grid.specs.Slither.{all_sides}
use Rattle.hall_solve.proofs.Boards.{set_within}
use Rattle.hall_slither.specs.Colour.{cells_by}
use Rattle.hall_slither.proofs.AreColoured.{AreColoured-learned, hopeless_learned}
use Rattle.hall_slither.proofs.follow.learn_side.Goals as goal

pub returns-then-learn-clause-coloured : goal.returns-then-learn-clause-coloured
returns-then-learn-clause-coloured c =
    let board = c.args.puzzle.now in
    let p = c.args.partial.now.places in
    let side = c.args.setting.side in
    let value = c.args.setting.value in
    let below : side < all_sides board.size = (let low = set_within p side value c.requires.set in let exact =
    c.requires.partial.size in omega arith) in
    AreColoured-learned board p c.args.colours.now c.learn.new.self side value c.cells_by-first.result.0
    c.cells_by-first.result.1 c.requires.kind
    c.size.ensures.board below c.requires.set (c.cells_by-first.ensures.cells
    ∙ ap (λ size. cells_by size side) c.size.ensures.size)
    c.learn.ensures.size c.learn.ensures.obeyed c.requires.coloured

pub returns-else-learn-clause-coloured : goal.returns-else-learn-clause-coloured
returns-else-learn-clause-coloured c =
    let board = c.args.puzzle.now in
    let p = c.args.partial.now.places in
    let side = c.args.setting.side in
    let value = c.args.setting.value in
    let below : side < all_sides board.size = (let low = set_within p side value c.requires.set in let exact =
    c.requires.partial.size in omega arith) in
    AreColoured-learned board p c.args.colours.now c.learn.new.self side value c.cells_by-first.result.0
    c.cells_by-first.result.1 c.requires.kind
    c.size.ensures.board below c.requires.set (c.cells_by-first.ensures.cells
    ∙ ap (λ size. cells_by size side) c.size.ensures.size)
    c.learn.ensures.size c.learn.ensures.obeyed c.requires.coloured

pub returns-else-learn-clause-dead : goal.returns-else-learn-clause-dead
returns-else-learn-clause-dead c = λ dead.
    let board = c.args.puzzle.now in
    let p = c.args.partial.now.places in
    let side = c.args.setting.side in
    let value = c.args.setting.value in
    let below : side < all_sides board.size = (let low = set_within p side value c.requires.set in let exact =
    c.requires.partial.size in omega arith) in
    hopeless_learned board p c.args.colours.now side value c.cells_by-first.result.0 c.cells_by-first.result.1
    c.requires.kind
    c.size.ensures.board below c.requires.set (c.cells_by-first.ensures.cells
    ∙ ap (λ size. cells_by size side) c.size.ensures.size)
    (c.learn.ensures.contradicted c.if-learn.false) c.requires.coloured
