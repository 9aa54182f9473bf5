use Rattle.std.proofs.Common.{arith, ◌∙◌}
use Rattle.hall_nurikabe.proofs.AreBroken.{AreCells-from_regions}
use Rattle.hall_nurikabe.proofs.HasAlways.{small_hopeless, tight_forced}
use Rattle.hall_nurikabe.proofs.deduce.fill_reaches.Goals as goal

pub returns-then-size-from-clause-dead : goal.returns-then-size-from-clause-dead
returns-then-size-from-clause-dead c = λ _.
    small_hopeless c.args.position.now.puzzle.now c.args.position.now.kind c.args.position.now.partial.now.places
    c.args.position.now.fits c.cells-cell-end.ensures.board.clues c.loop-cell.cell c.in-Number.given
    c.in-Number.ensures
    c.args.labels.now c.args.sizes.now c.requires.reaches c.in-Some.label c.in-Some.is
    (let e = c.from.ensures in omega arith)

pub force_label-requires-clause-always : goal.force_label-requires-clause-always
force_label-requires-clause-always c =
    tight_forced c.args.position.now.puzzle.now c.args.position.now.kind c.args.position.now.partial.now.places
    c.args.position.now.fits c.cells-cell-end.ensures.board.clues c.loop-cell.cell c.in-Number.given
    c.in-Number.ensures
    c.args.labels.now c.args.sizes.now c.requires.reaches c.in-Some.label c.in-Some.is
    (let e = c.from-in-Some.ensures in c.if-size-from-2.true ∙ e)

pub bounds-sizes-label : goal.bounds-sizes-label
bounds-sizes-label c =
    let low = AreCells-from_regions _ c.args.position.now.puzzle.now.size _ _ c.requires.reaches.components
    c.loop-cell.cell c.in-Some.label c.in-Some.is in
    let whole = c.requires.reaches.components.exact in
    let same = c.requires.reaches.exact in
    omega arith

pub offset_bounds-sizes-label : goal.offset_bounds-sizes-label
offset_bounds-sizes-label c =
    let low = AreCells-from_regions _ c.args.position.now.puzzle.now.size _ _ c.requires.reaches.components
    c.loop-cell.cell c.in-Some.label c.in-Some.is in
    let whole = c.requires.reaches.components.exact in
    let same = c.requires.reaches.exact in
    omega arith

pub bounds-filled-label : goal.bounds-filled-label
bounds-filled-label c =
    let low = AreCells-from_regions _ c.args.position.now.puzzle.now.size _ _ c.requires.reaches.components
    c.loop-cell.cell c.in-Some.label c.in-Some.is in
    let whole = c.requires.reaches.components.exact in
    let same = c.requires.filled in
    omega arith

pub offset_bounds-filled-label : goal.offset_bounds-filled-label
offset_bounds-filled-label c =
    let low = AreCells-from_regions _ c.args.position.now.puzzle.now.size _ _ c.requires.reaches.components
    c.loop-cell.cell c.in-Some.label c.in-Some.is in
    let whole = c.requires.reaches.components.exact in
    let same = c.requires.filled in
    omega arith
