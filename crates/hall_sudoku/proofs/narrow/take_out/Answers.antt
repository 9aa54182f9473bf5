use Rattle.std.proofs.Common.{◌<◌, length, get_or, arith}
use Rattle.hall_grid.specs.Board.{cells}
use Rattle.hall_sudoku.proofs.Narrowed.{candidates_set, left_without, without_reads}
use Rattle.hall_sudoku.proofs.narrow.take_out.Goals as goal

pub loop-cell-preserved : goal.loop-cell-preserved
loop-cell-preserved c =
    let size = c.args.units.now in
    let cell = c.loop-cell.cell in
    let within : cell < cells size = omega (arith, c.loop-cell-test.true, c.cells-cell-end.ensures.cells) in
    let small : cell < length c.loop-cell.candidates = omega
    (arith, within, c.requires.room, c.loop-cell.auto.candidates) in
    let out_small : cell < length c.args.out.now = omega (arith, within, c.requires.out_room) in
    candidates_set size c.args.partial.now.places c.loop-cell.candidates cell c.without.result c.loop-cell.invariant
    small
    (left_without size c.args.partial.now.places c.args.out.now cell (get_or c.loop-cell.candidates cell 0)
    c.without.result c.requires.out within (c.loop-cell.invariant cell within)
    (without_reads c.loop-cell.candidates c.args.out.now cell c.index-candidates-cell.result c.index-out-cell.result
    c.without.result small out_small c.index-candidates-cell.is c.index-out-cell.is c.without.ensures))
