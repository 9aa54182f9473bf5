use Rattle.std.proofs.Common.{◌+◌, ◌*◌}
use Rattle.hall_grid.specs.Board.{row, col}
use Rattle.hall_grid.specs.Sudoku.{box}
use Rattle.hall_sudoku.proofs.Sizes.{square_of, row_unit, column_unit, box_unit, box_cell}
use Rattle.hall_sudoku.proofs.Beside.{out_by_pairs}
use Rattle.hall_sudoku.proofs.pairs.leave_pairs.Goals as goal

pub take_out-requires-clause-out : goal.take_out-requires-clause-out
take_out-requires-clause-out g c =
    let size = c.args.units.now in
    out_by_pairs size (row size) (λ u k. u * size.cols + k) (row_unit size (square_of size c.rows.ensures.sudoku))
    c.args.partial.now.places c.requires.partial.size c.args.candidates.now c.requires.candidates
    (λ f right. right.rows) c.rows.result.now c.beside_pairs-out.result c.rows.ensures.division
    c.beside_pairs-out.ensures.beside

pub take_out-requires-2-clause-out : goal.take_out-requires-2-clause-out
take_out-requires-2-clause-out g c =
    let size = c.args.units.now in
    out_by_pairs size (col size) (λ u k. k * size.cols + u) (column_unit size (square_of size c.rows.ensures.sudoku))
    c.args.partial.now.places c.requires.partial.size c.take_out.new.candidates c.take_out.ensures
    (λ f right. right.columns) c.columns.result.now c.beside_pairs-out-2.result c.columns.ensures.division
    c.beside_pairs-out-2.ensures.beside

pub take_out-requires-3-clause-out : goal.take_out-requires-3-clause-out
take_out-requires-3-clause-out g c =
    let size = c.args.units.now in
    out_by_pairs size (box size) (box_cell size) (box_unit size (square_of size c.rows.ensures.sudoku))
    c.args.partial.now.places c.requires.partial.size c.take_out-2.new.candidates c.take_out-2.ensures
    (λ f right. right.boxes) c.boxes.result.now c.beside_pairs-out-3.result c.boxes.ensures.division
    c.beside_pairs-out-3.ensures.beside
