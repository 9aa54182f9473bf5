use Rattle.std.proofs.Common.{◌+◌, ◌*◌}
use Rattle.hall_grid.specs.Board.{row, col}
use Rattle.hall_grid.specs.Sudoku.{box}
use Rattle.hall_sudoku.proofs.Sizes.{square_of, row_unit, column_unit, box_unit, box_cell}
use Rattle.hall_sudoku.proofs.Narrowed.{out_by_parts}
use Rattle.hall_sudoku.proofs.narrow.take_out_by_parts.Goals as goal

pub take_out-requires-clause-out : goal.take_out-requires-clause-out
take_out-requires-clause-out g c =
    let size = c.args.units.now in
    let square = square_of size c.rows-rows.ensures.sudoku in
    out_by_parts size (row size) (box size) (λ u k. u * size.cols + k) (box_cell size) (row_unit size square)
    (box_unit size square) c.args.partial.now.places c.requires.partial.size c.args.candidates.now
    c.requires.candidates
    (λ f right. right.rows) (λ f right. right.boxes) c.rows-rows.result.now c.boxes-boxes.result.now
    c.elsewhere_of-out.result c.rows-rows.ensures.division c.boxes-boxes.ensures.division
    c.elsewhere_of-out.ensures.elsewhere

pub take_out-requires-2-clause-out : goal.take_out-requires-2-clause-out
take_out-requires-2-clause-out g c =
    let size = c.args.units.now in
    let square = square_of size c.rows-rows.ensures.sudoku in
    out_by_parts size (col size) (box size) (λ u k. k * size.cols + u) (box_cell size) (column_unit size square)
    (box_unit size square) c.args.partial.now.places c.requires.partial.size c.take_out.new.candidates
    c.take_out.ensures
    (λ f right. right.columns) (λ f right. right.boxes) c.columns-columns.result.now c.boxes-boxes.result.now
    c.elsewhere_of-out-2.result c.columns-columns.ensures.division c.boxes-boxes.ensures.division
    c.elsewhere_of-out-2.ensures.elsewhere

pub take_out-requires-3-clause-out : goal.take_out-requires-3-clause-out
take_out-requires-3-clause-out g c =
    let size = c.args.units.now in
    let square = square_of size c.rows-rows.ensures.sudoku in
    out_by_parts size (box size) (row size) (box_cell size) (λ u k. u * size.cols + k) (box_unit size square)
    (row_unit size square) c.args.partial.now.places c.requires.partial.size c.take_out-2.new.candidates
    c.take_out-2.ensures
    (λ f right. right.boxes) (λ f right. right.rows) c.boxes-boxes.result.now c.rows-rows.result.now
    c.elsewhere_of-out-3.result c.boxes-boxes.ensures.division c.rows-rows.ensures.division
    c.elsewhere_of-out-3.ensures.elsewhere

pub take_out-requires-4-clause-out : goal.take_out-requires-4-clause-out
take_out-requires-4-clause-out g c =
    let size = c.args.units.now in
    let square = square_of size c.rows-rows.ensures.sudoku in
    out_by_parts size (box size) (col size) (box_cell size) (λ u k. k * size.cols + u) (box_unit size square)
    (column_unit size square) c.args.partial.now.places c.requires.partial.size c.take_out-3.new.candidates
    c.take_out-3.ensures
    (λ f right. right.boxes) (λ f right. right.columns) c.boxes-boxes.result.now c.columns-columns.result.now
    c.elsewhere_of-out-4.result c.boxes-boxes.ensures.division c.columns-columns.ensures.division
    c.elsewhere_of-out-4.ensures.elsewhere
