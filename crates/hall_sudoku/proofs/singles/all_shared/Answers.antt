use Rattle.std.proofs.Common.{◌+◌, ◌*◌, subst}
use Rattle.hall_grid.specs.Board.{cells, row, col}
use Rattle.hall_grid.specs.Sudoku.{box}
use Rattle.hall_sudoku.specs.Candidates.{IsMissing, AreComplete}
use Rattle.hall_sudoku.proofs.Sizes.{square_of, row_unit, column_unit, box_unit, box_cell}
use Rattle.hall_sudoku.proofs.Tables.{missing_of, shared_of, complete_of}
use Rattle.hall_sudoku.proofs.Deductions.{none_missing}
use Rattle.hall_sudoku.proofs.singles.all_shared.Goals as goal

pub returns-in_err-shared_in-clause-none : goal.returns-in_err-shared_in-clause-none
returns-in_err-shared_in-clause-none c =
    let size = c.args.units.now in
    let found = missing_of size (row size) c.rows.result.now c.rows.ensures.division c.args.candidates.now
    c.side-side.result c.in_err-shared_in.ensures.none in
    let missing : IsMissing (row size) (cells size) c.args.candidates.now size.cols = subst
    (λ n. IsMissing (row size) (cells size) c.args.candidates.now n) c.side-side.ensures.side found in
    rw c.from_residual.ensures
    (λ f s. none_missing size (row size) (λ u k. u * size.cols + k)
    (row_unit size (square_of size c.side-side.ensures.sudoku)) c.args.partial.now.places c.requires.partial.size f
    s s.right.rows c.args.candidates.now c.requires.candidates missing)

pub returns-in_err-shared_in-2-clause-none : goal.returns-in_err-shared_in-2-clause-none
returns-in_err-shared_in-2-clause-none c =
    let size = c.args.units.now in
    let found = missing_of size (col size) c.columns.result.now c.columns.ensures.division c.args.candidates.now
    c.side-side.result c.in_err-shared_in-2.ensures.none in
    let missing : IsMissing (col size) (cells size) c.args.candidates.now size.cols = subst
    (λ n. IsMissing (col size) (cells size) c.args.candidates.now n) c.side-side.ensures.side found in
    rw c.from_residual-in_err-shared_in-2.ensures
    (λ f s. none_missing size (col size) (λ u k. k * size.cols + u)
    (column_unit size (square_of size c.side-side.ensures.sudoku)) c.args.partial.now.places c.requires.partial.size
    f s s.right.columns c.args.candidates.now c.requires.candidates missing)

pub returns-in_err-shared_in-3-clause-none : goal.returns-in_err-shared_in-3-clause-none
returns-in_err-shared_in-3-clause-none c =
    let size = c.args.units.now in
    let found = missing_of size (box size) c.boxes.result.now c.boxes.ensures.division c.args.candidates.now
    c.side-side.result c.in_err-shared_in-3.ensures.none in
    let missing : IsMissing (box size) (cells size) c.args.candidates.now size.cols = subst
    (λ n. IsMissing (box size) (cells size) c.args.candidates.now n) c.side-side.ensures.side found in
    rw c.from_residual-in_err-shared_in-3.ensures
    (λ f s. none_missing size (box size) (box_cell size) (box_unit size (square_of size c.side-side.ensures.sudoku))
    c.args.partial.now.places c.requires.partial.size f s s.right.boxes c.args.candidates.now c.requires.candidates
    missing)

pub returns-clause-some : goal.returns-clause-some
returns-clause-some c =
    let size = c.args.units.now in
    record {
      rows = shared_of size (row size) c.rows.result.now c.rows.ensures.division c.args.candidates.now
          c.in_ok-shared_in.field-0 c.in_ok-shared_in.ensures.some;
      columns = shared_of size (col size) c.columns.result.now c.columns.ensures.division c.args.candidates.now
          c.in_ok-shared_in-2.field-0 c.in_ok-shared_in-2.ensures.some;
      boxes = shared_of size (box size) c.boxes.result.now c.boxes.ensures.division c.args.candidates.now
          c.in_ok-shared_in-3.field-0 c.in_ok-shared_in-3.ensures.some;
    }

pub returns-clause-complete : goal.returns-clause-complete
returns-clause-complete c =
    let size = c.args.units.now in
    let cs = c.args.candidates.now in
    let side_is = c.side-side.ensures.side in
    record {
      rows = subst (λ n. AreComplete (row size) (cells size) cs n) side_is
          (complete_of size (row size) c.rows.result.now c.rows.ensures.division cs c.side-side.result
          c.in_ok-shared_in.ensures.complete);
      columns = subst (λ n. AreComplete (col size) (cells size) cs n) side_is
          (complete_of size (col size) c.columns.result.now c.columns.ensures.division cs c.side-side.result
          c.in_ok-shared_in-2.ensures.complete);
      boxes = subst (λ n. AreComplete (box size) (cells size) cs n) side_is
          (complete_of size (box size) c.boxes.result.now c.boxes.ensures.division cs c.side-side.result
          c.in_ok-shared_in-3.ensures.complete);
    }
