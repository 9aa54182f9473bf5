use Rattle.std.proofs.Common.{◌+◌, ◌*◌, ◌<◌, ℕ, length, get_or, ◌∙◌, arith}
use Rattle.std.proofs.lemmas.List.{length-set}
use Rattle.hall_grid.specs.Board.{row, col}
use Rattle.hall_grid.specs.Sudoku.{box}
use Rattle.hall_sudoku.specs.Values.{Has}
use Rattle.hall_sudoku.specs.Candidates.{IsLeft}
use Rattle.hall_sudoku.proofs.Sizes.{square_of, row_unit, column_unit, box_unit, box_cell}
use Rattle.hall_sudoku.proofs.Tables.{taken_of, clash_of, apart_of, at_more}
use Rattle.hall_sudoku.proofs.Deductions.{no_clash}
use Rattle.hall_sudoku.proofs.candidates.candidates.Goals as goal

pub taken_in-requires-clause-values : goal.taken_in-requires-clause-values
taken_in-requires-clause-values g c = λ cell v h. omega (
  arith,
  c.requires.partial.in_range cell v h,
  (square_of c.args.units.now c.rows.ensures.sudoku).few,
)

pub taken_in-requires-2-clause-values : goal.taken_in-requires-2-clause-values
taken_in-requires-2-clause-values g c = λ cell v h. omega (
  arith,
  c.requires.partial.in_range cell v h,
  (square_of c.args.units.now c.rows.ensures.sudoku).few,
)

pub taken_in-requires-3-clause-values : goal.taken_in-requires-3-clause-values
taken_in-requires-3-clause-values g c = λ cell v h. omega (
  arith,
  c.requires.partial.in_range cell v h,
  (square_of c.args.units.now c.rows.ensures.sudoku).few,
)

pub returns-in_err-taken_in-clause-none : goal.returns-in_err-taken_in-clause-none
returns-in_err-taken_in-clause-none g c =
    let size = c.args.units.now in
    let clash = clash_of size (row size) c.rows.result.now c.rows.ensures.division c.args.partial.now.places
    c.requires.partial.size c.in_err-taken_in.ensures.none in
    rw c.from_residual.ensures
    (λ f s. no_clash size (row size) (λ u k. u * size.cols + k) (row_unit size (square_of size c.rows.ensures.sudoku))
    c.args.partial.now.places c.requires.partial.size f s s.right.rows clash)

pub returns-in_err-taken_in-2-clause-none : goal.returns-in_err-taken_in-2-clause-none
returns-in_err-taken_in-2-clause-none g c =
    let size = c.args.units.now in
    let clash = clash_of size (col size) c.columns.result.now c.columns.ensures.division c.args.partial.now.places
    c.requires.partial.size c.in_err-taken_in-2.ensures.none in
    rw c.from_residual-in_err-taken_in-2.ensures
    (λ f s. no_clash size (col size) (λ u k. k * size.cols + u)
    (column_unit size (square_of size c.rows.ensures.sudoku)) c.args.partial.now.places c.requires.partial.size f s
    s.right.columns clash)

pub returns-in_err-taken_in-3-clause-none : goal.returns-in_err-taken_in-3-clause-none
returns-in_err-taken_in-3-clause-none g c =
    let size = c.args.units.now in
    let clash = clash_of size (box size) c.boxes.result.now c.boxes.ensures.division c.args.partial.now.places
    c.requires.partial.size c.in_err-taken_in-3.ensures.none in
    rw c.from_residual-in_err-taken_in-3.ensures
    (λ f s. no_clash size (box size) (box_cell size) (box_unit size (square_of size c.rows.ensures.sudoku))
    c.args.partial.now.places c.requires.partial.size f s s.right.boxes clash)

pub left_at-left-requires-clause-taken : goal.left_at-left-requires-clause-taken
left_at-left-requires-clause-taken g c =
    let size = c.args.units.now in
    record {
      rows = taken_of size (row size) c.rows.result.now c.rows.ensures.division c.args.partial.now.places
          c.in_ok-taken_in.field-0 c.requires.partial.size c.in_ok-taken_in.ensures.some;
      columns = taken_of size (col size) c.columns.result.now c.columns.ensures.division c.args.partial.now.places
          c.in_ok-taken_in-2.field-0 c.requires.partial.size c.in_ok-taken_in-2.ensures.some;
      boxes = taken_of size (box size) c.boxes.result.now c.boxes.ensures.division c.args.partial.now.places
          c.in_ok-taken_in-3.field-0 c.requires.partial.size c.in_ok-taken_in-3.ensures.some;
    }

pub returns-then-is_empty-clause-none : goal.returns-then-is_empty-clause-none
returns-then-is_empty-clause-none g c = λ f s. c.is_empty.ensures.0 c.if-is_empty.true (get_or f c.loop-cell.cell 0)
    (c.left_at-left.ensures.holds f s)

pub listed : goal.listed
listed g c = omega (
  arith,
  c.loop-cell-test.true,
  c.len-cell-end.ensures,
  c.requires.partial.size,
  c.loop-cell.invariant.size,
  c.requires.fits,
)

pub bounds-candidates-cell : goal.bounds-candidates-cell
bounds-candidates-cell g c = omega (
  arith,
  c.loop-cell-test.true,
  c.len-cell-end.ensures,
  c.requires.partial.size,
  c.requires.fits,
)

pub offset_bounds-candidates-cell : goal.offset_bounds-candidates-cell
offset_bounds-candidates-cell g c = omega (
  arith,
  c.loop-cell-test.true,
  c.len-cell-end.ensures,
  c.requires.partial.size,
  c.requires.fits,
)

pub loop-cell-preserved : goal.loop-cell-preserved
loop-cell-preserved g c =
    let small : c.loop-cell.cell < length c.loop-cell.candidates = omega (
      arith,
      c.loop-cell-test.true,
      c.len-cell-end.ensures,
      c.requires.partial.size,
      c.loop-cell.invariant.size,
      c.requires.fits,
    ) in
    record {
      size = length-set _ _ _ ∙ c.loop-cell.invariant.size;
      left = at_more (λ k left. IsLeft c.args.units.now c.args.partial.now.places k left) c.loop-cell.cell
          c.left_at-left.result c.loop-cell.candidates c.loop-cell.invariant.left small c.left_at-left.ensures;
      filled = at_more (λ k left. ((v : ℕ) → Has left v → ⊥) → ⊥) c.loop-cell.cell c.left_at-left.result
          c.loop-cell.candidates c.loop-cell.invariant.filled small (λ none. let yes = c.is_empty.ensures.1 none in cc);
    }

pub returns-clause-room : goal.returns-clause-room
returns-clause-room g c = omega (arith, c.loop-cell.invariant.size, c.requires.fits)

pub returns-clause-apart : goal.returns-clause-apart
returns-clause-apart g c =
    let size = c.args.units.now in
    record {
      rows = apart_of size (row size) c.rows.result.now c.rows.ensures.division c.args.partial.now.places
          c.requires.partial.size c.in_ok-taken_in.ensures.apart;
      columns = apart_of size (col size) c.columns.result.now c.columns.ensures.division c.args.partial.now.places
          c.requires.partial.size c.in_ok-taken_in-2.ensures.apart;
      boxes = apart_of size (box size) c.boxes.result.now c.boxes.ensures.division c.args.partial.now.places
          c.requires.partial.size c.in_ok-taken_in-3.ensures.apart;
    }
