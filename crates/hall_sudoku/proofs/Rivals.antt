-- What a rival of a cell says of every solution.
use Rattle.std.proofs.Common.{◌≡◌, ◌≢◌, ℕ, ◌+◌, ◌*◌, ◌<◌, List, Option, length, get_or, sym, ◌∙◌, inl, inr, arith}
use Rattle.hall_grid.specs.declared.board.Size.{Size}
use Rattle.hall_grid.specs.Board.{cells, row, col}
use Rattle.hall_grid.specs.Sudoku.{box}
use Rattle.hall_solve.specs.Question.{IsHopeless}
use Rattle.hall_sudoku.specs.Units.{units_question}
use Rattle.hall_sudoku.specs.Rival.{HasRival}
use Rattle.hall_sudoku.proofs.Sizes.{IsSquare, row_unit, column_unit, box_unit, box_cell}
use Rattle.hall_sudoku.proofs.Deductions.{differ}

-- two cells of one unit that have the same value stand in no solution
pub rival_hopeless : (size : Size) (p : List (Option ℕ)) (cell : ℕ) → IsSquare size → length p ≡ cells size
    → cell < cells size → HasRival size p cell → IsHopeless (units_question size) p
rival_hopeless size p cell sq exact within h f s =
    let same : get_or f cell 0 ≡ get_or f h.other 0 = s.extends cell h.value h.cell_has
    ∙ sym (s.extends h.other h.value h.other_has) in
    let other : h.other < cells size = omega (arith, h.within, exact) in
    let ne : cell ≢ h.other = λ e. h.differs (sym e) in
    elim h.share [
      | inl e ↦ differ size (row size) (λ u k. u * size.cols + k) (row_unit size sq) p exact f s s.right.rows cell
          h.other within other ne e same
      | inr k ↦ elim k [
        | inl e ↦ differ size (col size) (λ u k. k * size.cols + u) (column_unit size sq) p exact f s s.right.columns
            cell h.other within other ne e same
        | inr e ↦ differ size (box size) (box_cell size) (box_unit size sq) p exact f s s.right.boxes cell h.other
            within other ne e same
      ]
    ]
