use Rattle.std.proofs.lemmas.Result.{IfOk-from_err}
use Rattle.std.proofs.Common.{◌≡◌, ◌≢◌, ◌-◌, ◌<◌, Some, None, length, sym, ◌∙◌, ap, subst, arith}
use Rattle.std.specs.Prelude.{slice_get}
use Rattle.std.proofs.lemmas.List.{length-set, get_or-set_other}
use Rattle.hall_grid.specs.declared.board.Clue.TheVariants.{Number}
use Rattle.hall_grid.specs.declared.board.Kind.TheVariants.{Sudoku}
use Rattle.hall_solve.specs.Question.{IsPartial, Extends}
use Rattle.hall_solve.specs.Puzzle.{question_of, start_of}
use Rattle.hall_sudoku.proofs.StartOf.{begin_skip, begin_more, begins, start_partial, start_extends}
use Rattle.hall_sudoku.proofs.givens.start.Goals as goal
use Rattle.hall_sudoku.proofs.givens.start.Goals.{in-Number, in_default}

pub loop-cell-preserved : goal.loop-cell-preserved
loop-cell-preserved c =
    let board = c.args.puzzle.now in
    elim c.match-clue.branch [
      | in-Number w ↦ (
          let at_n : slice_get board.clues c.loop-cell.cell ≡ Some (Number w.in-Number.given) = c.clue.ensures
          ∙ ap Some w.in-Number.is in
          let within : c.loop-cell.cell < length c.loop-cell.partial.places = omega
          (arith, c.loop-cell-test.true, c.cells-cell-end.ensures.cells, c.loop-cell.invariant.size) in
          rw w.partial-is (rw w.set.ensures.places (record {
            size = length-set _ _ _ ∙ c.loop-cell.invariant.size;
            later = λ k h. let ne : k ≢ c.loop-cell.cell = omega arith in get_or-set_other c.loop-cell.partial.places
                c.loop-cell.cell k (Some (w.in-Number.given - 1)) None ne ∙ c.loop-cell.invariant.later k (omega arith);
            begin = begin_more board c.loop-cell.cell w.in-Number.given c.loop-cell.partial.places
                c.loop-cell.invariant.begin within at_n;
          })))
      | in_default w ↦ rw w.partial-is (record {
        size = c.loop-cell.invariant.size;
        later = λ k h. c.loop-cell.invariant.later k (omega arith);
        begin = begin_skip board c.loop-cell.cell c.loop-cell.partial.places c.clue.result c.loop-cell.invariant.begin
            (c.loop-cell.invariant.later c.loop-cell.cell (omega arith)) c.clue.ensures w.in_default.not-Number;
      })
    ]

pub returns : goal.returns
returns c =
    let board = c.args.puzzle.now in
    let is_start : c.loop-cell.partial.places ≡ start_of Sudoku board = begins board c.loop-cell.partial.places
    c.loop-cell.cell c.cells.ensures.board c.loop-cell.invariant.size
    (omega (arith, c.loop-cell-test.false, c.cells-cell-end.ensures.cells)) c.loop-cell.invariant.begin in
    record {
      givens = is_start;
      partial = subst (λ p. IsPartial (question_of Sudoku board) p) (sym is_start)
          (start_partial board c.requires c.cells.ensures.board);
      solutions = λ f filling right. subst (λ p. Extends f p) (sym is_start)
          (start_extends board f c.requires c.cells.ensures.board right);
    }

pub returns-in_err-partial-clause-givens : goal.returns-in_err-partial-clause-givens
returns-in_err-partial-clause-givens c = IfOk-from_err c.from_residual.result _ c.from_residual.ensures.0

pub returns-in_err-partial-clause-partial : goal.returns-in_err-partial-clause-partial
returns-in_err-partial-clause-partial c = IfOk-from_err c.from_residual.result _ c.from_residual.ensures.0

pub returns-in_err-partial-clause-solutions : goal.returns-in_err-partial-clause-solutions
returns-in_err-partial-clause-solutions c = IfOk-from_err c.from_residual.result _ c.from_residual.ensures.0
