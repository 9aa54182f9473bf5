use Rattle.std.proofs.lemmas.Result.{IfOk-from_err}
use Rattle.std.proofs.Common.{◌+◌, string_bytes, arith, subst, sym, ap}
use Rattle.hall_grid.proofs.AppendsBody.{IsWritten, IsWritten-more, AppendsBody-from_IsWritten}
use Rattle.hall_grid.proofs.write.push_body.Goals as goal

pub loop-cell-preserved : goal.loop-cell-preserved
loop-cell-preserved c =
    subst (λ n. IsWritten c.args.puzzle.now (string_bytes c.args.text.now) (string_bytes c.push_form.new.text) n)
    (ap (λ n. c.loop-cell.cell + n) (sym c.cells_of-cell.ensures))
    (IsWritten-more c.args.puzzle.now _ _ _ c.loop-cell.cell c.choose-form.result c.cells.ensures.board
    c.loop-cell.invariant (omega (arith, c.cells.ensures.cells)) c.choose-form.ensures
    (rw c.kind.ensures.kind at c.in_ok-push_form.ensures))

pub returns : goal.returns
returns c =
    AppendsBody-from_IsWritten c.args.puzzle.now _ _ c.loop-cell.cell c.cells.ensures.board c.loop-cell.invariant
    (omega (arith, c.cells.ensures.cells))

pub returns-in_err-push_form : goal.returns-in_err-push_form
returns-in_err-push_form c = IfOk-from_err c.from_residual.result _ c.from_residual.ensures.0
