use Rattle.std.proofs.lemmas.Result.{IfOk-from_err}
use Rattle.hall_slither.proofs.HasLinesApart.{apart_by_labels}
use Rattle.hall_slither.proofs.lines.has_lines_apart.Goals as goal

pub returns : goal.returns
returns c =
    apart_by_labels c.args.size c.args.lines.now c.in_ok-labels.labels.items c.in_ok-labels.ensures
    c.labels_differ.result
    (rw c.deref.ensures.value at c.labels_differ.ensures)

pub returns-in_err-labels : goal.returns-in_err-labels
returns-in_err-labels c = IfOk-from_err c.from_residual.result _ c.from_residual.ensures.0
