use Rattle.std.proofs.lemmas.Result.{IfOk-from_err}
use Rattle.std.proofs.Common.{◌≡◌, length, drop, ◌∙◌, arith}
use Rattle.std.proofs.lemmas.List.{take_all, take-append-le}
use Rattle.hall_grid.proofs.AreComponents.{AreComponents-members}
use Rattle.hall_nurikabe.proofs.HasAlways.{apart_hopeless}
use Rattle.hall_nurikabe.proofs.deduce.are_walls_apart.Goals as goal

pub returns : goal.returns
returns c = λ yes.
    let labels = c.in_ok-labels.labels in
    let kept = c.keep_labels.new.labels in
    let whole : length kept ≡ labels.len = omega (arith, c.keep_labels.ensures.exact, c.deref_mut.ensures.len) in
    let back : c.deref-2.result.now ≡ kept =
    c.deref-2.ensures.value ∙ take-append-le labels.len kept (drop (length kept) labels.items) (omega arith)
    ∙ take_all labels.len kept (omega arith) in
    apart_hopeless c.args.position.now.puzzle.now c.args.position.now.kind c.args.position.now.partial.now.places
    c.args.position.now.fits
    labels.items c.deref-2.result.now
    (AreComponents-members _ _ _ _ _ c.in_ok-open.ensures.marked
    (rw (c.size.ensures.size, c.deref.ensures.value) at c.in_ok-labels.ensures))
    (rw back (rw c.deref_mut.ensures.value at c.keep_labels.ensures)) (c.labels_differ.ensures.0 yes)

pub returns-in_err-open : goal.returns-in_err-open
returns-in_err-open c = IfOk-from_err c.from_residual.result _ c.from_residual.ensures.0

pub returns-in_err-labels : goal.returns-in_err-labels
returns-in_err-labels c = IfOk-from_err c.from_residual-in_err-labels.result _ c.from_residual-in_err-labels.ensures.0
