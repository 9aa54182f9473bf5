use Rattle.std.proofs.lemmas.Result.{IfOk-from_err}
use Rattle.std.proofs.Common.{◌≡◌, true, rules}
use Rattle.hall_grid.proofs.AreComponents.{AreComponents-members}
use Rattle.hall_nurikabe.specs.Forced.{IsSetTo}
use Rattle.hall_nurikabe.proofs.AreBroken.{AreCells-from_regions}
use Rattle.hall_nurikabe.proofs.NeedsMore.{wall_grows}
use Rattle.hall_nurikabe.proofs.deduce.look_at_walls.Goals as goal

pub exits_of-requires-clause-labels : goal.exits_of-requires-clause-labels
exits_of-requires-clause-labels c = rw c.deref-3.ensures.value
    (AreCells-from_regions _ c.size.result _ _ c.in_ok-labels.ensures)

pub force_exits-requires-clause-labels : goal.force_exits-requires-clause-labels
force_exits-requires-clause-labels c =
    rw c.deref-5.ensures.value
    (AreComponents-members _ _ _ (IsSetTo c.args.position.now.partial.now.places 1) _ c.in_ok-walls.ensures.marked
    (rw (c.size.ensures.size, c.deref.ensures.value) at c.in_ok-labels.ensures))

pub force_exits-requires-clause-growing : goal.force_exits-requires-clause-growing
force_exits-requires-clause-growing c =
    let a = AreComponents-members _ _ _ (IsSetTo c.args.position.now.partial.now.places 1) _
    c.in_ok-walls.ensures.marked
    (rw (c.size.ensures.size, c.deref.ensures.value) at c.in_ok-labels.ensures) in
    let two : c.labels_differ.result ≡ true = search rules in
    let apart = (rw c.deref-2.ensures.value at (c.labels_differ.ensures.0 two)) in
    let g = (rw c.deref-4.ensures.value at c.in_ok-growing.ensures) in
    rw (c.deref-5.ensures.value, c.deref-7.ensures.value)
    (λ label h. wall_grows c.args.position.now.puzzle.now c.args.position.now.kind
    c.args.position.now.partial.now.places c.args.position.now.fits c.in_ok-labels.labels.items a apart label
    (g.marked label h))

pub returns-in_err-walls-clause-dead : goal.returns-in_err-walls-clause-dead
returns-in_err-walls-clause-dead c = IfOk-from_err c.from_residual.result _ c.from_residual.ensures.0

pub returns-in_err-walls-clause-forced : goal.returns-in_err-walls-clause-forced
returns-in_err-walls-clause-forced c = IfOk-from_err c.from_residual.result _ c.from_residual.ensures.0

pub returns-in_err-labels-clause-dead : goal.returns-in_err-labels-clause-dead
returns-in_err-labels-clause-dead c = IfOk-from_err c.from_residual-in_err-labels.result _
    c.from_residual-in_err-labels.ensures.0

pub returns-in_err-labels-clause-forced : goal.returns-in_err-labels-clause-forced
returns-in_err-labels-clause-forced c = IfOk-from_err c.from_residual-in_err-labels.result _
    c.from_residual-in_err-labels.ensures.0

pub returns-in_err-exits-clause-dead : goal.returns-in_err-exits-clause-dead
returns-in_err-exits-clause-dead c = IfOk-from_err c.from_residual-in_err-exits.result _
    c.from_residual-in_err-exits.ensures.0

pub returns-in_err-exits-clause-forced : goal.returns-in_err-exits-clause-forced
returns-in_err-exits-clause-forced c = IfOk-from_err c.from_residual-in_err-exits.result _
    c.from_residual-in_err-exits.ensures.0

pub returns-in_err-growing-clause-dead : goal.returns-in_err-growing-clause-dead
returns-in_err-growing-clause-dead c = IfOk-from_err c.from_residual-in_err-growing.result _
    c.from_residual-in_err-growing.ensures.0

pub returns-in_err-growing-clause-forced : goal.returns-in_err-growing-clause-forced
returns-in_err-growing-clause-forced c = IfOk-from_err c.from_residual-in_err-growing.result _
    c.from_residual-in_err-growing.ensures.0
