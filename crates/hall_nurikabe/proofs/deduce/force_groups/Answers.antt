use Rattle.std.proofs.lemmas.Result.{IfOk-from_err}
use Rattle.hall_nurikabe.proofs.AreBroken.{AreCells-from_regions}
use Rattle.hall_nurikabe.proofs.HasAlways.{two_hopeless}
use Rattle.hall_nurikabe.proofs.deduce.force_groups.Goals as goal

pub owners-requires-clause-labels : goal.owners-requires-clause-labels
owners-requires-clause-labels c = AreCells-from_regions _ c.args.position.now.puzzle.now.size _ _
    c.requires.groups.components

pub returns-in_default-clause-dead : goal.returns-in_default-clause-dead
returns-in_default-clause-dead c = λ _.
    two_hopeless c.args.position.now.puzzle.now c.args.position.now.kind c.args.position.now.partial.now.places
    c.args.position.now.fits c.args.labels.now
    c.requires.groups.components (rw c.in_default.is at c.in_ok-owners.ensures)

pub steps_left-requires-clause-labels : goal.steps_left-requires-clause-labels
steps_left-requires-clause-labels c = AreCells-from_regions _ c.args.position.now.puzzle.now.size _ _
    c.requires.groups.components

pub returns-in_err-owners-clause-dead : goal.returns-in_err-owners-clause-dead
returns-in_err-owners-clause-dead c = IfOk-from_err c.from_residual.result _ c.from_residual.ensures.0

pub returns-in_err-owners-clause-forced : goal.returns-in_err-owners-clause-forced
returns-in_err-owners-clause-forced c = IfOk-from_err c.from_residual.result _ c.from_residual.ensures.0

pub returns-in_err-left-clause-dead : goal.returns-in_err-left-clause-dead
returns-in_err-left-clause-dead c = IfOk-from_err c.from_residual-in_err-left.result _
    c.from_residual-in_err-left.ensures.0

pub returns-in_err-left-clause-forced : goal.returns-in_err-left-clause-forced
returns-in_err-left-clause-forced c = IfOk-from_err c.from_residual-in_err-left.result _
    c.from_residual-in_err-left.ensures.0
