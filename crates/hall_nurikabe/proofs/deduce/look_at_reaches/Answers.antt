use Rattle.std.proofs.lemmas.Result.{IfOk-from_err}
use Rattle.hall_nurikabe.proofs.AreBroken.{AreCells-from_regions}
use Rattle.hall_nurikabe.proofs.AreRegions.{AreRegions-members}
use Rattle.hall_nurikabe.proofs.deduce.look_at_reaches.Goals as goal

pub fill_reaches-requires-clause-reaches : goal.fill_reaches-requires-clause-reaches
fill_reaches-requires-clause-reaches c =
    rw (c.deref-4.ensures.value, c.deref-5.ensures.value)
    (AreRegions-members _ _ _ _ _ c.in_ok-open.ensures.marked
    (rw (c.size.ensures.size, c.deref.ensures.value) at c.in_ok-reaches.ensures))

pub returns-in_err-open-clause-dead : goal.returns-in_err-open-clause-dead
returns-in_err-open-clause-dead c = IfOk-from_err c.from_residual.result _ c.from_residual.ensures.0

pub returns-in_err-open-clause-forced : goal.returns-in_err-open-clause-forced
returns-in_err-open-clause-forced c = IfOk-from_err c.from_residual.result _ c.from_residual.ensures.0

pub returns-in_err-reaches-clause-dead : goal.returns-in_err-reaches-clause-dead
returns-in_err-reaches-clause-dead c = IfOk-from_err c.from_residual-in_err-reaches.result _
    c.from_residual-in_err-reaches.ensures.0

pub returns-in_err-reaches-clause-forced : goal.returns-in_err-reaches-clause-forced
returns-in_err-reaches-clause-forced c = IfOk-from_err c.from_residual-in_err-reaches.result _
    c.from_residual-in_err-reaches.ensures.0

pub count_by_label-requires-clause-labels : goal.count_by_label-requires-clause-labels
count_by_label-requires-clause-labels c = rw c.deref-2.ensures.value
    (AreCells-from_regions _ c.size.result _ _ c.in_ok-reaches.ensures.components)

pub returns-in_err-white-clause-dead : goal.returns-in_err-white-clause-dead
returns-in_err-white-clause-dead c = IfOk-from_err c.from_residual-in_err-white.result _
    c.from_residual-in_err-white.ensures.0

pub returns-in_err-white-clause-forced : goal.returns-in_err-white-clause-forced
returns-in_err-white-clause-forced c = IfOk-from_err c.from_residual-in_err-white.result _
    c.from_residual-in_err-white.ensures.0

pub returns-in_err-filled-clause-dead : goal.returns-in_err-filled-clause-dead
returns-in_err-filled-clause-dead c = IfOk-from_err c.from_residual-in_err-filled.result _
    c.from_residual-in_err-filled.ensures.0

pub returns-in_err-filled-clause-forced : goal.returns-in_err-filled-clause-forced
returns-in_err-filled-clause-forced c = IfOk-from_err c.from_residual-in_err-filled.result _
    c.from_residual-in_err-filled.ensures.0
