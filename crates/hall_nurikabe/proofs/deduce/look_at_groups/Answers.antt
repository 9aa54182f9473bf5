use Rattle.std.proofs.lemmas.Result.{IfOk-from_err}
use Rattle.hall_nurikabe.specs.Forced.{IsSetTo}
use Rattle.hall_nurikabe.proofs.AreRegions.{AreRegions-members}
use Rattle.hall_nurikabe.proofs.deduce.look_at_groups.Goals as goal

pub force_groups-requires-clause-groups : goal.force_groups-requires-clause-groups
force_groups-requires-clause-groups c =
    rw (c.deref-2.ensures.value, c.deref-3.ensures.value)
    (AreRegions-members c.args.position.now.puzzle.now.size _ (IsSetTo c.args.position.now.partial.now.places 0) _ _
    c.in_ok-white.ensures.marked
    (rw (c.size.ensures.size, c.deref.ensures.value) at c.in_ok-groups.ensures))

pub returns-in_err-white-clause-dead : goal.returns-in_err-white-clause-dead
returns-in_err-white-clause-dead c = IfOk-from_err c.from_residual.result _ c.from_residual.ensures.0

pub returns-in_err-white-clause-forced : goal.returns-in_err-white-clause-forced
returns-in_err-white-clause-forced c = IfOk-from_err c.from_residual.result _ c.from_residual.ensures.0

pub returns-in_err-groups-clause-dead : goal.returns-in_err-groups-clause-dead
returns-in_err-groups-clause-dead c = IfOk-from_err c.from_residual-in_err-groups.result _
    c.from_residual-in_err-groups.ensures.0

pub returns-in_err-groups-clause-forced : goal.returns-in_err-groups-clause-forced
returns-in_err-groups-clause-forced c = IfOk-from_err c.from_residual-in_err-groups.result _
    c.from_residual-in_err-groups.ensures.0
