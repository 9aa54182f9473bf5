use Rattle.std.proofs.lemmas.Result.{IfOk-from_err}
use Rattle.std.proofs.Common.{◌≡◌, ◌∙◌, Some, None, get_or, ap, arith}
use Rattle.hall_solve.specs.Trail.{Trailed}
use Rattle.hall_solve.proofs.Boards.{set_within}
use Rattle.hall_solve.proofs.partial.Partial.filling.Goals as goal

pub returns-clause-extends : goal.returns-clause-extends
returns-clause-extends c = λ i v h.
    let there : get_or c.self.inside.places.items i None ≡ Some v =
    (rw (ap (λ (b : Trailed). b.places) c.self.view_is) h) in
    let here : get_or c.deref-place-items.result.now i None ≡ Some v = ap (λ ps. get_or ps i None)
    c.deref-place-items.ensures.value ∙ there in
    let within = set_within c.deref-place-items.result.now i v here in
    rw c.new.ensures (c.loop-place.invariant.same i v (omega arith) here)

pub returns-in_err-values-clause-length : goal.returns-in_err-values-clause-length
returns-in_err-values-clause-length c = IfOk-from_err c.from_residual.result _ c.from_residual.ensures.0

pub returns-in_err-values-clause-extends : goal.returns-in_err-values-clause-extends
returns-in_err-values-clause-extends c = IfOk-from_err c.from_residual.result _ c.from_residual.ensures.0

pub returns-in_err-push-clause-length : goal.returns-in_err-push-clause-length
returns-in_err-push-clause-length c = IfOk-from_err c.from_residual-in_err-push.result _
    c.from_residual-in_err-push.ensures.0

pub returns-in_err-push-clause-extends : goal.returns-in_err-push-clause-extends
returns-in_err-push-clause-extends c = IfOk-from_err c.from_residual-in_err-push.result _
    c.from_residual-in_err-push.ensures.0
