use Rattle.std.proofs.Common.{◌∙◌, ap, arith, sym}
use Rattle.std.specs.Prelude.{is_some}
use Rattle.hall_http.proofs.Waited.{as_heard_woken, taken_same}
use Rattle.hall_http.proofs.places.Places.wakes.Goals as goal

pub invariant_of-self-clause-waits : goal.invariant_of-self-clause-waits
invariant_of-self-clause-waits c =
    let old = c.args.self.now in
    rw c.woken.ensures
    (as_heard_woken old.seated.items old.heard.items old.visits.items c.args.place c.in-Some.visit
    (sym c.at.ensures.known ∙ c.in-Some.is) old.waits)

pub invariant_of-self-clause-counted : goal.invariant_of-self-clause-counted
invariant_of-self-clause-counted c =
    let old = c.args.self.now in
    old.counted
    ∙ sym (taken_same old.visits.items c.args.place _ (omega (arith, old.long, c.in-Some.ensures.within))
    (ap is_some (sym c.at.ensures.known ∙ c.in-Some.is)))
