use Rattle.std.proofs.Common.{◌∙◌, ◌+◌, None, ap, sym}
use Rattle.hall_http.specs.declared.places.Visit.TheVariants.{Ready}
use Rattle.hall_http.proofs.Waited.{as_heard_new, came_now, taken_new}
use Rattle.hall_http.proofs.places.Places.seat.Goals as goal

pub invariant_of-self-clause-came : goal.invariant_of-self-clause-came
invariant_of-self-clause-came c =
    let old = c.args.self.now in
    rw (c.replace.ensures.after, c.and-seated.ensures) (came_now old.seated.items old.heard c.args.place old.came)

pub invariant_of-self-clause-waits : goal.invariant_of-self-clause-waits
invariant_of-self-clause-waits c =
    let old = c.args.self.now in
    rw (c.replace.ensures.after, c.and-seated.ensures)
    (as_heard_new old.seated.items old.heard.items old.heard old.visits.items c.args.place old.waits)

pub invariant_of-self-clause-counted : goal.invariant_of-self-clause-counted
invariant_of-self-clause-counted c =
    let old = c.args.self.now in
    ap (λ n. n + 1) old.counted
    ∙ sym (taken_new old.visits.items c.args.place (Ready None) c.requires.0 c.requires.1)
