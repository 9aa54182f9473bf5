use Rattle.std.proofs.Common.{◌∙◌, arith, sym}
use Rattle.hall_http.proofs.Waited.{as_heard_nobody, as_heard_turn, came_more, taken_same}
use Rattle.hall_http.proofs.places.Places.hears.Goals as goal

pub invariant_of-self-clause-waits : goal.invariant_of-self-clause-waits
invariant_of-self-clause-waits c =
    let now = c.free.new.self in
    rw c.and-self.ensures
    (as_heard_nobody now.seated.items now.heard.items now.visits.items c.args.place c.args.step c.args.held now.elapsed
    now.waits c.free.ensures.free)

pub invariant_of-self-clause-came : goal.invariant_of-self-clause-came
invariant_of-self-clause-came c =
    let now = c.free.new.self in rw c.and-self.ensures (came_more now.seated.items now.heard.items _ now.came)

pub invariant_of-self-2-clause-counted : goal.invariant_of-self-2-clause-counted
invariant_of-self-2-clause-counted c =
    let old = c.args.self.now in
    old.counted
    ∙ sym (taken_same old.visits.items c.args.place c.in-Some.visit (omega (arith, old.long, c.in-Some.ensures.there.0))
    c.in-Some.ensures.there.1)

pub invariant_of-self-2-clause-waits : goal.invariant_of-self-2-clause-waits
invariant_of-self-2-clause-waits c =
    let old = c.args.self.now in
    rw c.and-self-2.ensures
    (as_heard_turn old.seated.items old.heard.items old.visits.items c.args.place c.args.step c.args.held old.elapsed
    c.in-Some.visit old.came old.waits c.in-Some.ensures.known)

pub invariant_of-self-2-clause-came : goal.invariant_of-self-2-clause-came
invariant_of-self-2-clause-came c =
    let old = c.args.self.now in rw c.and-self-2.ensures (came_more old.seated.items old.heard.items _ old.came)
