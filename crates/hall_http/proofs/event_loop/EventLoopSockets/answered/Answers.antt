use Rattle.std.proofs.Math.Logic.{∥∥₁_map}
use Rattle.hall_http.specs.Coming.{logged}
use Rattle.hall_http.specs.Seats.{heard_in}
use Rattle.hall_http.proofs.Fair.{owes_still}
use Rattle.hall_http.proofs.event_loop.EventLoopSockets.answered.Goals as goal

pub invariant_of-self-clause-owes : goal.invariant_of-self-clause-owes
invariant_of-self-clause-owes g c =
    let old = c.args.self.now in
    rw c.answered.ensures.places
    (∥∥₁_map old.owes
    (λ owes. owes_still (logged old.nexts) (heard_in old.schedule.places) old.schedule.ready c.answered.new.self.ready
    c.answered.ensures.line owes))

pub invariant_of-self-clause-said : goal.invariant_of-self-clause-said
invariant_of-self-clause-said g c = rw (c.answered.ensures.places, c.answered.ensures.asked) c.args.self.now.said

pub invariant_of-self-clause-come : goal.invariant_of-self-clause-come
invariant_of-self-clause-come g c = rw c.answered.ensures.places c.args.self.now.come
