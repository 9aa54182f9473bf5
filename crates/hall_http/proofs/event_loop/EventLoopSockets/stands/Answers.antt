use Rattle.std.proofs.Common.{ap, sym}
use Rattle.std.proofs.Math.Logic.{∥∥₁_map}
use Rattle.hall_http.specs.Coming.{Heard, logged}
use Rattle.hall_http.specs.Seats.{heard_in}
use Rattle.hall_http.proofs.Fair.{heard_more, owes_heard}
use Rattle.hall_http.proofs.Waited.{said_heard}
use Rattle.hall_http.proofs.event_loop.EventLoopSockets.stands.Goals as goal

pub invariant_of-self-clause-owes : goal.invariant_of-self-clause-owes
invariant_of-self-clause-owes g c =
    let old = c.args.self.now in
    let now = c.stands.new.self in
    let told : Heard = ((c.args.place, c.args.step), c.args.held) in
    rw (heard_more old.schedule.places now.places told c.stands.ensures.heard)
    (∥∥₁_map old.owes
    (λ owes.
    owes_heard (logged old.nexts) (heard_in old.schedule.places) old.schedule.ready now.ready told c.stands.ensures.line
    c.stands.ensures.goes_on owes))

pub invariant_of-self-clause-said : goal.invariant_of-self-clause-said
invariant_of-self-clause-said g c =
    let old = c.args.self.now in
    let told : Heard = ((c.args.place, c.args.step), c.args.held) in
    rw (c.stands.ensures.heard.3, c.stands.ensures.asked)
    (∥∥₁_map old.said
    (said_heard old.nexts.items old.schedule.places.heard.items old.schedule.looks.items
    (told, old.schedule.places.elapsed) (ap (λ time. time.0) (sym old.schedule.counts))))

pub invariant_of-self-clause-come : goal.invariant_of-self-clause-come
invariant_of-self-clause-come g c = rw c.stands.ensures.heard.0 c.args.self.now.come
