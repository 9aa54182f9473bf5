use Rattle.std.proofs.Common.{◌≡◌, ◌∙◌, ◌++◌, ◌∷◌, [], length, refl, sym}
use Rattle.std.proofs.Math.Logic.{∥∥₁_map}
use Rattle.std.proofs.lemmas.List.{length-map}
use Rattle.hall_http.specs.Coming.{logged}
use Rattle.hall_http.specs.Seats.{heard_in}
use Rattle.hall_http.specs.Waited.{turns_by}
use Rattle.hall_http.proofs.Fair.{called_more, logged_more, owes_next}
use Rattle.hall_http.proofs.Waited.{come_next, goes_as_come, said_next}
use Rattle.hall_http.proofs.event_loop.EventLoopSockets.next.Goals as goal

pub invariant_of-self-clause-owes : goal.invariant_of-self-clause-owes
invariant_of-self-clause-owes g c =
    let old = c.args.self.now in
    let now = c.next-next.new.self in
    rw (
      logged_more old.nexts c.note-self.result c.next-next.result c.next-next.new.self.looks
          (rw c.replace-before.ensures.value at c.note-self.ensures),
      c.next-next.ensures.handed_out.heard,
    )
    (∥∥₁_map old.owes
    (λ owes.
    owes_next (logged old.nexts) (heard_in old.schedule.places) old.schedule.ready now.ready c.next-next.result
    c.requires c.next-next.ensures.line owes))

pub invariant_of-self-clause-in_line : goal.invariant_of-self-clause-in_line
invariant_of-self-clause-in_line g c =
    let old = c.args.self.now in
    rw (logged_more old.nexts c.note-self.result c.next-next.result c.next-next.new.self.looks
    (rw c.replace-before.ensures.value at c.note-self.ensures))
    (called_more (logged old.nexts) c.next-next.result old.schedule.ready c.next-next.new.self.ready old.in_line
    c.next-next.ensures.line)

pub invariant_of-self-clause-come : goal.invariant_of-self-clause-come
invariant_of-self-clause-come g c =
    let old = c.args.self.now in
    let now = c.next-next.new.self in
    let all : length old.schedule.places.heard.items ≡ turns_by old.nexts.items =
    sym (length-map old.schedule.places.heard.items (λ one. one.0)) ∙ c.requires in
    rw (c.note-self.ensures, c.replace-before.ensures.value)
    (come_next old.nexts.items c.next-next.result now.looks old.schedule.places now.places
    all c.next-next.ensures.handed_out.place old.come)

pub invariant_of-self-clause-said : goal.invariant_of-self-clause-said
invariant_of-self-clause-said g c =
    let old = c.args.self.now in
    let now = c.next-next.new.self in
    let heard = old.schedule.places.heard.items in
    let same : now.places.heard.items ≡ heard = c.next-next.ensures.handed_out.heard in
    let all : length old.schedule.places.heard.items ≡ turns_by old.nexts.items =
    sym (length-map old.schedule.places.heard.items (λ one. one.0)) ∙ c.requires in
    rw (c.note-self.ensures, c.replace-before.ensures.value, same)
    (∥∥₁_map old.said
    (said_next old.nexts.items heard old.schedule.looks.items now.looks.items c.next-next.result now.looks
    all refl c.next-next.ensures.more
    (goes_as_come old.nexts.items c.next-next.result old.schedule.places now.places heard now.looks.items
    c.next-next.ensures.handed_out.place old.come (rw same at c.next-next.ensures.goes))))
