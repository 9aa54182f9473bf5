use Rattle.std.proofs.Common.{inl, inr}
use Rattle.hall_http.proofs.Waited.{goes_now}
use Rattle.hall_http.proofs.event_loop.Schedule.let_go.Goals as goal

pub returns-clause-goes : goal.returns-clause-goes
returns-clause-goes g c =
    let old = c.args.self.now in
    rw (c.try_again.ensures.places, c.try_again.ensures.asked.0, c.let_go.ensures.seated, c.let_go.ensures.heard)
    (goes_now old.places old.looks.items old.read c.args.place old.places.waits old.counts c.requires.may
    (elim c.requires.heard [
      | inl on ↦ inl (old.heard_out on)
      | inr left ↦ inr left
    ]))
