use Rattle.hall_http.proofs.Accepting.{front_lent}
use Rattle.hall_http.proofs.Rested.{rests_never, rests_once}
use Rattle.hall_http.proofs.connection.Connection.join.Goals as goal

pub returns-then-not-starts_with-clause-rests : goal.returns-then-not-starts_with-clause-rests
returns-then-not-starts_with-clause-rests g c = rests_never g.H.Responder.rests _

pub returns-then-not-starts_with-clause-joined : goal.returns-then-not-starts_with-clause-joined
returns-then-not-starts_with-clause-joined g c = λ xs have. have

pub returns-in-More-clause-rests : goal.returns-in-More-clause-rests
returns-in-More-clause-rests g c = rests_never g.H.Responder.rests _

pub returns-in-More-clause-joined : goal.returns-in-More-clause-joined
returns-in-More-clause-joined g c = λ xs have. have

pub returns-in-Never-clause-rests : goal.returns-in-Never-clause-rests
returns-in-Never-clause-rests g c = rests_never g.H.Responder.rests _

pub returns-in-Never-clause-joined : goal.returns-in-Never-clause-joined
returns-in-Never-clause-joined g c = λ xs have. have

pub returns-in-Some-clause-rests : goal.returns-in-Some-clause-rests
returns-in-Some-clause-rests g c = rests_once g.H.Responder.rests _ _ c.in-Some.ensures.rests

pub returns-in-Some-clause-joined : goal.returns-in-Some-clause-joined
returns-in-Some-clause-joined g c = λ xs have.
    let (inside, lent) = rw c.unread-unread.ensures at c.in-Whole.ensures in (
      front_lent c.args.self.now c.in-Whole.size c.in-Whole.request c.in-Some.answer inside lent,
      c.in-Some.ensures.joined xs _ lent have,
    )

pub returns-in-None-clause-rests : goal.returns-in-None-clause-rests
returns-in-None-clause-rests g c = rests_once g.H.Responder.rests _ _ c.in-None.ensures.rests

pub returns-in-None-clause-joined : goal.returns-in-None-clause-joined
returns-in-None-clause-joined g c = λ xs have.
    let (inside, lent) = rw c.unread-unread.ensures at c.in-Whole.ensures in
    c.in-None.ensures.joined xs _ lent have
