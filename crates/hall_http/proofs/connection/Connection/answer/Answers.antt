use Rattle.std.proofs.Common.{ap, inr, refl, subst, []}
use Rattle.std.proofs.lemmas.List.{append-nil}
use Rattle.hall_http.specs.Answered.{answer_text}
use Rattle.hall_http.specs.Head.{HasNoWholeRequest}
use Rattle.hall_http.specs.Steps.{StandsInFront, gated}
use Rattle.hall_http.proofs.Accepting.{accepted, front_lent}
use Rattle.hall_http.proofs.connection.Connection.answer.Goals as goal

pub accept-requires-clause-front : goal.accept-requires-clause-front
accept-requires-clause-front g c =
    let (inside, lent) = rw c.unread.ensures at c.in-Whole.ensures in
    front_lent c.args.self.now c.in-Whole.size c.in-Whole.request c.answer-answer.result inside lent

pub returns-in-Whole : goal.returns-in-Whole
returns-in-Whole g c =
    let (inside, lent) = rw c.unread.ensures at c.in-Whole.ensures in
    accepted (gated g.H.Responder.answers g.H.Responder.goes_on) _ _ c.args.moment c.args.self.now _ _
    (front_lent c.args.self.now c.in-Whole.size c.in-Whole.request c.answer-answer.result inside lent)
    c.accept.ensures (
      refl,
      c.answer-answer.ensures.answers _ lent,
      (λ on. c.answer-answer.ensures.goes_on (c.goes_on-goes_on.ensures.opened on)),
      λ off.
          let shut = c.goes_on-goes_on.ensures.shut off in
          (record { same = ap answer_text shut }, c.answer-answer.ensures.shut _ lent shut),
    )

pub returns-in-More : goal.returns-in-More
returns-in-More g c =
    let unfinished = (rw c.unread.ensures at c.in-More.ensures).0 in
    inr (refl, refl, unfinished.none)

pub returns-in-Never : goal.returns-in-Never
returns-in-Never g c =
    let never = rw c.unread.ensures at c.in-Never.ensures in
    inr (refl, refl, subst HasNoWholeRequest (append-nil c.args.self.now.inbox) (never []))
