use Rattle.std.proofs.Common.{◌≡◌, ◌⊎◌, refl, inl, inr, List, ℕ}
use Rattle.hall_desk.specs.declared.reply.Reply.TheVariants.{Unavailable as NotServed}
use Rattle.hall_http.specs.Reply.{BytesOf}
use Rattle.hall_http.proofs.Stops.{leaves_turn}
use Rattle.std.specs.Prelude.{Ok, Err}
use Rattle.hall_desk.specs.Desk.{kept_by}
use Rattle.hall_http.specs.Answered.{answer_text, Answers, AnswersFault, AnswersRequest, IsStepReply}
use Rattle.hall_http.specs.Request.{AsksFor}
use Rattle.hall_http.proofs.Refusals.{unavailable_reply}
use Rattle.hall_http.proofs.Requests.{asked_of, fault_answers, answers_bytes, request_sane, nobodys, quiet_bytes}
use Rattle.hall_store.proofs.Knowing.{over_turn}
use Rattle.hall_http.proofs.answer.answer_raw_request.Goals as goal

pub returns-in-Ok-clause-answers : goal.returns-in-Ok-clause-answers
returns-in-Ok-clause-answers g c =
    let t = c.args.moment in
    let request = c.in-Ok.request in
    let text : List ℕ = answer_text c.answer_request.result in
    λ bytes lent h. over_turn (λ before after. AnswersRequest before t request text after)
    (λ before after. Answers before t bytes text after)
    (g.S.ReadStore.content (kept_by c.args.desk.now)) (g.S.ReadStore.content (kept_by c.answer_request.new.desk))
    (λ before after says. answers_bytes before t bytes request text after
    (asked_of bytes c.args.raw.now (Ok request) lent c.in-Ok.ensures) c.answer_request.ensures.timed says)
    (c.answer_request.ensures.answers h)

pub returns-in-Ok-clause-untouched : goal.returns-in-Ok-clause-untouched
returns-in-Ok-clause-untouched g c = λ bytes lent nothing.
    c.answer_request.ensures.untouched
    (nobodys bytes c.in-Ok.request (asked_of bytes c.args.raw.now (Ok c.in-Ok.request) lent c.in-Ok.ensures) nothing)

pub returns-in-Ok-clause-quiet : goal.returns-in-Ok-clause-quiet
returns-in-Ok-clause-quiet g c = λ bytes lent.
    quiet_bytes (g.S.ReadStore.content (kept_by c.args.desk.now))
    (g.S.ReadStore.content (kept_by c.answer_request.new.desk))
    c.args.moment bytes c.in-Ok.request (asked_of bytes c.args.raw.now (Ok c.in-Ok.request) lent c.in-Ok.ensures)
    c.answer_request.ensures.quiet

pub returns-in-Ok-clause-sane : goal.returns-in-Ok-clause-sane
returns-in-Ok-clause-sane g c = λ h s sane.
    request_sane (g.S.ReadStore.content (kept_by c.args.desk.now))
    (g.S.ReadStore.content (kept_by c.answer_request.new.desk))
    c.args.moment c.in-Ok.request _ c.answer_request.ensures.timed (c.answer_request.ensures.answers h) s sane

pub returns-in-Err-Form-clause-answers : goal.returns-in-Err-Form-clause-answers
returns-in-Err-Form-clause-answers g c =
    let says : AsksFor c.args.raw.now (Err c.in-Err-Form.fault) = rw c.in-Err-Form.field-0-is at
    c.in-Err-Form.ensures in
    let written : AnswersFault c.in-Err-Form.fault (answer_text c.answer_fault.result) =
    rw c.in-Err-Form.field-0-is at c.answer_fault.ensures.told in
    λ bytes lent h.
    fault_answers (g.S.ReadStore.content (kept_by c.args.desk.now)) c.args.moment bytes _ c.in-Err-Form.fault
    (asked_of bytes c.args.raw.now (Err c.in-Err-Form.fault) lent says) written

pub returns-in-Err-Memory-clause-answers : goal.returns-in-Err-Memory-clause-answers
returns-in-Err-Memory-clause-answers g c = λ bytes lent h. inl ((λ world. inr (inr unavailable_reply, refl)), λ s. refl)

pub returns-in-Ok-clause-stops : goal.returns-in-Ok-clause-stops
returns-in-Ok-clause-stops g c =
    let t = c.args.moment in
    let request = c.in-Ok.request in
    let text : List ℕ = answer_text c.answer_request.result in
    λ bytes lent. leaves_turn (λ before left. (made : List ℕ) × ((made ≡ text) ⊎ BytesOf NotServed text)
    × IsStepReply before t request made left)
    (λ before left. (made : List ℕ) × ((made ≡ text) ⊎ BytesOf NotServed text) × Answers before t bytes made left)
    (g.S.ReadStore.content (kept_by c.args.desk.now)) (g.S.ReadStore.content (kept_by c.answer_request.new.desk))
    (λ before left it. (
      it.0,
      it.1,
      answers_bytes before t bytes request it.0 left
          (asked_of bytes c.args.raw.now (Ok request) lent c.in-Ok.ensures) c.answer_request.ensures.timed (inl it.2),
    ))
    c.answer_request.ensures.stops

pub returns-in-Err-Form-clause-goes_on : goal.returns-in-Err-Form-clause-goes_on
returns-in-Err-Form-clause-goes_on g c = λ stays told. inl refl

pub returns-in-Err-Memory-clause-goes_on : goal.returns-in-Err-Memory-clause-goes_on
returns-in-Err-Memory-clause-goes_on g c = λ stays told. inl refl

pub returns-in-Ok-clause-shut : goal.returns-in-Ok-clause-shut
returns-in-Ok-clause-shut g c = λ bytes lent shut nothing.
    c.answer_request.ensures.shut shut
    (nobodys bytes c.in-Ok.request (asked_of bytes c.args.raw.now (Ok c.in-Ok.request) lent c.in-Ok.ensures) nothing)

pub returns-in-Err-Form-clause-shut : goal.returns-in-Err-Form-clause-shut
returns-in-Err-Form-clause-shut g c = λ bytes lent shut. absurd (c.answer_fault.ensures.opened shut)

pub returns-in-Err-Memory-clause-shut : goal.returns-in-Err-Memory-clause-shut
returns-in-Err-Memory-clause-shut g c = λ bytes lent shut. absurd cc
