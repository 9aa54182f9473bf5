use Rattle.std.proofs.Common.{refl, inl, arith}
use Rattle.hall_store.proofs.Knowing.{leads_same}
use Rattle.hall_desk.specs.Desk.{kept_by}
use Rattle.hall_http.proofs.Refusals.{unavailable_reply}
use Rattle.hall_http.proofs.Runs.{answered_at}
use Rattle.hall_http.proofs.responder.DeskResponder.answer.Goals as goal

pub returns-in-Some-clause-answers : goal.returns-in-Some-clause-answers
returns-in-Some-clause-answers g c = λ bytes lent.
    rw c.in-Some.is
    (answered_at (λ desk. g.S.ReadStore.content (kept_by desk)) _ _ bytes _ _ c.answer_raw_request-answer.ensures.leads
    c.answer_raw_request-answer.ensures.once (c.answer_raw_request-answer.ensures.quiet bytes lent)
    (c.answer_raw_request-answer.ensures.stops bytes lent) c.at_rest.ensures
    (c.answer_raw_request-answer.ensures.answers bytes lent)
    (c.answer_raw_request-answer.ensures.untouched bytes lent))

pub returns-in-None-clause-answers : goal.returns-in-None-clause-answers
returns-in-None-clause-answers g c = λ bytes lent. rw c.in-None.is (record {
  leads = leads_same _;
  once = omega arith;
  quiet = λ t asked at. absurd cc;
  stops = λ h left may. inl may;
  settled = c.at_rest-in-None.ensures;
  answers = λ h. inl ((λ world. (unavailable_reply, refl)), λ s. refl);
  untouched = λ quiet. refl;
})

pub returns-in-None-clause-goes_on : goal.returns-in-None-clause-goes_on
returns-in-None-clause-goes_on g c = λ stays told. inl refl

pub returns-in-Some-clause-shut : goal.returns-in-Some-clause-shut
returns-in-Some-clause-shut g c = λ bytes lent shut.
    rw c.in-Some.is ((λ none. absurd cc), c.answer_raw_request-answer.ensures.shut bytes lent shut)

pub returns-in-None-clause-shut : goal.returns-in-None-clause-shut
returns-in-None-clause-shut g c = λ bytes lent shut. absurd cc
