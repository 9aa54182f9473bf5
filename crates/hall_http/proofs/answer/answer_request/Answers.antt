use Rattle.std.proofs.Common.{◌≡◌, ◌⊎◌, ◌∙◌, ℕ, List, refl, inl, inr, arith}
use Rattle.hall_desk.specs.declared.reply.Reply.TheVariants.{Unavailable as NotServed}
use Rattle.hall_http.specs.Reply.{BytesOf}
use Rattle.hall_http.proofs.Stops.{leaves_turn}
use Rattle.hall_desk.specs.Desk.{kept_by}
use Rattle.hall_http.specs.Answered.{AnswersRequest, IsStepReply, answer_text}
use Rattle.hall_http.proofs.Refusals.{unavailable_reply}
use Rattle.hall_store.proofs.Knowing.{kept_leads, leads_then, over_turn}
use Rattle.hall_http.proofs.answer.answer_request.Goals as goal

pub returns-in-Ok-clause-timed : goal.returns-in-Ok-clause-timed
returns-in-Ok-clause-timed g c = record {
  moment = (omega arith, omega (arith, c.get-moment.ensures.value, c.get-moment.ensures.most));
  request = c.in_range.ensures;
}

pub returns-in-Err-clause-timed : goal.returns-in-Err-clause-timed
returns-in-Err-clause-timed g c = record {
  moment = (omega arith, omega (arith, c.get-moment.ensures.value, c.get-moment.ensures.most));
  request = c.in_range.ensures;
}

pub returns-in-Ok-clause-answers : goal.returns-in-Ok-clause-answers
returns-in-Ok-clause-answers g c =
    let t = c.args.moment in
    let request = c.args.request.now in
    let text = answer_text c.in-Ok.answer in
    rw c.answer_of.ensures.text
    (λ h. over_turn (λ before after. IsStepReply before t request text after)
    (λ before after. AnswersRequest before t request text after)
    (g.S.ReadStore.content (kept_by c.args.desk.now)) (g.S.ReadStore.content (kept_by c.step_answer.new.desk))
    (λ before after step. inl step) (c.in-Ok.ensures.ok.1 h))

pub returns-in-Refused-clause-answers : goal.returns-in-Refused-clause-answers
returns-in-Refused-clause-answers g c =
    let kept = c.unavailable.ensures.kept in
    λ h. inl ((λ world. inr (rw c.unavailable.ensures.text unavailable_reply, refl)), λ s. kept.world h s)

pub returns-in-Err-clause-leads : goal.returns-in-Err-clause-leads
returns-in-Err-clause-leads g c =
    let mid = g.S.ReadStore.content (kept_by c.step_answer.new.desk) in
    let new = g.S.ReadStore.content (kept_by c.unavailable-in-Err.new.desk) in
    leads_then (g.S.ReadStore.content (kept_by c.args.desk.now)) mid new c.in-Err.ensures.leads
    (kept_leads mid new c.unavailable-in-Err.ensures.kept)

pub returns-in-Err-clause-once : goal.returns-in-Err-clause-once
returns-in-Err-clause-once g c = omega (arith, c.in-Err.ensures.once, c.unavailable-in-Err.ensures.kept.writes)

pub returns-in-Err-clause-quiet : goal.returns-in-Err-clause-quiet
returns-in-Err-clause-quiet g c = λ h s quiet.
    let kept = c.unavailable-in-Err.ensures.kept in
    let none = c.in-Err.ensures.quiet (kept.honest h) (kept.serves h s) quiet in
    omega (arith, none, kept.writes)

pub returns-in-Err-clause-answers : goal.returns-in-Err-clause-answers
returns-in-Err-clause-answers g c =
    let kept = c.unavailable-in-Err.ensures.kept in
    λ h. inl (
      (λ world. inr (rw c.unavailable-in-Err.ensures.text unavailable_reply, refl)),
      λ s. kept.world h s ∙ c.in-Err.ensures.err (kept.honest h) (kept.serves h s),
    )

pub returns-in-Err-clause-untouched : goal.returns-in-Err-clause-untouched
returns-in-Err-clause-untouched g c = λ nobody.
    c.unavailable-in-Err.ensures.untouched nobody ∙ c.in-Err.ensures.untouched nobody

pub returns-in-Err-clause-goes_on : goal.returns-in-Err-clause-goes_on
returns-in-Err-clause-goes_on g c = λ stays told.
    elim (c.unavailable-in-Err.ensures.goes_on stays) [
      | inl nobody ↦ inl (c.unavailable-in-Err.ensures.untouched nobody ∙ c.in-Err.ensures.untouched nobody)
      | inr serves ↦ inr serves
    ]

pub returns-in-Ok-clause-goes_on : goal.returns-in-Ok-clause-goes_on
returns-in-Ok-clause-goes_on g c = λ stays told.
    elim (c.answer_of.ensures.goes_on stays) [
      | inl nobody ↦ inl (c.in-Ok.ensures.untouched nobody)
      | inr other ↦ absurd (other (record { same = told }))
    ]

pub returns-in-Ok-clause-stops : goal.returns-in-Ok-clause-stops
returns-in-Ok-clause-stops g c =
    let text = answer_text c.in-Ok.answer in
    rw c.answer_of.ensures.text (leaves_turn (λ before left. (made : List ℕ) × (made ≡ text)
    × IsStepReply before c.args.moment c.args.request.now made left)
    (λ before left. (made : List ℕ) × ((made ≡ text) ⊎ BytesOf NotServed text)
    × IsStepReply before c.args.moment c.args.request.now made left)
    (g.S.ReadStore.content (kept_by c.args.desk.now)) (g.S.ReadStore.content (kept_by c.step_answer.new.desk))
    (λ before left it. (it.0, inl it.1, it.2)) c.in-Ok.ensures.stops)

pub returns-in-Err-clause-stops : goal.returns-in-Err-clause-stops
returns-in-Err-clause-stops g c =
    let text : List ℕ = answer_text c.unavailable-in-Err.result in
    let mid = g.S.ReadStore.content (kept_by c.step_answer.new.desk) in
    let kept = c.unavailable-in-Err.ensures.kept in
    let stops = leaves_turn
    (λ before left. (made : List ℕ) × Unit {0} × IsStepReply before c.args.moment c.args.request.now made left)
    (λ before left. (made : List ℕ) × ((made ≡ text) ⊎ BytesOf NotServed text)
    × IsStepReply before c.args.moment c.args.request.now made left)
    (g.S.ReadStore.content (kept_by c.args.desk.now)) mid
    (λ before left it. (it.0, inr (rw c.unavailable-in-Err.ensures.text unavailable_reply), it.2)) c.in-Err.ensures.stops in
    λ h left may. stops (kept.honest h) left (kept.stops h left may)

pub answer_of-requires : goal.answer_of-requires
answer_of-requires g c = c.in-Ok.ensures.ok.0
