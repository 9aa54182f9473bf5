use Rattle.std.proofs.Common.{◌∙◌, refl, inr, subst, sym}
use Rattle.std.proofs.lemmas.Option.{same_Some}
use Rattle.hall_http.specs.Progress.{AnswersFirst}
use Rattle.hall_http.specs.declared.client.Client.{Client}
use Rattle.hall_http.proofs.clients.answer_at.Goals as goal

pub returns-in-Some-clause-answered : goal.returns-in-Some-clause-answered
returns-in-Some-clause-answered g c =
    inr (c.in-Some.client, c.answer.new.self, c.in-Some.is, refl, c.answer.ensures.answered)

pub returns-in-Some-clause-first : goal.returns-in-Some-clause-first
returns-in-Some-clause-first g c = λ k is. (
  c.answer.new.self,
  refl,
  subst
      (λ (k : Client g.row.P.Denot).
      AnswersFirst g.H.Responder.may_wait k c.answer.new.responder c.answer.new.self)
      (same_Some _ _ (sym c.in-Some.is ∙ is)) c.answer.ensures.first,
)

pub returns-in-None-clause-first : goal.returns-in-None-clause-first
returns-in-None-clause-first g c = λ k is. let clash = sym c.in-None.is ∙ is in absurd cc
