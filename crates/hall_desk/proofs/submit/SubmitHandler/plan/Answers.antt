use Rattle.std.proofs.Common.{◌∙◌, Option, Some, inr, sym, subst}
use Rattle.std.proofs.lemmas.Bool.{false≢true}
use Rattle.hall_policy.specs.Facts.{IsRoundFound, AreTrue}
use Rattle.hall_policy.specs.declared.record.RoundRow.{RoundRow}
use Rattle.hall_store.specs.Store.{Kept}
use Rattle.hall_desk.specs.Lookups.{IsThere}
use Rattle.hall_desk.specs.Handler.{submit_action}
use Rattle.hall_desk.specs.Plans.{IsJudgedAt}
use Rattle.hall_store.proofs.Knowing.{carried, kept_then}
use Rattle.hall_desk.proofs.Showing.{listed_kept}
use Rattle.hall_desk.proofs.Submitting.{number_free, submitted}
use Rattle.hall_desk.proofs.submit.SubmitHandler.plan.Goals as goal

pub judge_at-requires-clause-listed : goal.judge_at-requires-clause-listed
judge_at-requires-clause-listed g c = λ h s.
    let world = (g.S.ReadStore.content c.args.store.now).world in
    let id = c.args.self.now.round.now in
    listed_kept world id c.in-Some-Some.row (subst (λ (found : Option RoundRow). IsRoundFound world (Some id) found)
    c.in-Some-Some.is-1 (c.requires.told h s).1.1.0)

pub returns-then-branch-clause-fault : goal.returns-then-branch-clause-fault
returns-then-branch-clause-fault g c =
    let asked = c.args.self.now in
    let facts = c.args.facts.now in
    let old = g.S.ReadStore.content c.args.store.now in
    let mid = g.S.ReadStore.content c.judge_at.new.store in
    let new = g.S.ReadStore.content c.is_number_taken.new.self in
    let kept : Kept old new = kept_then old mid new c.in_ok-verdict.ensures.kept c.in_ok-is_number_taken.ensures.kept in
    λ _. inr (record {
      why = inr (λ h.
          let read = c.in_ok-is_number_taken.ensures.served h in
          let told = carried (λ w. AreTrue facts w (submit_action asked)) old new kept c.requires.told h read.0 in (
            read.0,
            λ sane. number_free new.world facts asked c.in-Some-Some.person _ c.in-Some-Some.is-0 told
                c.number_after-n.ensures sane (read.1.0 c.if-branch.true),
          ));
    })

pub returns-clause-told : goal.returns-clause-told
returns-clause-told g c =
    let asked = c.args.self.now in
    let facts = c.args.facts.now in
    let person = c.in-Some-Some.person in
    let row = c.in-Some-Some.row in
    let verdict = c.in_ok-verdict.verdict in
    let judged = c.in_ok-verdict.ensures in
    let read = c.in_ok-is_number_taken.ensures in
    let old = g.S.ReadStore.content c.args.store.now in
    let mid = g.S.ReadStore.content c.judge_at.new.store in
    let new = g.S.ReadStore.content c.is_number_taken.new.self in
    let kept : Kept old new = kept_then old mid new judged.kept read.kept in (
      (λ h s. (read.served h).0),
      (λ h s. submitted new.world facts asked person c.number_after-n.result c.in-Some-Some.is-0
          (carried (λ w. AreTrue facts w (submit_action asked)) old new kept c.requires.told h s)
          c.number_after-n.ensures
          c.args.t verdict row c.in_ok-submitted.field-0 c.in-Some-Some.is-1 c.requires.allowed.token
          (carried (λ w. IsThere w facts.caller) old new kept c.requires.there h s)
          (carried (λ w. IsJudgedAt w row asked.number asked.answer.now verdict) mid new read.kept
          (λ h0 s0. (judged.served h0).1) h s)
          (λ taken. false≢true (sym c.if-branch.false ∙ (read.served h).1.1 taken)) c.in_ok-submitted.ensures.reply
          c.in_ok-submitted.ensures.change),
    )
