use Rattle.std.proofs.Common.{IfOk, ℕ, List, ◌≡◌, ◌⊎◌, ◌∙◌, ◌++◌, ap, inl, inr, refl, subst, sym}
use Rattle.std.specs.Prelude.{Result, Ok, Err, OnErr}
use Rattle.std.specs.String.{string_bytes}
use Rattle.hall_store.specs.Store.{Content, MakesInWorld}
use Rattle.hall_store.specs.declared.change.Change.{Change}
use Rattle.hall_store.specs.declared.change.Change.TheVariants.{Nothing}
use Rattle.hall_store.specs.declared.fault.StoreFault.{StoreFault}
use Rattle.hall_desk.specs.Desk.{kept_by}
use Rattle.hall_desk.specs.Plan.{planned_reply, planned_change}
use Rattle.hall_desk.specs.Step.{Step}
use Rattle.hall_desk.specs.declared.reply.Reply.{Reply}
use Rattle.hall_desk.proofs.Stepping.{committed, same_stops, planned_steps, planned_quiet, once_after, refused_step}
use Rattle.hall_http.specs.Reply.{BytesOf, IsCounted, text_behind}
use Rattle.hall_http.specs.Answered.{IsStepReply, answer_text}
use Rattle.hall_store.proofs.Knowing.{fails_as, kept_leads, leads_then, over_turn}
use Rattle.hall_http.proofs.Stops.{if_err, leaves_turn, planned_leaves}
use Rattle.hall_http.proofs.answer.step_answer.Goals as goal

pub reply_answer-requires : goal.reply_answer-requires
reply_answer-requires g c =
    subst (λ (reply : Reply). IsCounted reply (string_bytes c.in_ok-front.front))
    (c.reply.ensures ∙ sym c.in_ok-reply.ensures.reply) c.in_ok-front.ensures.counted

-- the bytes of a reply, of its front and the text that it brings along
written_of : (told given planned : Reply) (front bytes : List ℕ) → told ≡ planned → given ≡ planned
    → BytesOf told (front ++ text_behind told) → bytes ≡ front ++ text_behind given → BytesOf planned bytes
written_of told given planned front bytes told_is given_is written is =
    subst (λ (b : List ℕ). BytesOf planned b) (sym (is ∙ ap (λ (r : Reply). front ++ text_behind r) given_is))
    (subst (λ (r : Reply). BytesOf r (front ++ text_behind r)) told_is written)

pub returns-clause-ok : goal.returns-clause-ok
returns-clause-ok g c =
    let t = c.args.moment in
    let request = c.args.request.now in
    let plan = c.in_ok-plan.plan in
    let given = planned_reply plan in
    let text = answer_text c.reply_answer.result in
    let planned = c.in_ok-plan.ensures in
    let made = c.in_ok-reply.ensures in
    let old = g.S.ReadStore.content (kept_by c.args.desk.now) in
    let mid = g.S.ReadStore.content (kept_by c.plan.new.self) in
    let new = g.S.ReadStore.content (kept_by c.commit.new.self) in
    let written = written_of _ _ given _ text c.reply.ensures made.reply c.in_ok-front.ensures.written
    c.reply_answer.ensures.text in (
      c.reply_answer.ensures.opened,
      λ h. over_turn (λ before after. Step before t request given after)
          (λ before after. IsStepReply before t request text after) old new
          (λ before after step. (given, step, written))
          (planned_steps t request StoreFault old mid new plan given planned.kept planned.planned made.leads refl
          (committed StoreFault g.S.ReadStore.content (kept_by c.plan.new.self) (kept_by c.commit.new.self)
          (planned_change plan) c.in_ok-reply.reply (λ none. (made.nothing none).1) made.made) h),
    )

pub returns-clause-leads : goal.returns-clause-leads
returns-clause-leads g c =
    let old = g.S.ReadStore.content (kept_by c.args.desk.now) in
    let mid = g.S.ReadStore.content (kept_by c.plan.new.self) in
    leads_then old mid (g.S.ReadStore.content (kept_by c.commit.new.self))
    (kept_leads old mid c.in_ok-plan.ensures.kept) c.in_ok-reply.ensures.leads

pub returns-clause-once : goal.returns-clause-once
returns-clause-once g c =
    once_after (g.S.ReadStore.content (kept_by c.args.desk.now)) (g.S.ReadStore.content (kept_by c.plan.new.self))
    (g.S.ReadStore.content (kept_by c.commit.new.self)) c.in_ok-plan.ensures.kept c.in_ok-reply.ensures.once

pub returns-clause-quiet : goal.returns-clause-quiet
returns-clause-quiet g c =
    let planned = c.in_ok-plan.ensures in
    let made = c.in_ok-reply.ensures in
    planned_quiet g.S.ReadStore.content (g.S.ReadStore.content (kept_by c.args.desk.now)) (kept_by c.plan.new.self)
    (kept_by c.commit.new.self) c.in_ok-plan.plan planned.kept (λ none. (made.nothing none).1) StoreFault c.args.moment
    c.args.request.now planned.planned made.leads

pub returns-in_err-reply-clause-quiet : goal.returns-in_err-reply-clause-quiet
returns-in_err-reply-clause-quiet g c =
    let planned = c.in_ok-plan.ensures in
    let made = c.in_err-reply.ensures in
    planned_quiet g.S.ReadStore.content (g.S.ReadStore.content (kept_by c.args.desk.now)) (kept_by c.plan.new.self)
    (kept_by c.commit.new.self) c.in_ok-plan.plan planned.kept (λ none. (made.nothing none).1) StoreFault c.args.moment
    c.args.request.now planned.planned made.leads

on_err : {T E P : Type 0} (r : Result T E) → P → OnErr r P
on_err (Ok x) holds = tt
on_err (Err e) holds = holds

-- a change that was refused left the world
refused : (R E : Type 0) (change : Change) (old new : Content) (fault : E) → (change ≡ Nothing → ⊥)
    → (change ≡ Nothing) ⊎ MakesInWorld {R = R} change old new (Err fault) → new.honest → new.serves
    → new.world ≡ old.world
refused R E change old new fault never (inl none) = absurd (never none)
refused R E change old new fault never (inr made) = made

pub returns-in_err-reply-clause-err : goal.returns-in_err-reply-clause-err
returns-in_err-reply-clause-err g c =
    let mid = g.S.ReadStore.content (kept_by c.plan.new.self) in
    let new = g.S.ReadStore.content (kept_by c.commit.new.self) in
    let kept = c.in_ok-plan.ensures.kept in
    let made = c.in_err-reply.ensures in
    on_err c.from_residual-in_err-reply.result (λ h s.
    refused Reply StoreFault (planned_change c.in_ok-plan.plan) mid new c.in_err-reply.field-0.0
    (λ none. let ok = (made.nothing none).0 in cc)
    made.made h s ∙ kept.world (made.leads.honest h) (made.leads.serves h s))

pub returns-clause-stops : goal.returns-clause-stops
returns-clause-stops g c =
    let plan = c.in_ok-plan.plan in
    let text = answer_text c.reply_answer.result in
    let planned = c.in_ok-plan.ensures in
    let made = c.in_ok-reply.ensures in
    let old = g.S.ReadStore.content (kept_by c.args.desk.now) in
    let mid = g.S.ReadStore.content (kept_by c.plan.new.self) in
    let new = g.S.ReadStore.content (kept_by c.commit.new.self) in
    let written = written_of _ _ (planned_reply plan) _ text c.reply.ensures made.reply c.in_ok-front.ensures.written
    c.reply_answer.ensures.text in
    leaves_turn (λ before left. Step before c.args.moment c.args.request.now (planned_reply plan) left)
    (λ before left. (made : List ℕ) × (made ≡ answer_text c.reply_answer.result)
    × IsStepReply before c.args.moment c.args.request.now made left) old new
    (λ before left step. (text, refl, (planned_reply plan, step, written)))
    (planned_leaves StoreFault c.args.moment c.args.request.now old mid new plan planned.kept planned.planned made.leads
    (λ none. same_stops g.S.ReadStore.content (kept_by c.plan.new.self) (kept_by c.commit.new.self)
    (made.nothing none).1) made.stops)

pub returns-in_err-reply-clause-stops : goal.returns-in_err-reply-clause-stops
returns-in_err-reply-clause-stops g c =
    let plan = c.in_ok-plan.plan in
    let text = string_bytes c.in_ok-front.front ++ text_behind (planned_reply plan) in
    let planned = c.in_ok-plan.ensures in
    let made = c.in_err-reply.ensures in
    let old = g.S.ReadStore.content (kept_by c.args.desk.now) in
    let mid = g.S.ReadStore.content (kept_by c.plan.new.self) in
    let new = g.S.ReadStore.content (kept_by c.commit.new.self) in
    let written = written_of _ _ (planned_reply plan) _ text c.reply.ensures refl c.in_ok-front.ensures.written refl in
    leaves_turn (λ before left. Step before c.args.moment c.args.request.now (planned_reply plan) left)
    (λ before left. (made : List ℕ) × IfOk c.from_residual-in_err-reply.result (λ answer. made ≡ answer_text answer)
    × IsStepReply before c.args.moment c.args.request.now made left) old new
    (λ before left step. (
      text,
      (if_err c.from_residual-in_err-reply.result _ _
          c.from_residual-in_err-reply.ensures.1),
      (planned_reply plan, step, written),
    ))
    (planned_leaves StoreFault c.args.moment c.args.request.now old mid new plan planned.kept planned.planned made.leads
    (λ none. same_stops g.S.ReadStore.content (kept_by c.plan.new.self) (kept_by c.commit.new.self)
    (made.nothing none).1) made.stops)

pub returns-in_err-plan-clause-fault : goal.returns-in_err-plan-clause-fault
returns-in_err-plan-clause-fault g c =
    fails_as c.from_residual.result _ _ c.from_residual.ensures.1
    (λ failed. inl (c.in_err-plan.ensures.fault failed))

pub returns-in_err-reply-clause-fault : goal.returns-in_err-reply-clause-fault
returns-in_err-reply-clause-fault g c =
    let planned = c.in_ok-plan.ensures in
    let made = c.in_err-reply.ensures in
    fails_as c.from_residual-in_err-reply.result _ _ c.from_residual-in_err-reply.ensures.1
    (λ failed.
    refused_step StoreFault (g.S.ReadStore.content (kept_by c.args.desk.now))
    (g.S.ReadStore.content (kept_by c.plan.new.self)) (g.S.ReadStore.content (kept_by c.commit.new.self))
    c.args.moment c.args.request.now c.in_ok-plan.plan planned.kept made.leads planned.planned
    (λ none. let ok = (made.nothing none).0 in cc) (made.fault failed))
