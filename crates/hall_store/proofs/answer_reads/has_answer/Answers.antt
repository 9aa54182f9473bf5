use Rattle.std.proofs.Common.{◌≡◌, ◌↔◌, ◌∷◌, [], List, Bool, true, false, Some, None, IsTrue, Contains, ap, sym, refl}
use Rattle.std.proofs.Common.{◌∙◌, subst}
use Rattle.std.specs.List.{take_while}
use Rattle.std.specs.Map.{values_of}
use Rattle.hall_policy.specs.declared.record.AnswerRow.{AnswerRow}
use Rattle.hall_store.specs.Keyed.{HasAny, agree}
use Rattle.hall_store.specs.declared.slot.AnswerSlot.{AnswerSlot}
use Rattle.hall_store.specs.declared.slot.Part.TheVariants.{Entrant}
use Rattle.hall_store.proofs.Firsts.{answers_ahead}
use Rattle.hall_store.proofs.Ranges.{taken, left}
use Rattle.hall_store.proofs.Tests.{contained, placed}
use Rattle.hall_store.proofs.answer_reads.has_answer.Goals as goal

empty_has_none : {X : Type 0} → HasAny {X = X} [] → ⊥
empty_has_none {X} h = let at = placed [] h.0 h.1 in let found : None ≡ Some h.0 = at.1 in absurd (cc)

-- what is taken while a test passes has any exactly where the first passes
any_taken : {E X : Type 0} (p : E × X → Bool) (e : E × X) (rest : List (E × X)) (passes : Bool) → passes ≡ p e
    → IsTrue passes ↔ HasAny (values_of (take_while p (e ∷ rest)))
any_taken {E} {X} p e rest true is = (
  (λ _. (
    e.1,
    subst (λ (es : List (E × X)). Contains (values_of es) e.1) (sym (taken p e rest (sym is)))
        (contained (e.1 ∷ values_of (take_while p rest)) e.1 0 refl),
  )),
  (λ _. refl),
)
any_taken {E} {X} p e rest false is = (
  (λ wrong. absurd (let told : false ≡ true = wrong in cc)),
  (λ h. absurd (empty_has_none (subst (λ (es : List (E × X)). HasAny (values_of es)) (left p e rest (sym is)) h))),
)

pub returns-in-Some-clause-has : goal.returns-in-Some-clause-has
returns-in-Some-clause-has c =
    let test : AnswerSlot × AnswerRow → Bool = λ e. agree Entrant e.0 c.args.first.now in
    let entry : AnswerSlot × AnswerRow = (c.in-Some.slot.now, c.in-Some.field-0-1.now) in
    let all =
    answers_ahead c.args.first.now Entrant c.requires.first c.args.answers.now.entries c.range.ensures.ordered
    c.requires.kept c.range.result (c.range.ensures.between tt)
    ∙ ap (λ (es : List (AnswerSlot × AnswerRow)). values_of (take_while test es)) c.in-Some.ensures.steps in
    let any = any_taken test entry c.next.new.self c.agree.result c.agree.ensures in (
      (λ yes. subst (λ (rows : List AnswerRow). HasAny rows) (sym all) (any.0 yes)),
      (λ h. any.1 (subst (λ (rows : List AnswerRow). HasAny rows) all h)),
    )

pub returns-in-None-clause-has : goal.returns-in-None-clause-has
returns-in-None-clause-has c =
    let test : AnswerSlot × AnswerRow → Bool = λ e. agree Entrant e.0 c.args.first.now in
    let all =
    answers_ahead c.args.first.now Entrant c.requires.first c.args.answers.now.entries c.range.ensures.ordered
    c.requires.kept c.range.result (c.range.ensures.between tt)
    ∙ ap (λ (es : List (AnswerSlot × AnswerRow)). values_of (take_while test es)) c.in-None.ensures.steps.0 in (
      (λ wrong. absurd (let told : false ≡ true = wrong in cc)),
      (λ h. absurd (empty_has_none (subst (λ (rows : List AnswerRow). HasAny rows) all h))),
    )
