-- A told ruling has its answer in every later world, for a referee who is not involved there.
use Rattle.std.proofs.Common.{◌≡◌, ◌≢◌, ◌<◌, inl, inr, ℕ, true, false, List, Option, Some, None, IsTrue, refl, sym, ap}
use Rattle.std.proofs.Common.{◌∙◌, subst, arith, lit<}
use Rattle.hall_policy.specs.World.{World, protest_of}
use Rattle.hall_policy.specs.Actions.{number_of}
use Rattle.hall_policy.specs.Rules.{IsInvolved}
use Rattle.hall_policy.specs.First.{First, NoneBelow, Sentence, Forbids}
use Rattle.hall_policy.specs.declared.rule.Rule.{Rule}
use Rattle.hall_policy.specs.declared.rule.Rule.TheVariants as rule
use Rattle.hall_policy.specs.declared.rule.Decision.TheVariants.{Repeat, Deny}
use Rattle.hall_policy.specs.declared.record.Person.{Person}
use Rattle.hall_policy.specs.declared.record.ProtestRow.{ProtestRow}
use Rattle.hall_policy.specs.declared.record.PuzzleState.TheVariants as state
use Rattle.hall_policy.specs.declared.record.Ruling.{Ruling}
use Rattle.hall_policy.specs.declared.request.Action.TheVariants as action
use Rattle.hall_store.specs.Caller.{caller_of}
use Rattle.hall_desk.specs.Lookups.{IsReleasedRound}
use Rattle.hall_desk.specs.Step.{Step}
use Rattle.hall_desk.specs.ProtestPromises.{RulingRetriesAreAnswered}
use Rattle.hall_desk.specs.declared.reply.Reply.TheVariants as reply
use Rattle.hall_desk.proofs.Rulings.{ruling_rules, not_released, one_ruling}
use Rattle.hall_desk.proofs.RulingsStay.{repeats_at_eighteen, ruled_later}

module _ (world : World) (by : Option (List ℕ)) (u : ℕ) (id entrant token : List ℕ) (again ruled : Ruling)
    (row : ProtestRow) (referee : Person)
    (stands : protest_of world entrant id token ≡ Some row) (so : row.ruling ≡ Some ruled)
    (released : IsReleasedRound world id)
    (is : caller_of world by ≡ Some referee) (may_rule : IsTrue referee.roles.referee)
    (apart : ¬ (IsInvolved world (Some referee) (action.RuleProtest id entrant token again))) where
  -- no rule before that on rulings forbids the ruling
  none_forbids : (r : Rule) → number_of r < 18 → Forbids r world (caller_of world by)
      (action.RuleProtest id entrant token again) u → ⊥
  none_forbids r few forbids = elim (ruling_rules id entrant token again r forbids.0) [
    | inl same ↦
        let unknown : caller_of world by ≡ None = says rule.UnknownKey same in
        let no : Some referee ≡ None = sym is ∙ unknown in
        cc
    | inr (inl same) ↦
        let lacks = says rule.NoRole same in
        let both : Some lacks.0 ≡ Some referee = sym lacks.1 ∙ is in
        let one : lacks.0 ≡ referee = cc in
        let no : true ≡ false = sym may_rule ∙ subst (λ (p : Person). p.roles.referee ≡ false) one lacks.2 in
        cc
    | inr (inr (inl same)) ↦ elim (says rule.Missing same) [
      | inl missing ↦ not_released world (caller_of world by) u id entrant token again ruled row stands so missing
          released
      | inr gone ↦ let no : Some row ≡ None = sym stands ∙ gone in cc
    ]
    | inr (inr (inr (inl same))) ↦ apart (subst (λ (c : Option Person). IsInvolved world c
        (action.RuleProtest id entrant token again)) is (says rule.Involved same))
    | inr (inr (inr (inr same))) ↦ let late : number_of r ≡ 18 = ap number_of same in omega (arith, few, late)
  ] where
    says : (x : Rule) → r ≡ x → Sentence x world (caller_of world by) (action.RuleProtest id entrant token again) u
    says x same = (subst (λ (y : Rule). Forbids y world (caller_of world by) (action.RuleProtest id entrant token again)
        u) same forbids).1

  -- nor does any repeat it
  none_before : NoneBelow 18 world (caller_of world by) (action.RuleProtest id entrant token again) u
  none_before r few = (
    none_forbids r few,
    λ repeated. let late = repeats_at_eighteen world (caller_of world by) id entrant token again r repeated in omega
        (arith, few, late),
  )

  -- the same ruling is a repetition
  repeats : again ≡ ruled → First world (caller_of world by) (action.RuleProtest id entrant token again) u Repeat
  repeats same = (rule.RuledOtherwise, ((4, lit< tt, refl), (row, stands, so ∙ ap Some (sym same))), none_before)

  -- another one is denied by the rule on rulings
  denies : again ≢ ruled → First world (caller_of world by) (action.RuleProtest id entrant token again) u (Deny 18)
  denies other = (
    rule.RuledOtherwise,
    refl,
    (
      (4, lit< tt, refl),
      (
        (row, stands, λ unruled. let no : Some ruled ≡ None = sym so ∙ unruled in absurd (cc)),
        λ alike. other (one_ruling world (caller_of world by) u id entrant token again ruled row stands so alike.0 again
            alike.1 alike.2),
      ),
    ),
    none_before,
  )

  -- so there is a step that answers it
  answers_again : (again ≡ ruled → Step world u (record {
    key = by;
    action = action.RuleProtest id entrant token
        again;
  }) (reply.RuleProtest ruled) world)
      × (again ≢ ruled → Step world u (record { key = by; action = action.RuleProtest id entrant token again })
      (reply.Denied 18) world)
  answers_again = (
    λ same. inr (state.New, (Repeat, repeats same, ((row, ruled, stands, so, refl), refl))),
    λ other. inr (state.New, (Deny 18, denies other, (refl, refl))),
  )

-- a told ruling has its answer
pub ruling_retries_are_answered : RulingRetriesAreAnswered
ruling_retries_are_answered world kept later t u key by id entrant token ruling told again referee events first life is
    may_rule apart =
    let h = ruled_later world kept later t key id entrant token ruling told events first life in
    answers_again later by u id entrant token again ruling h.row referee h.stands h.has h.released is may_rule apart
