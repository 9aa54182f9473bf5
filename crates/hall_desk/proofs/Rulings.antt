-- A ruling acts once.
use Rattle.std.proofs.Common.{◌≡◌, ◌⊎◌, ◌<◌, inl, inr, ℕ, zero, suc, true, false, List, Option, Some, None, Contains}
use Rattle.std.proofs.Common.{refl, sym, ap, ◌∙◌, subst, arith, lit<}
use Rattle.hall_policy.specs.World.{World, protest_of}
use Rattle.hall_policy.specs.Actions.{number_of, rules_asked, last_rule}
use Rattle.hall_policy.specs.Rules.{RoundIsMissing}
use Rattle.hall_policy.specs.First.{NoneBelow, Sentence, Forbids, Repeated}
use Rattle.hall_policy.specs.declared.rule.Rule.{Rule}
use Rattle.hall_policy.specs.declared.rule.Rule.TheVariants as rule
use Rattle.hall_policy.specs.declared.rule.Decision.TheVariants.{Allow, Repeat, Deny}
use Rattle.hall_policy.specs.declared.record.Person.{Person}
use Rattle.hall_policy.specs.declared.record.ProtestRow.{ProtestRow}
use Rattle.hall_policy.specs.declared.record.Ruling.{Ruling}
use Rattle.hall_policy.specs.declared.request.Action.TheVariants as action
use Rattle.hall_store.specs.Caller.{caller_of}
use Rattle.hall_desk.specs.Step.{FirstReply}
use Rattle.hall_desk.specs.Lookups.{IsReleasedRound}
use Rattle.hall_desk.specs.Promises.{IsRulerDenied, IsRulingRetryAnswered, RulingsActOnce}
use Rattle.hall_desk.specs.declared.reply.Reply.{Reply}
use Rattle.hall_desk.specs.declared.reply.Reply.TheVariants as reply

-- the rules that are asked of a ruling
pub ruling_rules : (id entrant token : List ℕ) (ruling : Ruling) (r : Rule)
    → Contains (rules_asked (action.RuleProtest id entrant token ruling)) r →
    (r ≡ rule.UnknownKey) ⊎ ((r ≡ rule.NoRole) ⊎ ((r ≡ rule.Missing)
    ⊎ ((r ≡ rule.Involved) ⊎ (r ≡ rule.RuledOtherwise))))
ruling_rules id entrant token ruling r (zero, within, is) = inl (sym is)
ruling_rules id entrant token ruling r (suc zero, within, is) = inr (inl (sym is))
ruling_rules id entrant token ruling r (suc (suc zero), within, is) = inr (inr (inl (sym is)))
ruling_rules id entrant token ruling r (suc (suc (suc zero)), within, is) = inr (inr (inr (inl (sym is))))
ruling_rules id entrant token ruling r (suc (suc (suc (suc zero))), within, is) = inr (inr (inr (inr (sym is))))
ruling_rules id entrant token ruling r (suc (suc (suc (suc (suc i)))), within, is) = absurd (omega arith)

module _ (world : World) (caller : Option Person) (t : ℕ) (id entrant token : List ℕ) (ruling ruled : Ruling)
    (row : ProtestRow)
    (stands : protest_of world entrant id token ≡ Some row) (so : row.ruling ≡ Some ruled) where
  -- no rule after the one on rulings decides
  pub ruling_decides : (n : ℕ) → NoneBelow n world caller (action.RuleProtest id entrant token ruling) t → ¬ (18 < n)
  ruling_decides n none past =
      (none rule.RuledOtherwise past).0 (
        (4, lit< tt, refl),
        (
          (row, stands, λ unruled. let no : Some ruled ≡ None = sym so ∙ unruled in absurd (cc)),
          λ same.
              (none rule.RuledOtherwise past).1 ((4, lit< tt, refl), same),
        ),
      )

  -- a ruling that is found for the protest is the one that stands
  pub one_ruling : (found : ProtestRow) (other : Ruling) → protest_of world entrant id token ≡ Some found
      → found.ruling ≡ Some other → other ≡ ruled
  one_ruling found other at is =
      let twice : Some found ≡ Some row = sym at ∙ stands in
      let one : found ≡ row = cc in
      let both : Some other ≡ Some ruled = sym is ∙ ap (λ (r : ProtestRow). r.ruling) one ∙ so in
      cc

  -- only the rule on rulings finds that the protest was ruled so before
  pub repeated_ruling : (r : Rule) → Repeated r world caller (action.RuleProtest id entrant token ruling)
      → ruled ≡ ruling
  repeated_ruling rule.TokenTaken (asked, same) = absurd same
  repeated_ruling rule.RuledOtherwise (asked, (found, at, same)) = sym (one_ruling found ruling at same)
  repeated_ruling _ (asked, same) = absurd same

  -- the round isn't there or is a draft, where the rule on what isn't there denies it: the protest stands
  pub not_released : RoundIsMissing world caller (action.RuleProtest id entrant token ruling) id
      → ¬ (IsReleasedRound world id)
  not_released missing (round, kept, released) = let no : true ≡ false = sym released ∙ (missing round kept).0 in cc

  -- what a rule says of the ruling that forbids it
  forbidding : (r x : Rule) → r ≡ x → Forbids r world caller (action.RuleProtest id entrant token ruling) t
      → Sentence x world caller (action.RuleProtest id entrant token ruling) t
  forbidding r x same forbids = (subst (λ (y : Rule). Forbids y world caller
      (action.RuleProtest id entrant token ruling) t) same forbids).1

  -- a rule that denies it is one on the ruler, that on what isn't there, or the one on rulings, for another ruling
  denied : (r : Rule) (given : Reply) → Forbids r world caller (action.RuleProtest id entrant token ruling) t
      → given ≡ reply.Denied (number_of r) →
      ((given ≡ reply.Denied 4) × ¬ (IsReleasedRound world id))
      ⊎ (IsRulerDenied world caller (action.RuleProtest id entrant token ruling) t given
      ⊎ IsRulingRetryAnswered ruled ruling given)
  denied r given forbids told = elim (ruling_rules id entrant token ruling r forbids.0) [
    | inl same ↦ inr (inl (inl (
      told ∙ ap (λ (x : Rule). reply.Denied (number_of x)) same,
      forbidding r rule.UnknownKey
          same forbids,
    )))
    | inr (inl same) ↦ inr (inl (inr (inl (
      told ∙ ap (λ (x : Rule). reply.Denied (number_of x)) same,
      forbidding r
          rule.NoRole same forbids,
    ))))
    | inr (inr (inl same)) ↦ elim (forbidding r rule.Missing same forbids) [
      | inl missing ↦ inl (told ∙ ap (λ (x : Rule). reply.Denied (number_of x)) same, not_released missing)
      | inr gone ↦ absurd (let no : Some row ≡ None = sym stands ∙ gone in cc)
    ]
    | inr (inr (inr (inl same))) ↦ inr (inl (inr (inr (
      told ∙ ap (λ (x : Rule). reply.Denied (number_of x)) same,
      forbidding r rule.Involved same forbids,
    ))))
    | inr (inr (inr (inr same))) ↦ inr (inr (inr (inl (
      told ∙ ap (λ (x : Rule). reply.Denied (number_of x)) same,
      λ alike. (forbidding r rule.RuledOtherwise same forbids).1 (row, stands, so ∙ ap Some alike),
    ))))
  ]

  -- the first reply tells the ruling that stands
  told_again : (given : Reply) → ruled ≡ ruling → FirstReply world caller (action.RuleProtest id entrant token ruling)
      given → IsRulingRetryAnswered ruled ruling given
  told_again given same (found, other, at, is, told) = inr (inr
      (same, told ∙ ap reply.RuleProtest (one_ruling found other at is)))

-- a ruling acts once
pub rulings_act_once : RulingsActOnce
rulings_act_once world t key id entrant token ruling ruled row given new stands so (inl (told, left)) =
    (left, inr (inr (inl told)))
rulings_act_once world t key id entrant token ruling ruled row given new stands so
    (inr (found, (Deny k, (r, own, forbids, none), (told, left)))) = (
      left,
      denied world (caller_of world key) t id entrant token ruling ruled row stands so r given forbids
          (told ∙ ap reply.Denied (sym own)),
    )
rulings_act_once world t key id entrant token ruling ruled row given new stands so
    (inr (found, (Repeat, (r, repeated, none), (first, left)))) = (
      left,
      inr (inr (told_again world (caller_of world key) t id entrant token ruling ruled row stands so given
          (repeated_ruling world (caller_of world key) t id entrant token ruling ruled row stands so r repeated)
          first)),
    )
rulings_act_once world t key id entrant token ruling ruled row given new stands so
    (inr (found, (Allow, none, decided))) =
    absurd (ruling_decides world (caller_of world key) t id entrant token ruling ruled row stands so (suc last_rule)
    none (lit< tt))
