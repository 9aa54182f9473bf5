-- A token whose protest was stored acts once.
use Rattle.std.proofs.Common.{◌≡◌, ◌⊎◌, ◌<◌, ◌≤◌, inl, inr, ℕ, List, Option, Some, None, refl, sym, ap, ◌∙◌, subst}
use Rattle.std.proofs.Common.{arith, lit<, suc}
use Rattle.hall_policy.specs.World.{World, protest_of}
use Rattle.hall_policy.specs.Actions.{number_of, last_rule}
use Rattle.hall_policy.specs.Rules.{LacksRole, IsMissing, IsOwnPuzzle, SameContent}
use Rattle.hall_policy.specs.First.{NoneBelow, Forbids, Repeated}
use Rattle.hall_policy.specs.declared.rule.Rule.{Rule}
use Rattle.hall_policy.specs.declared.rule.Rule.TheVariants as rule
use Rattle.hall_policy.specs.declared.rule.Decision.TheVariants.{Allow, Repeat, Deny}
use Rattle.hall_policy.specs.declared.record.Person.{Person}
use Rattle.hall_policy.specs.declared.record.ProtestRow.{ProtestRow}
use Rattle.hall_policy.specs.declared.request.Action.TheVariants as action
use Rattle.hall_store.specs.Caller.{caller_of}
use Rattle.hall_desk.specs.Step.{FirstReply}
use Rattle.hall_desk.specs.Promises.{IsSameProtest, IsDeniedEarlier, IsProtestRetryAnswered, ProtestTokensActOnce}
use Rattle.hall_desk.specs.declared.reply.Reply.{Reply}
use Rattle.hall_desk.specs.declared.reply.Reply.TheVariants as reply
use Rattle.hall_desk.proofs.Tokens.{up_to_token}

module _ (world : World) (caller : Option Person) (t : ℕ) (person : Person) (id token : List ℕ) (number : ℕ)
    (text : List ℕ) (row : ProtestRow)
    (is : caller ≡ Some person) (stands : protest_of world person.name id token ≡ Some row) where
  -- no rule after the token's decides
  pub token_decides : (n : ℕ) → NoneBelow n world caller (action.Protest id token number text) t → ¬ (6 < n)
  token_decides n none past =
      (none rule.TokenTaken past).0 (
        (4, lit< tt, refl),
        (
          (person, is, (row, stands)),
          λ same.
              (none rule.TokenTaken past).1 ((4, lit< tt, refl), same),
        ),
      )

  -- the content is the same only where number and text are
  pub same_protest_stands : SameContent world caller (action.Protest id token number text)
      → IsSameProtest row number text
  same_protest_stands (other, also, (found, at, same_number, same_text)) =
      let both : Some other ≡ Some person = sym also ∙ is in
      let one : other ≡ person = cc in
      let here : protest_of world person.name id token ≡ Some found = subst
      (λ (p : Person). protest_of world p.name id token ≡ Some found) one at in
      let twice : Some found ≡ Some row = sym here ∙ stands in
      let same : found ≡ row = cc in
      subst (λ (r : ProtestRow). IsSameProtest r number text) same (same_number, same_text)

  -- only the token's rule finds that the protest was made before
  pub repeated_protest : (r : Rule) → Repeated r world caller (action.Protest id token number text)
      → IsSameProtest row number text
  repeated_protest rule.TokenTaken (asked, same) = same_protest_stands same
  repeated_protest rule.RuledOtherwise (asked, same) = absurd same
  repeated_protest _ (asked, same) = absurd same

  -- a rule that denies comes before the token's, or is the token's, for another protest
  pub denied_by : (r : Rule) (k : ℕ) → number_of r ≡ k → Forbids r world caller (action.Protest id token number text) t
      →
      NoneBelow k world caller (action.Protest id token number text) t → (number_of r ≤ 5)
      ⊎ ((k ≡ 6) × ¬ (IsSameProtest row number text))
  denied_by r k own forbids none = elim (up_to_token r (λ past. token_decides k none
      (subst (λ (n : ℕ). 6 < n) own past))) [
        | inl before ↦ inl before
        | inr tokens ↦
            let forbids_token : Forbids rule.TokenTaken world caller (action.Protest id token number text) t = subst
            (λ (x : Rule). Forbids x world caller (action.Protest id token number text) t) tokens forbids in
            inr (sym own ∙ ap number_of tokens, λ same. forbids_token.1.1 (person, is, (row, stands, same.0, same.1)))
      ]

  -- a rule before the token's that denies it is that on roles, on what isn't there or on own puzzles: the caller is
  -- known, and no other author is asked of
  denied_early : (r : Rule) (given : Reply) → number_of r ≤ 5
      → Forbids r world caller (action.Protest id token number text) t → given ≡ reply.Denied (number_of r) →
      IsDeniedEarlier world (Some person) (action.Protest id token number text) t given
  denied_early rule.UnknownKey given few (asked, unknown) told = absurd
      (let no : Some person ≡ None = sym is ∙ unknown in cc)
  denied_early rule.NoRole given few (asked, lacks) told = inl
      (told, subst (λ (c : Option Person). LacksRole c (action.Protest id token number text)) is lacks)
  denied_early rule.OtherAuthor given few (asked, (other, also, (director, key, named, differ))) told = absurd
      (let no : None ≡ Some key = named in cc)
  denied_early rule.Missing given few (asked, missing) told = inr
      (inl (told, subst (λ (c : Option Person). IsMissing world c (action.Protest id token number text)) is missing))
  denied_early rule.OwnPuzzle given few (asked, owns) told = inr
      (inr (told, subst (λ (c : Option Person). IsOwnPuzzle world c (action.Protest id token number text)) is owns))
  denied_early _ given few forbids told = absurd (omega arith)

  -- so a denial is by such a rule, or for another protest
  denied : (r : Rule) (k : ℕ) (given : Reply) → number_of r ≡ k
      → Forbids r world caller (action.Protest id token number text) t →
      NoneBelow k world caller (action.Protest id token number text) t → given ≡ reply.Denied k →
      IsDeniedEarlier world (Some person) (action.Protest id token number text) t given
      ⊎ IsProtestRetryAnswered row token number text given
  denied r k given own forbids none told = elim (denied_by r k own forbids none) [
    | inl before ↦ inl (denied_early r given before forbids (told ∙ ap reply.Denied (sym own)))
    | inr (six, other) ↦ inr (inr (inl (told ∙ ap reply.Denied six, other)))
  ]

  -- the first reply tells the token again
  told_again : (given : Reply) → IsSameProtest row number text
      → FirstReply world caller (action.Protest id token number text) given
      → IsProtestRetryAnswered row token number text given
  told_again given same (other, also, (found, at, told)) = inr (inr (same, told))

-- a token whose protest was stored acts once
pub protest_tokens_act_once : ProtestTokensActOnce
protest_tokens_act_once world t key person id token number text row given new is stands (inl (told, left)) =
    (left, inr (inl told))
protest_tokens_act_once world t key person id token number text row given new is stands
    (inr (found, (Deny k, (r, own, forbids, none), (told, left)))) = (
      left,
      denied world (caller_of world key) t person id token number text row is stands r k given own forbids none
          told,
    )
protest_tokens_act_once world t key person id token number text row given new is stands
    (inr (found, (Repeat, (r, repeated, none), (first, left)))) = (
      left,
      inr (told_again world (caller_of world key) t person id token number text row is stands given
          (repeated_protest world (caller_of world key) t person id token number text row is stands r repeated) first),
    )
protest_tokens_act_once world t key person id token number text row given new is stands
    (inr (found, (Allow, none, decided))) =
    absurd (token_decides world (caller_of world key) t person id token number text row is stands (suc last_rule) none
    (lit< tt))
