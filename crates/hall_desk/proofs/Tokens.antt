-- A token whose answer was accepted acts once.
use Rattle.std.proofs.Common.{◌≡◌, ◌≢◌, ◌⊎◌, ◌<◌, ◌≤◌, inl, inr, ℕ, List, Option, Some, None, refl, sym, ap, ◌∙◌, subst}
use Rattle.std.proofs.Common.{arith, lit<, lit≤, suc}
use Rattle.std.specs.FinMap.{get}
use Rattle.hall_policy.specs.World.{World}
use Rattle.hall_policy.specs.Actions.{number_of, last_rule}
use Rattle.hall_policy.specs.Rules.{LacksRole, IsMissing, IsOwnPuzzle, SameContent}
use Rattle.hall_policy.specs.First.{NoneBelow, Forbids, Repeated}
use Rattle.hall_policy.specs.declared.rule.Rule.{Rule}
use Rattle.hall_policy.specs.declared.rule.Rule.TheVariants as rule
use Rattle.hall_policy.specs.declared.rule.Decision.TheVariants.{Allow, Repeat, Deny}
use Rattle.hall_policy.specs.declared.record.Person.{Person}
use Rattle.hall_policy.specs.declared.record.AnswerRow.{AnswerRow}
use Rattle.hall_policy.specs.declared.request.Action.TheVariants as action
use Rattle.hall_store.specs.Caller.{caller_of}
use Rattle.hall_desk.specs.Shown.{told_verdict}
use Rattle.hall_desk.specs.Step.{FirstReply}
use Rattle.hall_desk.specs.Promises.{IsToldAgain, IsDeniedEarlier, IsRetryAnswered, TokensActOnce}
use Rattle.hall_desk.specs.declared.reply.Reply.{Reply}
use Rattle.hall_desk.specs.declared.reply.Reply.TheVariants as reply

-- a rule with a number up to 6 comes before the token's, or is the token's
pub up_to_token : (r : Rule) → ¬ (6 < number_of r) → (number_of r ≤ 5) ⊎ (r ≡ rule.TokenTaken)
up_to_token rule.UnknownKey few = inl (lit≤ tt)
up_to_token rule.NoRole few = inl (lit≤ tt)
up_to_token rule.OtherAuthor few = inl (lit≤ tt)
up_to_token rule.Missing few = inl (lit≤ tt)
up_to_token rule.OwnPuzzle few = inl (lit≤ tt)
up_to_token rule.TokenTaken few = inr refl
up_to_token _ few = absurd (few (lit< tt))

module _ (world : World) (caller : Option Person) (t : ℕ) (person : Person) (id : List ℕ) (number : ℕ)
    (token answer : List ℕ) (row : AnswerRow)
    (is : caller ≡ Some person) (stands : get world.answers (record
    { entrant = person.name; round = id; number = number; token = token }) ≡ Some row) where
  -- no rule after the token's decides
  pub token_decides : (n : ℕ) → NoneBelow n world caller (action.Submit id number token answer) t → ¬ (6 < n)
  token_decides n none past =
      (none rule.TokenTaken past).0 (
        (4, lit< tt, refl),
        (
          (person, is, (row, stands)),
          λ same.
              (none rule.TokenTaken past).1 ((4, lit< tt, refl), same),
        ),
      )

  -- a row under the caller's token is the one that stands
  one_row : (other : Person) (found : AnswerRow) → caller ≡ Some other
      → get world.answers (record { entrant = other.name; round = id; number = number; token = token }) ≡ Some found
      → found ≡ row
  one_row other found also at =
      let both : Some other ≡ Some person = sym also ∙ is in
      let one : other ≡ person = cc in
      let here : get world.answers (record { entrant = person.name; round = id; number = number; token = token }) ≡ Some
      found =
      subst (λ (p : Person). get world.answers (record { entrant = p.name; round = id; number = number; token = token })
      ≡ Some found) one at in
      let same : Some found ≡ Some row = sym here ∙ stands in
      cc

  -- the content is the same only where the text is
  pub same_text_stands : SameContent world caller (action.Submit id number token answer) → row.answer ≡ answer
  same_text_stands (other, also, (found, at, same)) = subst (λ (r : AnswerRow). r.answer ≡ answer)
      (one_row other found also at) same

  -- only the token's rule finds that the answer was handed in before
  pub repeated_text : (r : Rule) → Repeated r world caller (action.Submit id number token answer) → row.answer ≡ answer
  repeated_text rule.TokenTaken (asked, same) = same_text_stands same
  repeated_text _ (asked, same) = absurd same

  -- the first reply is the one that the answer that stands got
  pub first_reply : (given : Reply) → row.answer ≡ answer → FirstReply world caller
      (action.Submit id number token answer) given → IsToldAgain world id row answer given
  first_reply given same (other, also, (round, found, kept, at, told)) = record {
    round = round;
    kept = kept;
    same_answer = same;
    told = subst (λ (r : AnswerRow). given ≡ reply.Submit r.n (told_verdict round r.verdict))
        (one_row other found also at) told;
  }

  -- a rule that denies comes before the token's, or is the token's, for another text
  pub denied_by : (r : Rule) (k : ℕ) → number_of r ≡ k → Forbids r world caller (action.Submit id number token answer) t
      → NoneBelow k world caller (action.Submit id number token answer) t →
      (number_of r ≤ 5) ⊎ ((k ≡ 6) × (row.answer ≢ answer))
  denied_by r k own forbids none = elim (up_to_token r (λ past. token_decides k none
      (subst (λ (n : ℕ). 6 < n) own past))) [
        | inl before ↦ inl before
        | inr tokens ↦
            let forbids_token : Forbids rule.TokenTaken world caller (action.Submit id number token answer) t = subst
            (λ (x : Rule). Forbids x world caller (action.Submit id number token answer) t) tokens forbids in
            inr (sym own ∙ ap number_of tokens, λ same. forbids_token.1.1 (person, is, (row, stands, same)))
      ]

  -- a rule before the token's that denies it is that on roles, on what isn't there or on own puzzles: the caller is
  -- known, and no other author is asked of
  pub denied_early : (r : Rule) (given : Reply) → number_of r ≤ 5
      → Forbids r world caller (action.Submit id number token answer) t → given ≡ reply.Denied (number_of r) →
      IsDeniedEarlier world (Some person) (action.Submit id number token answer) t given
  denied_early rule.UnknownKey given few (asked, unknown) told = absurd
      (let no : Some person ≡ None = sym is ∙ unknown in cc)
  denied_early rule.NoRole given few (asked, lacks) told = inl
      (told, subst (λ (c : Option Person). LacksRole c (action.Submit id number token answer)) is lacks)
  denied_early rule.OtherAuthor given few (asked, (other, also, (director, key, named, differ))) told = absurd
      (let no : None ≡ Some key = named in cc)
  denied_early rule.Missing given few (asked, missing) told = inr
      (inl (told, subst (λ (c : Option Person). IsMissing world c (action.Submit id number token answer)) is missing))
  denied_early rule.OwnPuzzle given few (asked, owns) told = inr
      (inr (told, subst (λ (c : Option Person). IsOwnPuzzle world c (action.Submit id number token answer)) is owns))
  denied_early _ given few forbids told = absurd (omega arith)

  -- so a denial is by such a rule, or for another text
  denied : (r : Rule) (k : ℕ) (given : Reply) → number_of r ≡ k
      → Forbids r world caller (action.Submit id number token answer) t
      → NoneBelow k world caller (action.Submit id number token answer) t →
      given ≡ reply.Denied k → IsDeniedEarlier world (Some person) (action.Submit id number token answer) t given
      ⊎ IsRetryAnswered world id row answer given
  denied r k given own forbids none told = elim (denied_by r k own forbids none) [
    | inl before ↦ inl (denied_early r given before forbids (told ∙ ap reply.Denied (sym own)))
    | inr (six, other) ↦ inr (inr (inl (told ∙ ap reply.Denied six, other)))
  ]

-- a token whose answer was accepted acts once
pub tokens_act_once : TokensActOnce
tokens_act_once world t key person id number token answer row given new is stands (inl (told, left)) =
    (left, inr (inl told))
tokens_act_once world t key person id number token answer row given new is stands
    (inr (found, (Deny k, (r, own, forbids, none), (told, left)))) = (
      left,
      denied world (caller_of world key) t person id number token answer row is stands r k given own forbids none
          told,
    )
tokens_act_once world t key person id number token answer row given new is stands
    (inr (found, (Repeat, (r, repeated, none), (first, left)))) = (
      left,
      inr (inr (inr (first_reply world (caller_of world key) t person id number token answer row is stands given
          (repeated_text world (caller_of world key) t person id number token answer row is stands r repeated) first))),
    )
tokens_act_once world t key person id number token answer row given new is stands
    (inr (found, (Allow, none, decided))) =
    absurd (token_decides world (caller_of world key) t person id number token answer row is stands (suc last_rule) none
    (lit< tt))
