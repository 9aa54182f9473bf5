-- In a sane world no rule before the token's denies the retry of an answer that stands, and of a protest none but that
-- on its number.
use Rattle.std.proofs.Common.{◌≡◌, inl, inr, ℕ, true, false, List, Option, Some, None, sym, ap, ◌∙◌, subst}
use Rattle.std.specs.FinMap.{get}
use Rattle.hall_policy.specs.World.{World, IsTesterOf, place_of}
use Rattle.hall_policy.specs.Rules.{ListsEntry, HasHandIn, RoundIsMissing}
use Rattle.hall_policy.specs.declared.record.Person.{Person}
use Rattle.hall_policy.specs.declared.request.Action.{Action}
use Rattle.hall_policy.specs.declared.request.Action.TheVariants as action
use Rattle.hall_desk.specs.Lookups.{IsReleasedRound}
use Rattle.hall_desk.specs.Sane.{MayTakePart}
use Rattle.hall_desk.specs.Promises.{IsDeniedEarlier, SaneTokensActOnce, SaneProtestTokensActOnce}
use Rattle.hall_desk.specs.declared.reply.Reply.TheVariants as reply
use Rattle.hall_desk.proofs.StepsSane.{caller_there}
use Rattle.hall_desk.proofs.Tokens.{tokens_act_once}
use Rattle.hall_desk.proofs.ProtestTokens.{protest_tokens_act_once}

module _ (world : World) (person : Person) (id : List ℕ) (there : get world.people person.name ≡ Some person)
    (part : MayTakePart world person.name id) where
  -- who may take part has the role
  entrant : person.roles.entrant ≡ true
  entrant =
      let both : Some part.0 ≡ Some person = sym part.1 ∙ there in
      let one : part.0 ≡ person = cc in
      subst (λ (p : Person). p.roles.entrant ≡ true) one part.2

  -- and so no rule on roles denies it
  has_role : (other : Person) → Some person ≡ Some other → other.roles.entrant ≡ false → ⊥
  has_role other also lacks =
      let one : person ≡ other = cc in
      let no : true ≡ false = sym entrant ∙ subst (λ (p : Person). p.roles.entrant ≡ false) (sym one) lacks in
      cc

  -- nor that on own puzzles
  has_no_hand : (other : Person) → Some person ≡ Some other → HasHandIn world (Some id) other.name → ⊥
  has_no_hand other also (inl (named, round, entry, asked, kept, lists, own)) =
      let one : person ≡ other = cc in
      let here : id ≡ named = cc in
      part.3 entry (subst (λ (x : List ℕ). ListsEntry world x entry) (sym here) lists)
      (own ∙ ap (λ (p : Person). p.name) (sym one))
  has_no_hand other also (inr (named, round, asked, kept, tests)) =
      let one : person ≡ other = cc in
      let here : id ≡ named = cc in
      part.4 (subst (λ (p : Person). IsTesterOf world id p.name) (sym one)
      (subst (λ (x : List ℕ). IsTesterOf world x other.name) (sym here) tests))

-- a released round isn't missing for an action that finds no drafts
not_missing : (world : World) (caller : Option Person) (asked : Action) (id : List ℕ) → IsReleasedRound world id
    → RoundIsMissing world caller asked id → ⊥
not_missing world caller asked id (round, kept, released) missing = let no : true ≡ false = sym released
    ∙ (missing round kept).0 in cc

-- a token of an answer acts once
pub sane_tokens_act_once : SaneTokensActOnce
sane_tokens_act_once world t key person id number token answer row given new sane is stands step =
    let retry = tokens_act_once world t key person id number token answer row given new is stands step in (
      retry.0,
      elim retry.1 [
        | inl early ↦ absurd (undenied early)
        | inr answered ↦ answered
      ],
    ) where
      there : get world.people person.name ≡ Some person
      there = caller_there world sane key person is

      part : MayTakePart world person.name id
      part = sane.answerers (record { entrant = person.name; round = id; number = number; token = token }) row stands

      undenied : IsDeniedEarlier world (Some person) (action.Submit id number token answer) t given → ⊥
      undenied (inl (told, (other, also, lacks))) = has_role world person id there part other also lacks
      undenied (inr (inl (told, inl missing))) =
          not_missing world (Some person) (action.Submit id number token answer) id
          (sane.answers_released (record { entrant = person.name; round = id; number = number; token = token }) row
          stands) missing
      undenied (inr (inl (told, inr gone))) =
          let place = sane.refers.answered (record {
            entrant = person.name;
            round = id;
            number = number;
            token =
                token;
          }) row stands in
          let no : Some place.0 ≡ None = sym place.1 ∙ gone in
          cc
      undenied (inr (inr (told, (free, (other, also, (role, hand)))))) = has_no_hand world person id there part other
          also hand

-- a token of a protest acts once
pub sane_protest_tokens_act_once : SaneProtestTokensActOnce
sane_protest_tokens_act_once world t key person id token number text row given new sane is stands step =
    let retry = protest_tokens_act_once world t key person id token number text row given new is stands step in (
      retry.0,
      elim retry.1 [
        | inl early ↦ inl (denied early)
        | inr answered ↦ inr answered
      ],
    ) where
      there : get world.people person.name ≡ Some person
      there = caller_there world sane key person is

      part : MayTakePart world person.name id
      part = sane.protesters (record { entrant = person.name; round = id; token = token }) row stands

      denied : IsDeniedEarlier world (Some person) (action.Protest id token number text) t given
          → (given ≡ reply.Denied 4) × (place_of world id number ≡ None)
      denied (inl (told, (other, also, lacks))) = absurd (has_role world person id there part other also lacks)
      denied (inr (inl (told, inl missing))) =
          absurd (not_missing world (Some person) (action.Protest id token number text) id
          (sane.protests_released (record { entrant = person.name; round = id; token = token }) row stands) missing)
      denied (inr (inl (told, inr gone))) = (told, gone)
      denied (inr (inr (told, (free, (other, also, (role, hand)))))) = absurd
          (has_no_hand world person id there part other also hand)
