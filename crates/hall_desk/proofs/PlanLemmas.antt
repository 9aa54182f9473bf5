-- From facts and a decision to a plan.
use Rattle.std.proofs.Common.{◌≡◌, ◌≢◌, ◌⊎◌, ◌&&◌, ℕ, Bool, true, false, List, [], ◌∷◌, Option, Some, None}
use Rattle.std.proofs.Common.{IsTrue, Result, Ok, Err, inl, refl, sym, ◌∙◌, ap, subst, inr, cond}
use Rattle.std.specs.List.{filter}
use Rattle.hall_grid.specs.Board.{Board}
use Rattle.hall_grid.specs.Canonical.{CanonicalText}
use Rattle.hall_policy.specs.World.{World, IsRoundAt}
use Rattle.hall_policy.specs.First.{First}
use Rattle.hall_policy.specs.Facts.{AreTrue, IsRoundFound}
use Rattle.hall_policy.specs.Decided.{IsDecided}
use Rattle.hall_policy.specs.declared.rule.Decision.{Decision}
use Rattle.hall_policy.specs.declared.rule.Decision.TheVariants.{Allow}
use Rattle.hall_store.specs.declared.change.Change.TheVariants.{Nothing}
use Rattle.hall_policy.specs.declared.facts.Facts.{Facts}
use Rattle.hall_policy.specs.declared.record.Person.{Person}
use Rattle.hall_policy.specs.declared.record.PuzzleKey.{PuzzleKey}
use Rattle.hall_policy.specs.declared.record.PuzzleRow.{PuzzleRow}
use Rattle.hall_policy.specs.declared.record.PuzzleState.{PuzzleState}
use Rattle.hall_policy.specs.declared.record.RoundRow.{RoundRow}
use Rattle.hall_policy.specs.declared.record.PuzzleState.TheVariants as state
use Rattle.hall_policy.specs.declared.request.Request.{Request}
use Rattle.hall_policy.specs.declared.request.Action.{Action}
use Rattle.hall_policy.specs.declared.request.Action.TheVariants as action
use Rattle.hall_store.specs.Caller.{caller_of}
use Rattle.hall_desk.specs.Lookups.{IsCaller}
use Rattle.hall_store.specs.Change.{changed, CanMake, with_flag}
use Rattle.hall_desk.specs.Step.{Decided}
use Rattle.hall_store.specs.Store.{Content, Kept, Told}
use Rattle.hall_desk.specs.Plans.{IsPlanFor, IsAllowedPlan, IsMadePlan, HasNothingToWrite, IsMadeBy, Planned}
use Rattle.hall_desk.specs.declared.plan.Plan.{Plan}
use Rattle.hall_solve.specs.declared.searched.Visits.{Visits}
use Rattle.hall_desk.specs.declared.reply.Reply.{Reply}
use Rattle.hall_desk.specs.declared.reply.Reply.TheVariants as reply
use Rattle.hall_desk.specs.declared.reply.StateName.TheVariants as name
use Rattle.hall_store.specs.declared.change.Change.{Change}
use Rattle.hall_store.specs.declared.change.Change.TheVariants as change
use Rattle.hall_store.specs.declared.change.RoundFlag.{RoundFlag}
use Rattle.hall_store.specs.declared.change.RoundFlag.TheVariants as flag

-- a decision, and what it answers and changes, make a plan
pub planned : (facts : Facts) (world : World) (t : ℕ) (request : Request) (decision : Decision) (given : Reply)
    (change : Change) (visits : Option Visits) →
    IsCaller world request.key facts.caller → IsDecided world facts request.action t decision →
    (outcome : PuzzleState) → Decided decision world facts.caller request.action t outcome given (changed change world)
    → CanMake change world →
    ((decision ≢ Allow) ⊎ HasNothingToWrite world request.action → change ≡ Nothing) →
    (decision ≡ Allow → IsMadeBy world request.action (record { reply = given; change = change; visits = visits }))
    → IsPlanFor world t request (record { reply = given; change = change; visits = visits })
planned facts world t request decision given change visits caller is outcome decided can quiet made =
    let same : facts.caller ≡ caller_of world request.key = caller.found in
    record {
      answered = (
        outcome,
        (
          decision,
          subst (λ (who : Option Person). First world who request.action t decision) same is.first,
          subst (λ (who : Option Person). Decided decision world who request.action t outcome given
              (changed change world)) same decided,
        ),
      );
      can = can;
      quiet = quiet;
      made = made;
    }

-- the plan of a puzzle that is new, or differs from the one that stands
pub put_new : (world : World) (facts : Facts) (t : ℕ) (key copied_key : PuzzleKey) (puzzle copied : Board)
    (text : List ℕ) →
    copied_key ≡ key → copied ≡ puzzle → CanonicalText text puzzle → AreTrue facts world (action.PutPuzzle key puzzle)
    → IsTrue facts.author_is_there →
    ((row : PuzzleRow) → facts.puzzle ≡ Some row → row.puzzle ≢ puzzle) →
    IsAllowedPlan world facts.caller (action.PutPuzzle key puzzle) t
    (record {
      reply = reply.PutPuzzle name.New text;
      change = change.PutPuzzle
          (record { key = copied_key; puzzle = copied; state = state.New });
      visits = None;
    })
put_new world facts t key copied_key puzzle copied text same_key same_puzzle canonical told there differ =
    subst (λ (k : PuzzleKey). AreTrue facts world (action.PutPuzzle key puzzle)
    → IsAllowedPlan world facts.caller (action.PutPuzzle key puzzle) t
    (record {
      reply = reply.PutPuzzle name.New text;
      change = change.PutPuzzle
          (record { key = k; puzzle = copied; state = state.New });
      visits = None;
    })) (sym same_key)
    (subst (λ (p : Board). AreTrue facts world (action.PutPuzzle key puzzle)
    → IsAllowedPlan world facts.caller (action.PutPuzzle key puzzle) t
    (record {
      reply = reply.PutPuzzle name.New text;
      change = change.PutPuzzle
          (record { key = key; puzzle = p; state = state.New });
      visits = None;
    })) (sym same_puzzle)
    (λ all. record {
      allowed = λ found. (text, canonical, inr ((λ row kept. differ row (all.1.1.1.1.1.0.0 ∙ kept)), refl, refl));
      can = let author = all.1.1.1.0.0 there in (author.0, author.1);
      quiet = λ stands. absurd (differ stands.0 (all.1.1.1.1.1.0.0 ∙ stands.1) stands.2);
      made = (refl, tt);
    })) told

-- a plan that is right whatever a search would find
pub made_anyhow : (world : World) (caller : Option Person) (asked : Action) (t : ℕ) (plan : Plan)
    → IsAllowedPlan world caller asked t plan → IsMadePlan world caller asked t plan
made_anyhow world caller asked t plan made = record {
  found = state.New;
  allowed = made.allowed state.New;
  can =
      made.can;
  quiet = made.quiet;
  made = made.made;
}

-- what was told of a plan over a store that served before it
pub told_plan : {E : Type 0} (r : Result Plan E) (mid new : Content) (t : ℕ) (request : Request) → Kept mid new
    → (mid.honest → mid.serves) →
    Told mid new r (λ world plan. IsPlanFor world t request plan) → Planned new t request r
told_plan (Ok plan) mid new t request kept served told = inl
    (λ h. let s = told.0 h (served (kept.honest h)) in (s, told.1 h s))
told_plan (Err fault) mid new t request kept served told = tt

-- a plan that tells and flags the round of this id tells and flags that of an equal one
flags_same : (world : World) (caller : Option Person) (asked : Action) (t : ℕ) (says : List ℕ → Reply) (set : RoundFlag)
    (id shown kept : List ℕ) → shown ≡ id → kept ≡ id →
    IsAllowedPlan world caller asked t (record { reply = says id; change = change.SetRoundFlag id set; visits = None })
    →
    IsAllowedPlan world caller asked t (record {
      reply = says shown;
      change = change.SetRoundFlag kept set;
      visits =
          None;
    })
flags_same world caller asked t says set id shown kept same_shown same_kept plan =
    subst (λ (x : List ℕ). IsAllowedPlan world caller asked t
    (record { reply = says x; change = change.SetRoundFlag kept set; visits = None })) (sym same_shown)
    (subst (λ (x : List ℕ). IsAllowedPlan world caller asked t
    (record { reply = says id; change = change.SetRoundFlag x set; visits = None })) (sym same_kept) plan)

-- the plan of a round that is released
pub released : (world : World) (facts : Facts) (t : ℕ) (id shown kept : List ℕ) (row : RoundRow) →
    shown ≡ id → kept ≡ id → AreTrue facts world (action.Release id) → facts.round ≡ Some row →
    IsAllowedPlan world facts.caller (action.Release id) t (record
    { reply = reply.Release shown; change = change.SetRoundFlag kept flag.Released; visits = None })
released world facts t id shown kept row same_shown same_kept told seen =
    let at : IsRoundAt world id row = subst (λ (o : Option RoundRow). IsRoundFound world (Some id) o) seen told.1.1.0 in
    flags_same world facts.caller (action.Release id) t reply.Release flag.Released id shown kept same_shown same_kept
    (record {
      allowed = λ found. (row.round, at.head, refl, ap (with_flag world id flag.Released) at.head);
      can = (row.round, at.head);
      quiet = λ nothing. absurd nothing;
      made = ((refl, refl), tt);
    })

-- the plan of a round that is published
pub published : (world : World) (facts : Facts) (t : ℕ) (id shown kept : List ℕ) (row : RoundRow) →
    shown ≡ id → kept ≡ id → AreTrue facts world (action.Publish id) → facts.round ≡ Some row →
    IsAllowedPlan world facts.caller (action.Publish id) t (record
    { reply = reply.Publish shown; change = change.SetRoundFlag kept flag.Published; visits = None })
published world facts t id shown kept row same_shown same_kept told seen =
    let at : IsRoundAt world id row = subst (λ (o : Option RoundRow). IsRoundFound world (Some id) o) seen told.1.1.0 in
    flags_same world facts.caller (action.Publish id) t reply.Publish flag.Published id shown kept same_shown same_kept
    (record {
      allowed = λ found. (row.round, at.head, refl, ap (with_flag world id flag.Published) at.head);
      can = (row.round, at.head);
      quiet = λ nothing. absurd nothing;
      made = ((refl, refl), tt);
    })

-- ---- the answers that a caller sees
and_true : (b : Bool) → (b && true) ≡ b
and_true true = refl
and_true false = refl

pub filter_alike : {X : Type 0} (p q : X → Bool) → ((x : X) → p x ≡ q x) → (xs : List X) → filter p xs ≡ filter q xs
filter_alike p q same [] = refl
filter_alike {X} p q same (x ∷ xs) = λ i. cond (same x i) (x ∷ filter_alike p q same xs i) (filter_alike p q same xs i)
