-- People who stand before any request.
use Rattle.std.proofs.Common.{◌≡◌, ◌≤◌, ◌⊎◌, inl, inr, ℕ, false, List, Result, Ok, Err, IfOk, refl, sym, ap, ◌∙◌, subst}
use Rattle.std.specs.Prelude.{All, IsOk, OnErr}
use Rattle.std.proofs.lemmas.Bool.{false≢true}
use Rattle.hall_policy.specs.Facts.{AreTrue}
use Rattle.hall_policy.specs.declared.facts.Facts.{Facts}
use Rattle.hall_policy.specs.declared.record.PuzzleState.TheVariants as state
use Rattle.hall_policy.specs.World.{World}
use Rattle.hall_policy.specs.Lists.{ArePeople}
use Rattle.hall_policy.specs.Ranges.{IsPerson}
use Rattle.hall_policy.specs.Rules.{HasConflict}
use Rattle.hall_policy.specs.declared.record.Person.{Person}
use Rattle.hall_policy.specs.declared.request.Action.TheVariants.{Import}
use Rattle.hall_store.specs.Store.{CanRefuseIn, Content, Fails, Kept, KeptWorld, Leads, LeavesOneOf, MakesInWorld}
use Rattle.hall_store.specs.declared.fault.StoreFault.{StoreFault}
use Rattle.hall_store.specs.Change.{changed, CanMake}
use Rattle.hall_store.specs.declared.change.Change.{Change}
use Rattle.hall_store.specs.declared.change.Change.TheVariants.{Nothing}
use Rattle.hall_store.specs.declared.change.Change.TheVariants as change
use Rattle.hall_desk.specs.Step.{Seed}
use Rattle.hall_desk.specs.Sane.{Sane}
use Rattle.hall_desk.specs.Plans.{IsChangeOf, IsMadePlan, IsImportPlan, IsSeedPlan, IsSeedReply, SeedCanFail, Seeds}
use Rattle.hall_desk.specs.Plans.{StopsInSeed}
use Rattle.hall_desk.specs.declared.reply.Reply.{Reply}
use Rattle.hall_desk.specs.declared.reply.Reply.TheVariants.{Denied}
use Rattle.hall_desk.specs.declared.plan.Plan.{Plan}
use Rattle.hall_store.proofs.Knowing.{more_after}
use Rattle.hall_desk.proofs.ImportSane.{people_sane}
use Rattle.hall_desk.proofs.Stepping.{committed, quiet_commit}

-- where nobody contradicts what is known, the plan that imports is that of the people
pub seed_plan : (world : World) (people : List Person) (plan : Plan) → ¬ (HasConflict world (Import people))
    → IsImportPlan world people plan → IsSeedPlan world people plan
seed_plan world people plan clear is = record {
  seeded = inr (inr (clear, (is.counted, ap (λ (c : Change). changed c world) is.change)));
  can = subst (λ (c : Change). CanMake c world) (sym is.change)
      (λ person among conflict. clear (person, among, conflict));
}

-- and it is that of an Import that is allowed
pub import_plan : (world : World) (facts : Facts) (t : ℕ) (people : List Person) (plan : Plan)
    → AreTrue facts world (Import people) → facts.conflict ≡ false →
    IsImportPlan world people plan → IsMadePlan world facts.caller (Import people) t plan
import_plan world facts t people plan told clear is = record {
  found = state.New;
  allowed = (is.counted, ap (λ (c : Change). changed c world) is.change);
  can = (seed_plan world people plan (λ found. false≢true (sym clear ∙ told.1.1.0.1 found)) is).can;
  quiet = λ nothing. absurd nothing;
  made = (subst (λ (c : Change). IsChangeOf c (Import people)) (sym is.change) refl, tt);
}

-- a plan of theirs that was refused was refused as the import is
pub seed_fails : {R : Type 0} (result : Result R StoreFault) (people : List Person) (planned : Change)
    (old mid new : Content) → (planned ≡ Nothing) ⊎ (planned ≡ change.Import people) → (planned ≡ Nothing → IsOk result)
    → old.faults ≤ mid.faults → Fails (CanRefuseIn planned mid new) result → Fails (SeedCanFail people old new) result
seed_fails (Ok x) people planned old mid new plans idle on cause = tt
seed_fails (Err e) people planned old mid new (inl none) idle on cause = absurd (let no = idle none in cc)
seed_fails (Err e) people planned old mid new (inr is) idle on cause = λ failed. elim (cause failed) [
  | inl more ↦ inl (inl (more_after old.faults mid.faults new.faults on more))
  | inr refused ↦ inr (subst (λ (c : Change). new.can_refuse c) is refused)
]

-- a store that has made a plan's change served before it, and so it did where a plan without one was asked of it
pub seeded_serves : {R : Type 0} (E : Type 0) (mid new : Content) (change : Change) (done : R)
    → (change ≡ Nothing → mid.honest → mid.serves) → Leads mid new
    → (change ≡ Nothing) ⊎ MakesInWorld {E = E} change mid new (Ok done) → new.honest → mid.serves
seeded_serves E mid new change done asked leads (inl none) h = asked none (leads.honest h)
seeded_serves E mid new change done asked leads (inr made) h = leads.serves h (made h).0

-- a plan that was made over a store, and its change made there
pub planned_seed : (old mid new : Content) (people : List Person) (plan : Plan) (given : Reply) → Kept old mid
    → (new.honest → mid.serves) →
    (mid.honest → mid.serves → IsSeedPlan mid.world people plan) → Leads mid new → given ≡ plan.reply →
    (new.honest → mid.serves → new.serves × (new.world ≡ changed plan.change mid.world)) → new.honest
    → Seeds old people given new
planned_seed old mid new people plan given kept opened made leads told done h =
    let before = leads.honest h in
    let serves = opened h in
    let after = done h serves in
    inr (
      kept.serves before serves,
      after.0,
      subst (λ (r : Reply). Seed old.world people r new.world) (sym told)
          (subst (λ (w : World). Seed w people plan.reply new.world) (kept.world before serves)
          (subst (λ (w : World). Seed mid.world people plan.reply w) (sym after.1) (made before serves).seeded)),
    )

module _ {S : Type 0} (content : S → Content) (old : Content) (mid new : S) (people : List Person) (plan : Plan)
    (kept : Kept old (content mid))
    (leads : Leads (content mid) (content new)) where
  -- the commit was asked, and makes the plan's seed
  pub seed_made : {E : Type 0} (result : Result Reply E) → (plan.change ≡ Nothing → (content mid).honest
      → (content mid).serves)
      → ((content mid).honest → (content mid).serves → IsSeedPlan (content mid).world people plan)
      → (plan.change ≡ Nothing → IsOk result × (new ≡ mid)) → (plan.change ≡ Nothing)
      ⊎ MakesInWorld plan.change (content mid) (content new) result
      → IfOk result (λ reply. reply ≡ plan.reply) → IfOk result
      (λ reply. (content new).honest → Seeds old people reply (content new))
  seed_made {E} (Ok reply) asked told nothing made is =
      planned_seed old (content mid) (content new) people plan reply kept
      (seeded_serves E (content mid) (content new) plan.change reply asked leads made) told leads is
      (committed E content mid new plan.change reply (λ none. (nothing none).1) made)
  seed_made (Err fault) asked told nothing made is = tt

  -- or is refused, and leaves the world
  pub seed_refused : {R E : Type 0} (result : Result R E) → (plan.change ≡ Nothing → IsOk result)
      → (plan.change ≡ Nothing) ⊎ MakesInWorld plan.change (content mid) (content new) result
      → OnErr result (KeptWorld old (content new))
  seed_refused (Ok done) nothing made = tt
  seed_refused (Err fault) nothing (inl none) = absurd (let no = nothing none in cc)
  seed_refused (Err fault) nothing (inr made) = λ h s. made h s ∙ kept.world (leads.honest h) (leads.serves h s)

  -- a denial makes no write
  pub seed_quiet : {E : Type 0} (result : Result Reply E) → (plan.reply ≡ Denied 20 → plan.change ≡ Nothing)
      → (plan.change ≡ Nothing → new ≡ mid)
      → IfOk result (λ reply. reply ≡ plan.reply) → IfOk result
      (λ reply. reply ≡ Denied 20 → (content new).writes ≤ old.writes)
  seed_quiet (Ok reply) denied nothing is = λ e. quiet_commit content old mid new plan kept nothing
      (denied (sym is ∙ e))
  seed_quiet (Err fault) denied nothing is = tt

  -- what a stop leaves
  pub seed_stops : ((content mid).honest → old.serves → (content mid).serves)
      → ((content mid).honest → (content mid).serves → IsSeedPlan (content mid).world people plan)
      → ((content mid).serves → LeavesOneOf (λ before left. left ≡ changed plan.change before) (content mid)
      (content new)) → StopsInSeed old people (content new)
  seed_stops opened told stops was h left may =
      let before = leads.honest h in
      let serves = opened before was in
      elim (stops serves h left may) [
        | inl earlier ↦ inl (kept.stops before left earlier)
        | inr made ↦
            inr (
              was,
              (
                plan.reply,
                subst (λ (w : World). Seed w people plan.reply left) (kept.world before serves)
                    (subst (λ (w : World). Seed (content mid).world people plan.reply w) (sym made.1)
                    (told before serves).seeded),
              ),
            )
      ]

-- what a commit answers is the plan's reply
pub seed_answered : {E : Type 0} (result : Result Reply E) (plan : Plan) → IsSeedReply plan.reply
    → IfOk result (λ reply. reply ≡ plan.reply) → IfOk result IsSeedReply
seed_answered (Ok reply) plan is same = subst IsSeedReply (sym same) is
seed_answered (Err fault) plan is same = tt

-- it keeps a sane world
pub seed_sane : (world : World) (people : List Person) (given : Reply) (new : World) → ArePeople people
    → All IsPerson people → Seed world people given new → Sane world → Sane new
seed_sane world people given new are each (inl h) sane = subst Sane (sym h.1) sane
seed_sane world people given new are each (inr (inl h)) sane = subst Sane (sym h.2) sane
seed_sane world people given new are each (inr (inr h)) sane =
    subst Sane (sym h.1.1) (people_sane world people sane are.different each
    (λ person among conflict. h.0 (person, among, conflict)))

-- what was made of the people over a store keeps its world sane
pub seed_sane_over : (old new : Content) (people : List Person) (given : Reply) → ArePeople people → All IsPerson people
    → Leads old new → new.honest → new.serves →
    Seeds old people given new → Sane old.world → Sane new.world
seed_sane_over old new people given are each leads h s seeds sane = elim seeds [
  | inl kept ↦ subst Sane (sym (kept.1 s)) sane
  | inr made ↦ seed_sane old.world people given new.world are each made.2 sane
]

-- so it does where it was answered
pub seeds_sane : {E : Type 0} (result : Result Reply E) (old new : Content) (people : List Person) → ArePeople people
    → All IsPerson people → Leads old new
    → OnErr result (KeptWorld old new) → IfOk result (λ reply. new.honest → Seeds old people reply new) → new.honest
    → new.serves → Sane old.world → Sane new.world
seeds_sane (Ok reply) old new people are each leads left seeds h s sane = seed_sane_over old new people reply are each
    leads h s (seeds h) sane
seeds_sane (Err fault) old new people are each leads left seeds h s sane = subst Sane (sym (left h s)) sane
