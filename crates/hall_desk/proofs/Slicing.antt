-- What is made in slices of a round's answers.
use Rattle.std.proofs.Common.{◌≡◌, ◌≢◌, ◌∙◌, ◌++◌, ◌∷◌, ℕ, true, false, List, [], Option, Some, None, Contains, IsTrue}
use Rattle.std.proofs.Common.{refl, sym, ap, subst, take, drop}
use Rattle.std.specs.FinMap.{values}
use Rattle.std.specs.Ordering.{is_le, is_lt}
use Rattle.std.specs.declared.cmp.Ordering.{Ordering}
use Rattle.std.specs.declared.cmp.Ordering.TheVariants.{Less, Equal, Greater}
use Rattle.std.specs.List.{filter}
use Rattle.std.proofs.lemmas.List.{take-append-drop}
use Rattle.std.proofs.lemmas.List.Elements.{Contains-append_left}
use Rattle.hall_policy.specs.Sink.{HasTaken}
use Rattle.hall_policy.specs.Text.{text_cmp}
use Rattle.hall_policy.specs.World.{World}
use Rattle.hall_policy.specs.declared.record.AnswerRow.{AnswerRow}
use Rattle.hall_policy.specs.declared.record.Person.{Person}
use Rattle.hall_store.specs.Store.{Asks, Content, IsListing, Kept}
use Rattle.hall_store.specs.Store.{is_after, is_between, is_in, is_up_to, people_after, people_at_once}
use Rattle.hall_store.proofs.Knowing.{carried}
use Rattle.hall_store.proofs.Slices.{slices_join, slices_whole}
use Rattle.hall_store.proofs.Tests.{filter-Contains}
use Rattle.hall_desk.specs.Slices.{AreAllTaken, AreTaken, AreUnderWay, AreUpTo, ComeOn, GoOn, SlicesOn, TakesOn}
use Rattle.hall_desk.specs.declared.slices.Sliced.{Sliced}
use Rattle.hall_desk.specs.declared.slices.Sliced.TheVariants.{On, Whole}
use Rattle.hall_desk.specs.declared.slices.Slices.{Slices}

-- ---- the next name
-- who is among the next people has a later name
pub later_name : (world : World) (after : Option (List ℕ)) (people : List Person) (person : Person)
    → people ≡ people_after world after → Contains people person → IsTrue (is_after after person.name)
later_name world after people person are among =
    let passing : List Person = filter (λ (p : Person). is_after after p.name) (values world.people) in
    let there : Contains (take people_at_once passing ++ drop people_at_once passing) person =
    Contains-append_left (take people_at_once passing) (drop people_at_once passing) person
    (subst (λ (l : List Person). Contains l person) are among) in
    (filter-Contains (λ (p : Person). is_after after p.name) (values world.people) person
    (subst (λ (l : List Person). Contains l person) (take-append-drop people_at_once passing) there)).1

-- ---- what was taken
took_then : {K X : Type 0} (Takes : K → X → K → Type 0) (a b c : K) (xs ys : List X) → HasTaken Takes a xs b
    → HasTaken Takes b ys c → HasTaken Takes a (xs ++ ys) c
took_then Takes a b c [] ys same then = subst (λ s. HasTaken Takes s ys c) same then
took_then Takes a b c (x ∷ xs) ys took then = (took.0, took.1, took_then Takes took.0 b c xs ys took.2 then)

le_of_lt : (r : Ordering) → is_lt r ≡ true → is_le r ≡ true
le_of_lt Less lt = refl
le_of_lt Equal lt = let no : false ≡ true = lt in absurd (cc)
le_of_lt Greater lt = let no : false ≡ true = lt in absurd (cc)

-- the name before a later one is up to it
not_before : (after name : List ℕ) → IsTrue (is_after (Some after) name) → is_up_to (Some name) after ≡ true
not_before after name later = le_of_lt (text_cmp after name) later

-- the answers up to a name and those between it and a later one are those up to the later one
up_to_later : (world : World) (id : List ℕ) (after : Option (List ℕ)) (name : List ℕ) (first rest : List AnswerRow)
    → IsTrue (is_after after name) → AreUpTo world id after first
    → IsListing world (is_between id after (Some name)) rest → AreUpTo world id (Some name) (first ++ rest)
up_to_later world id None name first rest later are listed =
    subst (λ (l : List AnswerRow). IsListing world (is_between id None (Some name)) (l ++ rest)) (sym are) listed
up_to_later world id (Some after) name first rest later are listed =
    slices_join world id after (Some name) (not_before after name later) first rest are listed

-- and those up to a name and all after it are the round's
up_to_end : (world : World) (id : List ℕ) (after : Option (List ℕ)) (first rest : List AnswerRow)
    → AreUpTo world id after first → IsListing world (is_between id after None) rest
    → IsListing world (is_in id) (first ++ rest)
up_to_end world id None first rest are listed = slices_whole world id (first ++ rest)
    (subst (λ (l : List AnswerRow). IsListing world (is_between id None None) (l ++ rest)) (sym are) listed)
up_to_end world id (Some after) first rest are listed = slices_whole world id (first ++ rest)
    (slices_join world id after None refl first rest are listed)

-- ---- what has taken the answers of a round up to a name
module _ {K : Type 0} (Takes : K → AnswerRow → K → Type 0) (Begins : World → List ℕ → K → Type 0) where
  -- with those of a slice it has taken those up to the later name
  came_on : (world : World) (before after : Slices K) → AreTaken Takes Begins world before → ComeOn before after
      → TakesOn Takes world before after.after after.taken → AreTaken Takes Begins world after
  came_on world before after was on took = record {
    fresh = was.fresh;
    begun = subst (λ (id : List ℕ). Begins world id was.fresh) (sym on.same) was.begun;
    answers = was.answers ++ took.0;
    listed = subst (λ (id : List ℕ). AreUpTo world id after.after (was.answers ++ took.0)) (sym on.same)
        (subst (λ (last : Option (List ℕ)). AreUpTo world before.round last (was.answers ++ took.0)) (sym on.up_to)
        (up_to_later world before.round before.after on.name was.answers took.0 on.later was.listed
        (subst (λ (last : Option (List ℕ)). IsListing world (is_between before.round before.after last) took.0)
        on.up_to took.1)));
    took = took_then Takes was.fresh before.taken after.taken was.answers took.0 was.took took.2;
  }

  -- and with all that are left, the round's
  came_to_end : (world : World) (before : Slices K) (round : List ℕ) (taken : K) → AreTaken Takes Begins world before
      → round ≡ before.round → TakesOn Takes world before None taken → AreAllTaken Takes Begins world round taken
  came_to_end world before round taken was same took =
      subst (λ (id : List ℕ). AreAllTaken Takes Begins world id taken) (sym same) (
        was.fresh,
        was.begun,
        was.answers ++ took.0,
        up_to_end world before.round before.after was.answers took.0 was.listed took.1,
        took_then Takes was.fresh before.taken taken was.answers took.0 was.took took.2,
      )

  module _ (old new : Content) (before : Slices K) (sliced : Sliced K) (kept : Kept old new)
      (taken : Asks old (λ world. AreTaken Takes Begins world before))
      (on : new.honest → new.serves × GoOn Takes new.world before sliced) where
    pub sliced_on : (after : Slices K) → sliced ≡ On after → new.honest → new.serves
        × (ComeOn before after × AreTaken Takes Begins new.world after)
    sliced_on after is h =
        let s : new.serves = (on h).0 in
        let went : GoOn Takes new.world before (On after) =
        subst (λ (l : Sliced K). GoOn Takes new.world before l) is (on h).1 in (
          s,
          (
            went.0,
            came_on new.world before after (carried (λ w. AreTaken Takes Begins w before) old new kept taken h s)
                went.0 went.1,
          ),
        )

    pub sliced_whole : (round : List ℕ) (last : K) → sliced ≡ Whole round last → new.honest → new.serves
        × ((round ≡ before.round) × AreAllTaken Takes Begins new.world round last)
    sliced_whole round last is h =
        let s : new.serves = (on h).0 in
        let went : GoOn Takes new.world before (Whole round last) =
        subst (λ (l : Sliced K). GoOn Takes new.world before l) is (on h).1 in (
          s,
          (
            went.0,
            came_to_end new.world before round last
                (carried (λ w. AreTaken Takes Begins w before) old new kept taken h s) went.0 went.1,
          ),
        )

-- slices under way that came to their end, and are of another round than what is asked for
pub other_ended : {K : Type 0} (old : Option (Slices K)) (id : List ℕ) (before : Slices K) (made : List ℕ)
    (Keeps : List ℕ → Type 0) → AreUnderWay old id before → made ≡ before.round → made ≢ id → Keeps made
    → SlicesOn old id None Keeps
other_ended None id before made Keeps (same, start) of other kept = absurd (other (of ∙ same))
other_ended (Some one) id before made Keeps is of other kept = (
  before,
  ap Some (sym is),
  λ same. other (of ∙ same),
  subst Keeps of kept,
)
