-- Lines that a check adds to a text, and a world that isn't broken.
use Rattle.std.proofs.Common.{◌≡◌, ◌∙◌, refl, sym, ap, ◌+◌, ◌<◌, ℕ, Bool, true, false, true≢false, not, List, [], ◌∷◌}
use Rattle.std.proofs.Common.{◌++◌, length, take, get_or, flat_map, codes}
use Rattle.std.specs.Prelude.{◌||◌, ◌↔◌, IsTrue, Option, Some, None, decimal}
use Rattle.std.specs.List.{list_any}
use Rattle.std.proofs.lemmas.Grind.{flat_map-append}
use Rattle.std.proofs.lemmas.List.{append_assoc, append-nil, take_more}
use Rattle.std.proofs.lemmas.List.Folds.{list_any_at}
use Rattle.hall_check.specs.Checked.{AreStatesTrue, IsNothingFound}
use Rattle.hall_check.specs.Finds.{EveryRow}
use Rattle.hall_check.specs.declared.sanity.Checked.{Checked}
use Rattle.hall_check.specs.declared.sentence.Breaches.{Breaches}
use Rattle.hall_check.specs.declared.puzzle_states.States.{States}
use Rattle.hall_tool.specs.WorldText.{is_broken, is_decided, is_found, is_none, is_state_broken, sane_line}

module _ {X : Type 0} (f : X → List ℕ) (xs : List X) (i : ℕ) (d : X) (few : i < length xs) where
  one_more : flat_map f (take (i + 1) xs) ≡ flat_map f (take i xs) ++ f (get_or xs i d)
  one_more =
      ap (flat_map f) (take_more xs i d few) ∙ flat_map-append f (take i xs) (get_or xs i d ∷ [])
      ∙ ap (λ s. flat_map f (take i xs) ++ s) (append-nil (f (get_or xs i d)))

  -- the text has one line more
  pub line_more : (old now new : List ℕ) (x : X) → x ≡ get_or xs i d → now ≡ old ++ flat_map f (take i xs)
      → new ≡ now ++ f x → new ≡ old ++ flat_map f (take (i + 1) xs)
  line_more old now new x at before after =
      after ∙ ap (λ s. s ++ f x) before ∙ append_assoc old (flat_map f (take i xs)) (f x)
      ∙ ap (λ s. old ++ s) (ap (λ y. flat_map f (take i xs) ++ f y) at ∙ sym one_more)

found_none : {X : Type 0} (xs : List X) → not (is_none xs) ≡ false → xs ≡ []
found_none [] e = refl
found_none (x ∷ xs) e = absurd (true≢false e)

none_left : {X : Type 0} (xs : List X) → is_none xs ≡ true → xs ≡ []
none_left [] e = refl
none_left (x ∷ xs) e = absurd (true≢false (sym e))

neither : (p q : Bool) → (p || q) ≡ false → (p ≡ false) × (q ≡ false)
neither true q e = absurd (true≢false e)
neither false q e = (refl, e)

each_unbroken : (told : List Breaches) → list_any is_found told ≡ false
    → EveryRow (λ found. found.first.items ≡ []) told
each_unbroken told none found (k, few, at) = found_none found.first.items (go (is_found found) refl)
  where
    go : (test : Bool) → is_found found ≡ test → is_found found ≡ false
    go false e = e
    go true e = absurd (true≢false (sym (list_any_at is_found told k found few (ap is_found at ∙ e)) ∙ none))

states_true : (states : Option States) → is_state_broken states ≡ false → is_decided states ≡ true
    → AreStatesTrue states
states_true None unbroken decided = absurd (true≢false (sym decided))
states_true (Some states) unbroken decided =
    (found_none states.found.first.items unbroken, none_left states.undecided.items decided)

-- where nothing is broken, and yet something was found, not each search ended
pub search_gave_up : (checked : Checked) (sane : Bool) → is_broken checked ≡ false
    → (IsTrue sane ↔ IsNothingFound checked) → sane ≡ false → is_decided checked.states ≡ false
search_gave_up checked sane unbroken means insane = go (is_decided checked.states) refl
  where
    apart : (is_state_broken checked.states ≡ false) × (list_any is_found checked.told.items ≡ false)
    apart = neither (is_state_broken checked.states) (list_any is_found checked.told.items) unbroken

    go : (test : Bool) → is_decided checked.states ≡ test → is_decided checked.states ≡ false
    go false e = e
    go true e = absurd (true≢false (sym (means.1 (
      each_unbroken checked.told.items apart.1,
      states_true checked.states apart.0 e,
    )) ∙ insane))

-- what is said then
pub visits_told : (budget : Option ℕ) (visits : ℕ) (checked : Checked) → budget ≡ Some visits
    → is_decided checked.states ≡ false
    → codes "sane as far as " ++ (decimal visits ++ codes " visits tell\n") ≡ sane_line budget checked
visits_told budget visits checked some gave_up = rw (some, gave_up) refl
