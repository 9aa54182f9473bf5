-- Texts that are read as of a kind.
use Rattle.std.proofs.Common.{◌≡◌, refl, ℕ, Bool, true, false, List, Ok, Err}
use Rattle.std.proofs.lemmas.Bool.{and_from, and_parts, le-leb, leb-true, false_from_ne_true}
use Rattle.std.proofs.lemmas.List.Sums.{list_all-from_AllPass, AllPass-from_list_all}
use Rattle.hall_policy.specs.Text.{IsOfKind, is_kind}
use Rattle.hall_policy.specs.Reading.{of_kind}

module _ (least most : ℕ) (allows : ℕ → Bool) (text : List ℕ) where
  pub kind_holds : IsOfKind least most allows text → is_kind least most allows text ≡ true
  kind_holds h =
      and_from _ _ (and_from _ _ (le-leb _ _ h.long_enough) (le-leb _ _ h.short_enough))
      (list_all-from_AllPass allows text h.allowed)

  pub kind_told : is_kind least most allows text ≡ true → IsOfKind least most allows text
  kind_told e =
      let (sizes, all) = and_parts _ _ e in
      let (low, high) = and_parts _ _ sizes in
      record {
        long_enough = leb-true _ _ low;
        short_enough = leb-true _ _ high;
        allowed = AllPass-from_list_all allows text all;
      }

  pub kind_fails : (IsOfKind least most allows text → ⊥) → is_kind least most allows text ≡ false
  kind_fails other = false_from_ne_true _ (λ e. other (kind_told e))

  pub of_kind_holds : {F : Type 0} (fault : F) → IsOfKind least most allows text
      → of_kind fault least most allows text ≡ Ok text
  of_kind_holds fault h = rw (kind_holds h) refl

  pub of_kind_fails : {F : Type 0} (fault : F) → (IsOfKind least most allows text → ⊥)
      → of_kind fault least most allows text ≡ Err fault
  of_kind_fails fault other = rw (kind_fails other) refl
