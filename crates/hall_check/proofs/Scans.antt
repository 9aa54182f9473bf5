-- What a scan from the front finds is what the world has.
use Rattle.std.proofs.Common.{◌≡◌, ◌≢◌, ◌↔◌, IsTrue, is_some, Bool, true, false, cond, List, [], ◌∷◌}
use Rattle.std.proofs.Common.{map, find, Option, Some, None, Decides, refl, sym, ap, ◌∙◌, subst}
use Rattle.std.specs.Cmp.{IsTotalOrder, tied_itself}
use Rattle.std.specs.Ordering.{is_eq}
use Rattle.std.specs.declared.cmp.Ordering.{Ordering}
use Rattle.std.specs.FinMap.{get, from_entries, IsAntisymmetric}
use Rattle.std.specs.Map.{lookup}
use Rattle.std.specs.BTreeMap.{is_at}
use Rattle.std.specs.Option.{option_map}
use Rattle.hall_store.proofs.MapWorlds.{get_found}
use Rattle.hall_store.proofs.Ranges.{equal_from_test}
use Rattle.hall_store.proofs.Tests.{not_true}

module _ {K : Type 0} {R : K → K → Ordering} (o : IsTotalOrder R) (same : IsAntisymmetric R) where
  -- keys tie where they are one
  pub tied : (a q : K) (s : Bool) → Decides s (a ≡ q) → is_eq (R q a) ≡ s
  tied a q true d = subst (λ (x : K). is_eq (R q x) ≡ true) (sym (d.0 refl)) (ap is_eq (tied_itself o q))
  tied a q false d = not_true (is_eq (R q a)) (λ tie. let no : false ≡ true = d.1
      (sym (same q a (equal_from_test (R q a) tie))) in absurd (cc))

  -- so a tie decides whether they are one
  pub tie_decides : (a q : K) → Decides (is_eq (R a q)) (a ≡ q)
  tie_decides a q = (
    (λ tie. same a q (equal_from_test (R a q) tie)),
    (λ is. subst (λ (x : K). is_eq (R a x) ≡ true) is (ap is_eq (tied_itself o a))),
  )

module _ {K X : Type 0} {R : K → K → Ordering} (o : IsTotalOrder R) (same : IsAntisymmetric R) where
  scanned : (key_of : X → K) (test : X → Bool) (q : K) → ((x : X) → Decides (test x) (key_of x ≡ q)) → (xs : List X)
      → find test xs ≡ lookup (is_at (R q)) (map (λ x. (key_of x, x)) xs)
  scanned key_of test q d [] = refl
  scanned key_of test q d (x ∷ xs) =
      ap (λ b. cond b (Some x) (find test xs)) (sym (tied o same (key_of x) q (test x) (d x)))
      ∙ ap (cond (is_at (R q) (key_of x)) (Some x)) (scanned key_of test q d xs)

  -- the first row whose key it is, is what the map of the rows has there
  pub scan_get : (key_of : X → K) (test : X → Bool) (q : K) → ((x : X) → Decides (test x) (key_of x ≡ q))
      → (xs : List X) → find test xs ≡ get (from_entries {R = R} (map (λ x. (key_of x, x)) xs)) q
  scan_get key_of test q d xs = scanned key_of test q d xs ∙ sym (get_found o (map (λ x. (key_of x, x)) xs) q)

  scanned_entries : (test : K × X → Bool) (q : K) → ((e : K × X) → Decides (test e) (e.0 ≡ q)) → (es : List (K × X))
      → option_map (λ e. e.1) (find test es) ≡ lookup (is_at (R q)) es
  scanned_entries test q d [] = refl
  scanned_entries test q d (e ∷ es) =
      elim (test e) as (λ b. test e ≡ b → option_map (λ (x : K × X). x.1) (cond b (Some e) (find test es)) ≡ cond
      (is_at (R q) e.0) (Some e.1) (lookup (is_at (R q)) es)) [
        | true ↦ λ t. ap (λ b. cond b (Some e.1) (lookup (is_at (R q)) es)) (sym (tied o same e.0 q (test e) (d e) ∙ t))
        | false ↦ λ t. scanned_entries test q d es ∙ ap (λ b. cond b (Some e.1) (lookup (is_at (R q)) es))
            (sym (tied o same e.0 q (test e) (d e) ∙ t))
      ] refl

  -- the same of rows that stand with their keys
  pub scan_entries : (test : K × X → Bool) (q : K) → ((e : K × X) → Decides (test e) (e.0 ≡ q)) → (es : List (K × X))
      → option_map (λ e. e.1) (find test es) ≡ get (from_entries {R = R} es) q
  scan_entries test q d es = scanned_entries test q d es ∙ sym (get_found o es q)

-- a look-up answers something exactly where there is something, as does a part of what it lends
pub some_copied : {X Y Z : Type 0} (f : X → Y) (g : Y → Z) (found : Option X) (told : Bool) (kept : Option Z)
    → told ≡ is_some found → option_map g (option_map f found) ≡ kept → IsTrue told ↔ (kept ≢ None)
some_copied f g None told kept is e = (
  (λ t. let no : false ≡ true = sym is ∙ t in absurd (cc)),
  (λ there. absurd (there (sym e))),
)
some_copied f g (Some x) told kept is e = ((λ _ none. let no : Some (g (f x)) ≡ None = e ∙ none in cc), (λ _. is))
