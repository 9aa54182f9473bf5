-- Two maps that show alike under some keys: what a test leaves of their values shows alike, and counts alike.
use Rattle.std.proofs.Common.{◌≡◌, ◌&&◌, ℕ, suc, Bool, true, false, cond, List, [], ◌∷◌, Option, Some, None, slice_get}
use Rattle.std.proofs.Common.{map, length, refl, sym, ap, ◌∙◌, subst}
use lib.Dec.{T}
use Rattle.std.specs.Cmp.{IsTotalOrder, eq_by_cmp_equiv}
use Rattle.std.specs.Ordering.{is_lt, eq_by_cmp}
use Rattle.std.specs.declared.cmp.Ordering.{Ordering}
use Rattle.std.specs.List.{AllByRecursion, filter, count_by}
use Rattle.std.specs.List.Sorted.{IsStrictlySortedBy}
use Rattle.std.specs.Option.{option_map}
use Rattle.std.specs.Map.{keys_of, values_of}
use Rattle.std.specs.FinMap.{FinMap, IsAntisymmetric, get, entries, values, is_sorted, entries_sorted, get-entries}
use Rattle.std.specs.FinMap.{find as by_key}
use Rattle.std.specs.FinMap.Entries.{below_all, where_key, is_sorted-where_key, find-where_key, same_entries}
use Rattle.std.proofs.lemmas.Map.Entries.{lookup_from_place}
use Rattle.std.proofs.lemmas.Map.Keys.{IsDistinct-from_sorted}
use Rattle.std.proofs.lemmas.List.{length-map}
use Rattle.std.proofs.lemmas.List.Sums.{length-filter}
use Rattle.hall_policy.proofs.Maps.{strictly_sorted, get_is_lookup}

all_from : {X : Type 0} (P : X → Type 0) (xs : List X) → ((i : ℕ) (x : X) → slice_get xs i ≡ Some x → P x)
    → AllByRecursion P xs
all_from P [] h = tt
all_from P (x ∷ xs) h = (h 0 x refl, all_from P xs (λ i y e. h (suc i) y e))

-- ---- maps
module _ {K X Y : Type 0} (R : K → K → Ordering) (view : X → Y) where
  -- each entry, as it shows
  abbrev pub shown : List (K × X) → List (K × Y)
  shown es = map (λ e. (e.0, view e.1)) es

  below_shown : (k : K) (es : List (K × X)) → below_all R k (shown es) ≡ below_all R k es
  below_shown k [] = refl
  below_shown k (e ∷ es) = ap (λ b. is_lt (R k e.0) && b) (below_shown k es)

  sorted_shown : (es : List (K × X)) → is_sorted R (shown es) ≡ is_sorted R es
  sorted_shown [] = refl
  sorted_shown (e ∷ es) = ap (λ b. b && is_sorted R (shown es)) (below_shown e.0 es)
      ∙ ap (λ b. below_all R e.0 es && b) (sorted_shown es)

  find_shown : (k : K) (es : List (K × X)) → by_key R k (shown es) ≡ option_map view (by_key R k es)
  find_shown k [] = refl
  find_shown k (e ∷ es) = elim (eq_by_cmp R k e.0) as (λ b. cond b (Some (view e.1)) (by_key R k (shown es)) ≡
      option_map view (cond b (Some e.1) (by_key R k es))) [
        | true ↦ refl
        | false ↦ find_shown k es
      ]

-- an entry is what the map has at its key
pub entry_at_place : {K X : Type 0} {R : K → K → Ordering} → IsTotalOrder R → (m : FinMap R X) (i : ℕ) (e : K × X)
    → slice_get (entries m) i ≡ Some e → get m e.0 ≡ Some e.1
entry_at_place {R = R} o m i e at =
    let sorted : IsStrictlySortedBy R (keys_of (entries m)) = strictly_sorted R (entries m) (entries_sorted m) in
    get_is_lookup m e.0 ∙ lookup_from_place (eq_by_cmp_equiv o) (entries m) i e.0 e.1
    (IsDistinct-from_sorted R (keys_of (entries m)) sorted) at

module _ {K X Y : Type 0} {R : K → K → Ordering} (o : IsTotalOrder R) (same : IsAntisymmetric R) (q : K → Bool) where
  -- what shows of the entries under keys that pass
  abbrev passing : (X → Y) → FinMap R X → List (K × Y)
  passing view m = where_key R q (shown R view (entries m))

  passing_sorted : (view : X → Y) (m : FinMap R X) → T (is_sorted R (passing view m))
  passing_sorted view m = is_sorted-where_key R q (shown R view (entries m))
      (subst T (sym (sorted_shown R view (entries m))) (entries_sorted m))

  passing_at : (view : X → Y) (m : FinMap R X) (k : K) → by_key R k (passing view m) ≡ cond (q k)
      (option_map view (get m k)) None
  passing_at view m k =
      find-where_key R q k (λ x e. ap q (sym (same k x e))) (shown R view (entries m))
      ∙ ap (λ (found : Option Y). cond (q k) found None) (find_shown R view k (entries m)
      ∙ ap (option_map view) (sym (get-entries m k)))

  same_passing : (view late : X → Y) (m n : FinMap R X) → ((k : K) → q k ≡ true
      → option_map view (get m k) ≡ option_map late (get n k)) → passing view m ≡ passing late n
  same_passing view late m n alike = same_entries R o same (passing view m) (passing late n) (passing_sorted view m)
      (passing_sorted late n) (λ k.
      let here = option_map view (get m k) in
      let there = option_map late (get n k) in
      passing_at view m k
      ∙ elim (q k) as (λ b. q k ≡ b → cond b here None ≡ cond b there None) [
        | true ↦ λ e. alike k e
        | false ↦ λ e. refl
      ] refl
      ∙ sym (passing_at late n k))

  left_of : (view : X → Y) (p : X → Bool) (es : List (K × X)) → AllByRecursion (λ e. p e.1 ≡ q e.0) es
      → map view (filter p (values_of es)) ≡ values_of (where_key R q (shown R view es))
  left_of view p [] h = refl
  left_of view p (e ∷ es) h =
      ap (λ b. map view (cond b (e.1 ∷ filter p (values_of es)) (filter p (values_of es)))) h.0
      ∙ elim (q e.0) as (λ b. map view (cond b (e.1 ∷ filter p (values_of es)) (filter p (values_of es))) ≡ values_of
      (cond b ((e.0, view e.1) ∷ where_key R q (shown R view es)) (where_key R q (shown R view es)))) [
        | true ↦ ap (λ (ys : List Y). view e.1 ∷ ys) (left_of view p es h.1)
        | false ↦ left_of view p es h.1
      ]

  left_of_map : (view : X → Y) (p : X → Bool) (m : FinMap R X) → ((k : K) (x : X) → get m k ≡ Some x → p x ≡ q k)
      → map view (filter p (values m)) ≡ values_of (passing view m)
  left_of_map view p m tells = left_of view p (entries m) (all_from (λ e. p e.1 ≡ q e.0) (entries m)
      (λ i e at. tells e.0 e.1 (entry_at_place o m i e at)))

  -- what a test leaves of the values shows alike
  pub left_alike : (view late : X → Y) (p : X → Bool) (m n : FinMap R X)
      → ((k : K) (x : X) → get m k ≡ Some x → p x ≡ q k) → ((k : K) (x : X) → get n k ≡ Some x → p x ≡ q k) →
      ((k : K) → q k ≡ true → option_map view (get m k) ≡ option_map late (get n k))
      → map view (filter p (values m)) ≡ map late (filter p (values n))
  left_alike view late p m n tells told alike = left_of_map view p m tells
      ∙ ap values_of (same_passing view late m n alike) ∙ sym (left_of_map late p n told)

  -- and as many values pass
  pub counted_alike : (view late : X → Y) (p : X → Bool) (m n : FinMap R X)
      → ((k : K) (x : X) → get m k ≡ Some x → p x ≡ q k) → ((k : K) (x : X) → get n k ≡ Some x → p x ≡ q k) →
      ((k : K) → q k ≡ true → option_map view (get m k) ≡ option_map late (get n k))
      → count_by p (values m) ≡ count_by p (values n)
  counted_alike view late p m n tells told alike =
      sym (length-filter p (values m)) ∙ sym (length-map (filter p (values m)) view)
      ∙ ap length (left_alike view late p m n tells told alike)
      ∙ length-map (filter p (values n)) late ∙ length-filter p (values n)

map_itself : {X : Type 0} (xs : List X) → map (λ x. x) xs ≡ xs
map_itself [] = refl
map_itself (x ∷ xs) = ap (λ ys. x ∷ ys) (map_itself xs)

option_itself : {X : Type 0} (found : Option X) → option_map (λ x. x) found ≡ found
option_itself None = refl
option_itself (Some x) = refl

-- where the maps are the same under keys that pass, a test leaves the same of both
pub left_same : {K X : Type 0} {R : K → K → Ordering} (o : IsTotalOrder R) (same : IsAntisymmetric R) (q : K → Bool)
    (p : X → Bool) (m n : FinMap R X) →
    ((k : K) (x : X) → get m k ≡ Some x → p x ≡ q k) → ((k : K) (x : X) → get n k ≡ Some x → p x ≡ q k) →
    ((k : K) → q k ≡ true → get m k ≡ get n k) → filter p (values m) ≡ filter p (values n)
left_same o same q p m n tells told alike =
    sym (map_itself (filter p (values m)))
    ∙ left_alike o same q (λ x. x) (λ x. x) p m n tells told (λ k e. ap (option_map (λ x. x)) (alike k e))
    ∙ map_itself (filter p (values n))
