-- What the map of rows has at a key is one of the rows, and its own.
use Rattle.std.proofs.Common.{◌≡◌, List, map, Option, Some, None, Contains, slice_get, sym, ap, ◌∙◌, subst}
use Rattle.std.specs.BTreeMap.{is_at}
use Rattle.std.specs.Cmp.{IsTotalOrder}
use Rattle.std.specs.FinMap.{IsAntisymmetric, get, from_entries}
use Rattle.std.specs.Option.{option_map}
use Rattle.std.specs.declared.cmp.Ordering.{Ordering}
use Rattle.std.proofs.lemmas.Map.Entries.{place_from_lookup}
use Rattle.std.proofs.lemmas.Option.{slice_get-map}
use Rattle.hall_store.proofs.MapWorlds.{get_found}
use Rattle.hall_store.proofs.Ranges.{equal_from_test}
use Rattle.hall_store.proofs.Tests.{contained}

module _ {K X : Type 0} {R : K → K → Ordering} (o : IsTotalOrder R) (same : IsAntisymmetric R) where
  -- what stands at a key is an entry
  pub own_entry : (es : List (K × X)) (k : K) (v : X) → get (from_entries {R = R} es) k ≡ Some v → Contains es (k, v)
  own_entry es k v found =
      let at = place_from_lookup (is_at (R k)) es v (sym (get_found o es k) ∙ found) in
      let own : at.1 ≡ k = sym (same k at.1 (equal_from_test (R k at.1) at.3)) in
      subst (λ (q : K). Contains es (q, v)) own (contained es (at.1, v) at.0 at.2)

  paired : (key_of : X → K) (found : Option X) (k : K) (v : X) → option_map {U = K × X} (λ x. (key_of x, x)) found ≡
      Some (k, v) → (found ≡ Some v) × (key_of v ≡ k)
  paired key_of None k v e = absurd (cc)
  paired key_of (Some x) k v e =
      let pair : ◌≡◌ {A = K × X} (key_of x, x) (k, v) = cc in
      let row : x ≡ v = ap (λ (p : K × X). p.1) pair in
      (ap Some row, ap key_of (sym row) ∙ ap (λ (p : K × X). p.0) pair)

  -- and of rows that stand under their own keys it is a row of that key
  pub own_row : (key_of : X → K) (xs : List X) (k : K) (v : X)
      → get (from_entries {R = R} (map (λ x. (key_of x, x)) xs)) k ≡ Some v → Contains xs v × (key_of v ≡ k)
  own_row key_of xs k v found =
      let es : List (K × X) = map (λ x. (key_of x, x)) xs in
      let at = place_from_lookup (is_at (R k)) es v (sym (get_found o es k) ∙ found) in
      let own : at.1 ≡ k = sym (same k at.1 (equal_from_test (R k at.1) at.3)) in
      let row = paired key_of (slice_get xs at.0) at.1 v (sym (slice_get-map (λ x. (key_of x, x)) xs at.0) ∙ at.2) in
      (contained xs v at.0 row.0, row.1 ∙ own)
