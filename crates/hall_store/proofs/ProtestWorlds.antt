-- The protests of the world, and those of a round that are open.
use Rattle.std.proofs.Common.{◌≡◌, ◌↔◌, ◌⊎◌, inl, inr, ℕ, List, [], ◌∷◌, zero, suc, Contains, Some, refl, sym, ap, ◌∙◌}
use Rattle.std.proofs.Common.{subst, slice_get}
use Rattle.std.specs.FinMap.{get}
use Rattle.std.specs.Map.{keys_of, values_of, lookup}
use Rattle.std.specs.BTreeMap.{is_at}
use Rattle.std.specs.List.Sorted.{IsStrictlySortedBy}
use Rattle.std.specs.Cmp.{eq_by_cmp_equiv}
use Rattle.std.proofs.lemmas.Map.Keys.{IsDistinct-from_sorted}
use Rattle.std.proofs.lemmas.Map.Made.{Contains-from_values_of, Contains-values_of}
use Rattle.std.proofs.lemmas.Map.Views.{Contains-from_lookup, lookup-from_Contains}
use Rattle.hall_policy.specs.World.{protest_cmp}
use Rattle.hall_policy.specs.declared.record.ProtestKey.{ProtestKey}
use Rattle.hall_policy.specs.declared.record.ProtestRow.{ProtestRow}
use Rattle.hall_policy.proofs.Orders.{protest_total, same_protest_keys}
use Rattle.hall_store.specs.Keyed.{IsOpenIn, HasOpen}
use Rattle.hall_store.specs.Maps.{world_of_maps}
use Rattle.hall_store.specs.Store.{IsProtestOpen}
use Rattle.hall_store.specs.declared.map_store.MapStore.{MapStore}
use Rattle.hall_store.proofs.MapWorlds.{get_found}
use Rattle.hall_store.proofs.Ranges.{equal_from_test}
use Rattle.hall_store.proofs.Tests.{contained, placed}

-- ---- a list whose first is taken off
first_or_later : {X : Type 0} (x : X) (xs : List X) (y : X) → Contains (x ∷ xs) y → (x ≡ y) ⊎ Contains xs y
first_or_later x xs y among =
    let at = placed (x ∷ xs) y among in
    elim at.0 as (λ n. slice_get (x ∷ xs) n ≡ Some y → (x ≡ y) ⊎ Contains xs y) [
      | zero ↦ λ e. inl (let same : x ≡ y = cc in same)
      | suc n ↦ λ e. inr (contained xs y n e)
    ] at.1

pub open_first : (round : List ℕ) (row : ProtestRow) (rest : List ProtestRow) → IsOpenIn round row
    → HasOpen round (row ∷ rest)
open_first round first rest is = (first, contained (first ∷ rest) first 0 refl, is)

pub open_later : (round : List ℕ) (row : ProtestRow) (rest : List ProtestRow) → (IsOpenIn round row → ⊥)
    → HasOpen round (row ∷ rest) ↔ HasOpen round rest
open_later round row rest shut = (
  (λ h. elim (first_or_later row rest h.0 h.1) [
    | inl same ↦ absurd (shut (subst (IsOpenIn round) (sym same) h.2))
    | inr among ↦ (h.0, among, h.2)
  ]),
  (λ h. let at = placed rest h.0 h.1 in (h.0, contained (row ∷ rest) h.0 (suc at.0) at.1, h.2)),
)

pub none_open : (round : List ℕ) → HasOpen round [] → ⊥
none_open round h = let at = placed [] h.0 h.1 in let no : slice_get [] at.0 ≡ Some h.0 = at.1 in absurd (cc)

-- ---- the world's protests
module _ (store : MapStore) (sorted : IsStrictlySortedBy protest_cmp (keys_of store.protests.entries)) where
  abbrev es : List (ProtestKey × ProtestRow)
  es = store.protests.entries

  pub get_protest : (key : ProtestKey) → get (world_of_maps store).protests key ≡ lookup (is_at (protest_cmp key)) es
  get_protest key = get_found protest_total es key

  -- a row of the round is open exactly where a protest of the world is
  pub open_kept : (round : List ℕ) → HasOpen round (values_of es) ↔ IsProtestOpen (world_of_maps store) round
  open_kept round = (
    (λ h.
        let entry = Contains-from_values_of es h.0 h.1 in
        let found : lookup (is_at (protest_cmp entry.0)) es ≡ Some h.0 =
        lookup-from_Contains (eq_by_cmp_equiv protest_total) entry.0 h.0 es
        (IsDistinct-from_sorted protest_cmp (keys_of es) sorted) entry.1 in
        let own = (store.protests_kept entry.0 h.0 found).own in
        (entry.0, h.0, sym (ap (λ (k : ProtestKey). k.round) own) ∙ h.2.0, get_protest entry.0 ∙ found, h.2.1)),
    (λ h.
        let found : lookup (is_at (protest_cmp h.0)) es ≡ Some h.1 = sym (get_protest h.0) ∙ h.3 in
        let entry = Contains-from_lookup (λ x y e. same_protest_keys x y (equal_from_test (protest_cmp x y) e)) h.0 h.1
        es found in
        let own = (store.protests_kept h.0 h.1 found).own in
        (h.1, Contains-values_of es h.0 h.1 entry, (ap (λ (k : ProtestKey). k.round) own ∙ h.2, h.4))),
  )
