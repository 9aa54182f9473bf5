-- What an import makes of the people, and of the index of their keys.
use Rattle.std.proofs.Common.{◌≡◌, inl, inr, ℕ, Bool, true, false, cond, List, Some, is_some, refl, sym, ap, ◌∙◌}
use Rattle.std.specs.Map.{lookup}
use Rattle.std.specs.BTreeMap.{is_at}
use Rattle.std.specs.FinMap.{get, insert, from_entries}
use Rattle.hall_policy.specs.Text.{text_cmp}
use Rattle.hall_policy.specs.declared.record.Person.{Person}
use Rattle.hall_policy.proofs.Orders.{text_total, same_texts}
use Rattle.hall_store.specs.Change.{with_person, with_people, CanImport}
use Rattle.hall_store.specs.Keyed.{Each, IsPersonIndexed, AgreedStay, AreLed}
use Rattle.hall_store.specs.Maps.{world_of_maps}
use Rattle.hall_store.specs.declared.map_store.MapStore.{MapStore}
use Rattle.hall_store.proofs.Changes.{with_people-found}
use Rattle.hall_store.proofs.Inserts.{keys_apart}
use Rattle.hall_store.proofs.MapWorlds.{get_found, inserted}
use Rattle.hall_store.proofs.Ranges.{equal_from_test}

-- a write leaves what it agrees on
pub write_keeps : (before after : List (List ℕ × List ℕ)) (person : Person) →
    ((q : List ℕ) → lookup (is_at (text_cmp q)) after ≡ cond (is_at (text_cmp person.key) q) (Some person.name)
    (lookup (is_at (text_cmp q)) before)) →
    (key name : List ℕ) → (person.key ≡ key → person.name ≡ name) → lookup (is_at (text_cmp key)) before ≡ Some name
    → lookup (is_at (text_cmp key)) after ≡ Some name
write_keeps before after person written key name agrees found =
    written key
    ∙ elim (is_at (text_cmp person.key) key) as (λ b. is_at (text_cmp person.key) key ≡ b
    → cond b (Some person.name) (lookup (is_at (text_cmp key)) before) ≡ Some name) [
      | true ↦ λ e. ap Some (agrees (same_texts person.key key (equal_from_test (text_cmp person.key key) e)))
      | false ↦ λ _. found
    ] refl

-- the people with one more, or with one whom they have
module _ (es : List (List ℕ × Person)) (person : Person) where
  pub one_added : (fs : List (List ℕ × Person)) → is_some (lookup (is_at (text_cmp person.name)) es) ≡ false →
      ((q : List ℕ) → lookup (is_at (text_cmp q)) fs ≡ cond (is_at (text_cmp person.name) q) (Some person)
      (lookup (is_at (text_cmp q)) es)) →
      from_entries {R = text_cmp} fs ≡ with_person (from_entries es) person
  one_added fs unknown updates =
      inserted text_total same_texts es fs person.name person updates
      ∙ ap (λ (b : Bool). cond b (from_entries es) (insert (from_entries es) person.name person))
      (sym (ap is_some (get_found text_total es person.name) ∙ unknown))

  pub one_known : is_some (lookup (is_at (text_cmp person.name)) es) ≡ true
      → from_entries {R = text_cmp} es ≡ with_person (from_entries es) person
  one_known known = ap (λ (b : Bool). cond b (from_entries es) (insert (from_entries es) person.name person))
      (sym (ap is_some (get_found text_total es person.name) ∙ known))

module _ (store : MapStore) (list : List Person) (can : CanImport (world_of_maps store) list)
    (keys : List (List ℕ × List ℕ)) (stay : AgreedStay list store.keys.entries keys) where
  -- the index that was written still leads to those who were known
  pub known_indexed : Each text_cmp store.people.entries (IsPersonIndexed keys)
  known_indexed name p found =
      let was = store.people_indexed name p found in
      record {
        own = was.own;
        led = stay p.key name (λ person among same_key. elim (keys_apart text_total same_texts name person.name) [
          | inl same ↦ sym same
          | inr differ ↦ absurd (can person among (inr (inl (
            name,
            p,
            get_found text_total store.people.entries name
                ∙ found,
            differ,
            sym same_key,
          ))))
        ]) was.led;
      }

  -- and, once it is whole, to all
  pub all_indexed : AreLed list keys → (es : List (List ℕ × Person))
      → from_entries es ≡ with_people (from_entries store.people.entries) list → Each text_cmp es (IsPersonIndexed keys)
  all_indexed led es made name p found =
      let there : get (with_people (from_entries store.people.entries) list) name ≡ Some p =
      ap (λ m. get m name) (sym made) ∙ get_found text_total es name ∙ found in
      elim (with_people-found (from_entries store.people.entries) list name p there) [
        | inl known ↦ known_indexed name p (sym (get_found text_total store.people.entries name) ∙ known)
        | inr added ↦ record { own = added.2; led = led p added.1 ∙ ap Some added.2 }
      ]
