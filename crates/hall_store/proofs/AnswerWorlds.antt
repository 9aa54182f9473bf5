-- The answers of the world, which ordered maps keep in another order.
use Rattle.std.proofs.Common.{◌≡◌, ◌==◌, ◌&&◌, ℕ, ◌∷◌, [], List, Bool, true, false, Option, Some, None, IsTrue, cond}
use Rattle.std.proofs.Common.{ap, sym, ◌∙◌, refl, subst, map, length, count_by, ◌↔◌, slice_get, slice_index_or, suc}
use Rattle.std.proofs.Common.{◌+◌, is_some, arith}
use Rattle.std.specs.Cmp.{IsTotalOrder, eq_by_cmp_equiv, tied_itself, unsigned_Decides}
use Rattle.std.specs.Bool.{Decides}
use Rattle.std.specs.Ordering.{eq_by_cmp, is_eq, is_lt, match_ordering, nat_cmp, ordering_then, ordering_reverse}
use Rattle.std.specs.declared.cmp.Ordering.{Ordering}
use Rattle.std.specs.declared.cmp.Ordering.TheVariants.{Less, Equal, Greater}
use Rattle.std.specs.List.{filter, find, AllByRecursion, IsDistinct}
use Rattle.std.specs.List.Sorted.{IsStrictlySortedBy, IsPermutation, IsSorted}
use Rattle.std.specs.Map.{lookup, keys_of, values_of}
use Rattle.std.specs.BTreeMap.{is_at, insert_entry}
use Rattle.std.specs.FinMap.{get, insert, entries, values, from_entries, entries-insert, IsAntisymmetric}
use Rattle.std.specs.FinMap.{nat_cmp-IsAntisymmetric}
use Rattle.std.proofs.lemmas.List.Sorted.{IsPermutation-refl, IsPermutation-cons, IsPermutation-trans}
use Rattle.std.proofs.lemmas.List.Sorted.{IsPermutation-swap, IsPermutation-sym, length_permutation}
use Rattle.std.proofs.lemmas.List.Sums.{length-filter}
use Rattle.std.proofs.lemmas.List.Elements.{filter_agree}
use Rattle.std.proofs.lemmas.Cmp.{then_total, on_total, nat_cmp_total}
use Rattle.std.proofs.lemmas.Map.Keys.{sorted_head, sorted_tail, IsDistinct-from_sorted, IsDistinct-head}
use Rattle.std.proofs.lemmas.Map.Keys.{IsDistinct-tail, IsDistinct-cons, Less-from_sorted}
use Rattle.std.proofs.lemmas.Map.Made.{Contains-from_values_of, Contains-values_of}
use Rattle.std.proofs.lemmas.Map.Views.{lookup-from_Contains}
use Rattle.hall_policy.specs.Text.{text_cmp}
use Rattle.hall_policy.specs.World.{World, answer_cmp, same_text}
use Rattle.hall_policy.specs.Rules.{answers_given}
use Rattle.hall_policy.specs.declared.record.AnswerKey.{AnswerKey}
use Rattle.hall_policy.specs.declared.record.AnswerRow.{AnswerRow}
use Rattle.hall_policy.proofs.Maps.{put_is_insert_entry, get_is_lookup}
use Rattle.hall_policy.proofs.Orders.{answer_total, same_answer_keys, text_total, same_texts}
use Rattle.hall_store.specs.Keyed.{HasAny, agree, answer_entry, slot_cmp, slot_of, first_slot, AreKeysDistinct}
use Rattle.hall_store.specs.Maps.{world_of_maps}
use Rattle.hall_store.specs.Change.{CanAddAnswer}
use Rattle.hall_store.specs.Store.{HasSubmitted, IsListing, IsNumberTaken, listing_cmp, is_after, is_between, is_in}
use Rattle.hall_store.specs.Store.{is_of, is_up_to}
use Rattle.hall_store.specs.declared.map_store.MapStore.{MapStore}
use Rattle.hall_store.specs.declared.slot.AnswerSlot.{AnswerSlot}
use Rattle.hall_store.specs.declared.slot.Part.TheVariants.{Entrant, Puzzle}
use Rattle.hall_store.proofs.Firsts.{slot_total}
use Rattle.hall_store.proofs.MapWorlds.{get_found, entries_made, inserted}
use Rattle.hall_store.proofs.Ranges.{equal_from_test, all_of_each}
use Rattle.hall_store.proofs.Tests.{and_both, contained, not_true, true_not_false, Contains-filter, filter-Contains}
use Rattle.hall_policy.proofs.Texts.{and_first, and_second, text_decides}

-- ---- one answer
-- two orders in turn tie where both do
both_tie : (a b : Ordering) → is_eq (ordering_then a b) ≡ (is_eq a && is_eq b)
both_tie Less b = refl
both_tie Equal b = refl
both_tie Greater b = refl

-- texts, and numbers, tie where the tests say that they are one
tie_tested : {X : Type 0} (R : X → X → Ordering) → IsTotalOrder R → IsAntisymmetric R → (test : X → X → Bool)
    → ((x y : X) → Decides (test x y) (x ≡ y)) → (a b : X) → is_eq (R a b) ≡ test b a
tie_tested R o exact test decides a b =
    elim (test b a) as (λ t. test b a ≡ t → is_eq (R a b) ≡ t) [
      | true ↦ λ e. ap (λ x. is_eq (R a x)) ((decides b a).0 e) ∙ ap is_eq (tied_itself o a)
      | false ↦ λ e. not_true (is_eq (R a b)) (λ yes. true_not_false (test b a)
          ((decides b a).1 (sym (exact a b (equal_from_test (R a b) yes)))) e)
    ] refl

tied_text : (a b : List ℕ) → is_eq (text_cmp a b) ≡ same_text b a
tied_text = tie_tested text_cmp text_total same_texts same_text text_decides

tied_number : (a b : ℕ) → is_eq (nat_cmp a b) ≡ (b == a)
tied_number = tie_tested nat_cmp nat_cmp_total nat_cmp-IsAntisymmetric (λ a b. a == b) unsigned_Decides

turned : (e r n t : Bool) → (e && (r && (n && t))) ≡ (((r && e) && n) && t)
turned true true n t = refl
turned true false n t = refl
turned false true n t = refl
turned false false n t = refl

-- the least slot of the entrant's answers to the puzzle, whose answer has the key
abbrev pub first_with : AnswerKey → AnswerSlot
first_with key = first_slot key.round key.entrant key.number

abbrev pub has_token : List ℕ → AnswerRow → Bool
has_token token row = same_text row.key.token token

abbrev pub is_to : AnswerKey → AnswerRow → Bool
is_to key row = agree Puzzle (slot_of row) (first_with key)

key_tested : (key : AnswerKey) (row : AnswerRow) → is_at (answer_cmp key) row.key ≡
    (is_to key row && has_token key.token row)
key_tested key row =
    let entrant = text_cmp key.entrant row.key.entrant in
    let round = text_cmp key.round row.key.round in
    let number = nat_cmp key.number row.key.number in
    let token = text_cmp key.token row.key.token in
    both_tie entrant (ordering_then round (ordering_then number token))
    ∙ ap (λ b. is_eq entrant && b) (both_tie round (ordering_then number token)
    ∙ ap (λ b. is_eq round && b) (both_tie number token))
    ∙ (λ i. tied_text key.entrant row.key.entrant i && (tied_text key.round row.key.round i &&
    (tied_number key.number row.key.number i && tied_text key.token row.key.token i)))
    ∙ turned (same_text row.key.entrant key.entrant) (same_text row.key.round key.round) (row.key.number == key.number)
    (has_token key.token row)

-- what is found under a key is the one with the token among those to the puzzle
pub answer_found : (es : List (AnswerSlot × AnswerRow)) (key : AnswerKey) →
    lookup (is_at (answer_cmp key)) (map answer_entry es) ≡ find (has_token key.token)
    (filter (is_to key) (values_of es))
answer_found [] key = refl
answer_found (e ∷ es) key =
    let rest = filter (is_to key) (values_of es) in
    let here = has_token key.token e.1 in
    (λ i. cond (key_tested key e.1 i) (Some e.1) (answer_found es key i))
    ∙ elim (is_to key e.1) as (λ b. cond (b && here) (Some e.1) (find (has_token key.token) rest) ≡ find
    (has_token key.token) (cond b (e.1 ∷ rest) rest)) [ true ↦ refl | false ↦ refl ]

pub get_answer : (store : MapStore) (key : AnswerKey) → get (world_of_maps store).answers key ≡ find
    (has_token key.token) (filter (is_to key) (values_of store.answers.entries))
get_answer store key = get_found answer_total (map answer_entry store.answers.entries) key
    ∙ answer_found store.answers.entries key

-- where a value and the one of two places are in question at once, the first asked may be asked last
asked_last : {X : Type 0} (a b : Bool) (x y : X) (o : Option X) → (a ≡ true → b ≡ true → ⊥)
    → cond a (Some x) (cond b (Some y) o) ≡ cond b (Some y) (cond a (Some x) o)
asked_last true true x y o never = absurd (never refl refl)
asked_last true false x y o never = refl
asked_last false true x y o never = refl
asked_last false false x y o never = refl

none_here : {X : Type 0} (b : Bool) (x : X) (o : Option X) → cond b (Some x) o ≡ None → (b ≡ false) × (o ≡ None)
none_here true x o h = absurd (let no : Some x ≡ None = h in cc)
none_here false x o h = (refl, h)

-- ---- keys that are distinct
-- each answer's key is new among those after it
abbrev AreKeysNew : List (AnswerSlot × AnswerRow) → Type 0
AreKeysNew [] = Unit {0}
AreKeysNew (e ∷ es) = (lookup (is_at (answer_cmp e.1.key)) (map answer_entry es) ≡ None) × AreKeysNew es

abbrev key_in : AnswerSlot × AnswerRow → AnswerKey
key_in e = e.1.key

new_key : (key : AnswerKey) (es : List (AnswerSlot × AnswerRow))
    → AllByRecursion (λ k. is_at (answer_cmp key) k ≡ false) (map key_in es)
    → lookup (is_at (answer_cmp key)) (map answer_entry es) ≡ None
new_key key [] apart = refl
new_key key (e ∷ es) apart = ap (λ b. cond b (Some e.1) (lookup (is_at (answer_cmp key)) (map answer_entry es))) apart.0
    ∙ new_key key es apart.1

apart_key : (key : AnswerKey) (es : List (AnswerSlot × AnswerRow))
    → lookup (is_at (answer_cmp key)) (map answer_entry es) ≡ None
    → AllByRecursion (λ k. is_at (answer_cmp key) k ≡ false) (map key_in es)
apart_key key [] new = tt
apart_key key (e ∷ es) new = let both = none_here (is_at (answer_cmp key) e.1.key) e.1
    (lookup (is_at (answer_cmp key)) (map answer_entry es)) new in (both.0, apart_key key es both.1)

each_new : (es : List (AnswerSlot × AnswerRow)) → AreKeysDistinct es → AreKeysNew es
each_new [] distinct = tt
each_new (e ∷ es) distinct = (
  new_key e.1.key es (IsDistinct-head (eq_by_cmp answer_cmp) e.1.key (map key_in es) distinct),
  each_new es (IsDistinct-tail (eq_by_cmp answer_cmp) e.1.key (map key_in es) distinct),
)

all_distinct : (es : List (AnswerSlot × AnswerRow)) → AreKeysNew es → AreKeysDistinct es
unfolding IsDistinct
all_distinct [] new = tt
all_distinct (e ∷ es) new = IsDistinct-cons (eq_by_cmp answer_cmp) e.1.key (map key_in es) (apart_key e.1.key es new.0)
    (all_distinct es new.1)

-- ---- one more answer
module _ (slot : AnswerSlot) (row : AnswerRow) where
  abbrev is_same : AnswerKey → Bool
  is_same = is_at (answer_cmp row.key)

  -- an answer under a new key, put into a free slot, is found under its key, and the others under theirs
  put_found : (es : List (AnswerSlot × AnswerRow)) → lookup (is_at (slot_cmp slot)) es ≡ None
      → lookup is_same (map answer_entry es) ≡ None → (q : AnswerKey) →
      lookup (is_at (answer_cmp q)) (map answer_entry (insert_entry slot_cmp es slot row)) ≡ cond (is_same q) (Some row)
      (lookup (is_at (answer_cmp q)) (map answer_entry es))
  put_found [] free new q = ap (λ b. cond b (Some row) None) ((eq_by_cmp_equiv answer_total).symm q row.key)
  put_found (e ∷ es) free new q =
      let test = is_at (answer_cmp q) in
      let first = ap (λ b. cond b (Some row) (lookup test (map answer_entry (e ∷ es))))
      ((eq_by_cmp_equiv answer_total).symm q row.key) in
      let apart = none_here (is_same e.1.key) e.1 (lookup is_same (map answer_entry es)) new in
      elim (slot_cmp slot e.0) as (λ r. cond (is_eq r) (Some e.1) (lookup (is_at (slot_cmp slot)) es) ≡ None →
      lookup test (map answer_entry (match_ordering r ((slot, row) ∷ e ∷ es) ((e.0, row) ∷ es)
      (e ∷ insert_entry slot_cmp es slot row))) ≡ cond (is_same q) (Some row)
      (lookup test (map answer_entry (e ∷ es)))) [
        | Less ↦ λ _. first
        | Equal ↦ λ h. absurd (let no : Some e.1 ≡ None = h in cc)
        | Greater ↦ λ h.
            ap (λ (o : Option AnswerRow). cond (test e.1.key) (Some e.1) o) (put_found es h apart.1 q)
            ∙ asked_last (test e.1.key) (is_same q) e.1 row (lookup test (map answer_entry es)) (λ own same.
            let one : row.key ≡ e.1.key = same_answer_keys row.key q (equal_from_test (answer_cmp row.key q) same)
            ∙ same_answer_keys q e.1.key (equal_from_test (answer_cmp q e.1.key) own) in
            true_not_false (is_same e.1.key) (ap is_same (sym one) ∙ ap is_eq (tied_itself answer_total row.key))
            apart.0)
      ] free

  keys_stay_new : (es : List (AnswerSlot × AnswerRow)) → lookup (is_at (slot_cmp slot)) es ≡ None
      → lookup is_same (map answer_entry es) ≡ None → AreKeysNew es → AreKeysNew (insert_entry slot_cmp es slot row)
  keys_stay_new [] free new are = (refl, tt)
  keys_stay_new (e ∷ es) free new are =
      let apart = none_here (is_same e.1.key) e.1 (lookup is_same (map answer_entry es)) new in
      elim (slot_cmp slot e.0) as (λ r. cond (is_eq r) (Some e.1) (lookup (is_at (slot_cmp slot)) es) ≡ None
      → AreKeysNew (match_ordering r ((slot, row) ∷ e ∷ es) ((e.0, row) ∷ es)
      (e ∷ insert_entry slot_cmp es slot row))) [
        | Less ↦ λ _. (new, are)
        | Equal ↦ λ h. absurd (let no : Some e.1 ≡ None = h in cc)
        | Greater ↦ λ h. (
          put_found es h apart.1 e.1.key ∙ ap (λ b. cond b (Some row)
              (lookup (is_at (answer_cmp e.1.key)) (map answer_entry es))) apart.0 ∙ are.0,
          keys_stay_new es h apart.1 are.1,
        )
      ] free

  pub keys_stay_distinct : (es : List (AnswerSlot × AnswerRow)) → lookup (is_at (slot_cmp slot)) es ≡ None
      → lookup is_same (map answer_entry es) ≡ None → AreKeysDistinct es
      → AreKeysDistinct (insert_entry slot_cmp es slot row)
  keys_stay_distinct es free new distinct = all_distinct (insert_entry slot_cmp es slot row)
      (keys_stay_new es free new (each_new es distinct))

  -- an answer that is put into its own slot
  pub answer_put : (es : List (AnswerSlot × AnswerRow)) → lookup (is_at (slot_cmp slot)) es ≡ None
      → lookup is_same (map answer_entry es) ≡ None →
      from_entries {R = answer_cmp} (map answer_entry (insert_entry slot_cmp es slot row)) ≡ insert
      (from_entries (map answer_entry es)) row.key row
  answer_put es free new = inserted answer_total same_answer_keys (map answer_entry es)
      (map answer_entry (insert_entry slot_cmp es slot row)) row.key row (put_found es free new)

-- what stands in a slot is found under its key
kept_found : (es : List (AnswerSlot × AnswerRow)) → AreKeysNew es → (slot : AnswerSlot) (row : AnswerRow)
    → lookup (is_at (slot_cmp slot)) es ≡ Some row →
    lookup (is_at (answer_cmp row.key)) (map answer_entry es) ≡ Some row
kept_found [] are slot row found = let no : None ≡ Some row = found in absurd (cc)
kept_found (e ∷ es) are slot row found =
    let rest = lookup (is_at (answer_cmp row.key)) (map answer_entry es) in
    elim (is_at (slot_cmp slot) e.0) as (λ b. cond b (Some e.1) (lookup (is_at (slot_cmp slot)) es) ≡ Some row
    → cond (is_at (answer_cmp row.key) e.1.key) (Some e.1) rest ≡ Some row) [
      | true ↦ λ h.
          let one : e.1 ≡ row = cc in
          let own : is_at (answer_cmp row.key) e.1.key ≡ true = ap (λ (r : AnswerRow). is_at (answer_cmp row.key) r.key)
          one ∙ ap is_eq (tied_itself answer_total row.key) in
          ap (λ b. cond b (Some e.1) rest) own ∙ ap Some one
      | false ↦ λ h.
          let later = kept_found es are.1 slot row h in
          let apart : is_at (answer_cmp row.key) e.1.key ≡ false = not_true (is_at (answer_cmp row.key) e.1.key) (λ yes.
          let one : row.key ≡ e.1.key = same_answer_keys row.key e.1.key
          (equal_from_test (answer_cmp row.key e.1.key) yes) in
          let no : None ≡ Some row = sym are.0 ∙ ap (λ (k : AnswerKey). lookup (is_at (answer_cmp k))
          (map answer_entry es)) (sym one) ∙ later in cc) in
          ap (λ b. cond b (Some e.1) rest) apart ∙ later
    ] found

-- what is found under a key stands in a slot, and has the key
found_kept : (es : List (AnswerSlot × AnswerRow)) (key : AnswerKey) (row : AnswerRow)
    → lookup (is_at (answer_cmp key)) (map answer_entry es) ≡ Some row →
    (slot : AnswerSlot) × (j : ℕ) × (slice_get es j ≡ Some (slot, row)) × (key ≡ row.key)
found_kept [] key row found = let no : None ≡ Some row = found in absurd (cc)
found_kept (e ∷ es) key row found =
    elim (is_at (answer_cmp key) e.1.key) as (λ b. is_at (answer_cmp key) e.1.key ≡ b
    → cond b (Some e.1) (lookup (is_at (answer_cmp key)) (map answer_entry es)) ≡ Some row →
    (slot : AnswerSlot) × (j : ℕ) × (slice_get (e ∷ es) j ≡ Some (slot, row)) × (key ≡ row.key)) [
      | true ↦ λ yes h.
          let one : e.1 ≡ row = cc in (
            e.0,
            0,
            ap (λ (r : AnswerRow). Some (e.0, r)) one,
            same_answer_keys key e.1.key
                (equal_from_test (answer_cmp key e.1.key) yes) ∙ ap (λ (r : AnswerRow). r.key) one,
          )
      | false ↦ λ _ h. let later = found_kept es key row h in (later.0, suc later.1, later.2, later.3)
    ] refl found

-- ---- all answers
none_made : {K X : Type 0} {R : K → K → Ordering} → IsTotalOrder R → IsAntisymmetric R
    → entries (from_entries {K = K} {X = X} {R = R} []) ≡ []
unfolding IsStrictlySortedBy
none_made o same = entries_made o same [] tt

module _ {K X : Type 0} {R : K → K → Ordering} (o : IsTotalOrder R) (same : IsAntisymmetric R) (p : X → Bool) where
  abbrev passing : List (K × X) → List X
  passing es = filter p (values_of es)

  -- an entry under a new key is put among those that were there
  put_among : (es : List (K × X)) (k : K) (v : X) → lookup (is_at (R k)) es ≡ None
      → IsPermutation (filter p (v ∷ values_of es)) (passing (insert_entry R es k v))
  put_among [] k v new = IsPermutation-refl (filter p (v ∷ []))
  put_among (e ∷ es) k v new =
      let whole = filter p (v ∷ e.1 ∷ values_of es) in
      elim (R k e.0) as (λ r. cond (is_eq r) (Some e.1) (lookup (is_at (R k)) es) ≡ None
      → IsPermutation whole (passing (match_ordering r ((k, v) ∷ e ∷ es) ((e.0, v) ∷ es)
      (e ∷ insert_entry R es k v)))) [
        | Less ↦ λ _. IsPermutation-refl whole
        | Equal ↦ λ h. absurd (let no : Some e.1 ≡ None = h in cc)
        | Greater ↦ λ h.
            let again = put_among es k v h in
            let rest = passing es in
            elim (p e.1) as (λ b. IsPermutation (cond (p v) (v ∷ cond b (e.1 ∷ rest) rest) (cond b (e.1 ∷ rest) rest))
            (cond b (e.1 ∷ passing (insert_entry R es k v)) (passing (insert_entry R es k v)))) [
              | true ↦ IsPermutation-trans (cond (p v) (v ∷ e.1 ∷ rest) (e.1 ∷ rest))
                  (e.1 ∷ filter p (v ∷ values_of es)) (e.1 ∷ passing (insert_entry R es k v))
                  (elim (p v) as (λ b. IsPermutation (cond b (v ∷ e.1 ∷ rest) (e.1 ∷ rest))
                  (e.1 ∷ cond b (v ∷ rest) rest)) [
                    | true ↦ IsPermutation-swap (v ∷ e.1 ∷ rest) (e.1 ∷ v ∷ rest) 0 1 (omega arith) (omega arith) refl
                    | false ↦ IsPermutation-refl (e.1 ∷ rest)
                  ])
                  (IsPermutation-cons e.1 (filter p (v ∷ values_of es)) (passing (insert_entry R es k v)) again)
              | false ↦ again
            ]
      ] new

  -- each key is new among those after it
  abbrev AreNew : List (K × X) → Type 0
  AreNew [] = Unit {0}
  AreNew (e ∷ es) = (lookup (is_at (R e.0)) es ≡ None) × AreNew es

  -- a map that is made of entries under different keys has their values
  made_of : (es : List (K × X)) → AreNew es → IsPermutation (passing es) (passing (entries (from_entries {R = R} es)))
  made_of [] new = subst (λ (fs : List (K × X)). IsPermutation (filter p []) (passing fs)) (sym (none_made o same))
      (IsPermutation-refl (filter p []))
  made_of (e ∷ es) new =
      let before : List (K × X) = entries (from_entries {R = R} es) in
      let made : entries (insert (from_entries {R = R} es) e.0 e.1) ≡ insert_entry R before e.0 e.1 = entries-insert o
      (from_entries {R = R} es) e.0 e.1 ∙ put_is_insert_entry R e.0 e.1 before in
      let gone : lookup (is_at (R e.0)) before ≡ None = sym (get_is_lookup (from_entries {R = R} es) e.0)
      ∙ get_found o es e.0 ∙ new.0 in
      let again = made_of es new.1 in
      let one : IsPermutation (filter p (e.1 ∷ values_of es)) (filter p (e.1 ∷ values_of before)) =
      elim (p e.1) as (λ b. IsPermutation (cond b (e.1 ∷ passing es) (passing es))
      (cond b (e.1 ∷ passing before) (passing before))) [
        | true ↦ IsPermutation-cons e.1 (passing es) (passing before) again
        | false ↦ again
      ] in
      IsPermutation-trans (filter p (e.1 ∷ values_of es)) (filter p (e.1 ∷ values_of before))
      (passing (entries (from_entries {R = R} (e ∷ es)))) one
      (subst (λ (fs : List (K × X)). IsPermutation (filter p (e.1 ∷ values_of before)) (passing fs)) (sym made)
      (put_among before e.0 e.1 gone))

keys_new : (es : List (AnswerSlot × AnswerRow)) → AreKeysNew es → AreNew answer_total same_answer_keys (λ _. true)
    (map answer_entry es)
keys_new [] are = tt
keys_new (e ∷ es) are = (are.0, keys_new es are.1)

grouped : (a b c : Bool) → ((a && b) && c) ≡ (b && (a && c))
grouped true true c = refl
grouped true false c = refl
grouped false true c = refl
grouped false false c = refl

values_in : (es : List (AnswerSlot × AnswerRow)) → values_of (map answer_entry es) ≡ values_of es
values_in [] = refl
values_in (e ∷ es) = ap (λ rows. e.1 ∷ rows) (values_in es)

-- ---- the order of listings
listing_total : IsTotalOrder listing_cmp
listing_total =
    then_total (on_total (λ row. row.key.entrant) text_total)
    (then_total (on_total (λ row. row.key.number) nat_cmp_total)
    (then_total (on_total (λ row. row.n) nat_cmp_total) (on_total (λ row. row.key.token) text_total)))

-- in one round the slots are in the order of listings
below_listed : (entrant number n token : Ordering) → ordering_then entrant (ordering_then number n) ≡ Less
    → ordering_then entrant (ordering_then number (ordering_then n token)) ≡ Less
below_listed Less number n token h = refl
below_listed Greater number n token h = h
below_listed Equal Less n token h = refl
below_listed Equal Greater n token h = h
below_listed Equal Equal Less token h = refl
below_listed Equal Equal Equal token h = let no : Equal ≡ Less = h in absurd (cc)
below_listed Equal Equal Greater token h = h

row_below : (a b : AnswerRow) → a.key.round ≡ b.key.round → slot_cmp (slot_of a) (slot_of b) ≡ Less
    → listing_cmp a b ≡ Less
row_below a b same below =
    let tie : text_cmp a.key.round b.key.round ≡ Equal = ap (text_cmp a.key.round) (sym same)
    ∙ tied_itself text_total a.key.round in
    let parts = ordering_then (text_cmp a.key.entrant b.key.entrant)
    (ordering_then (nat_cmp a.key.number b.key.number) (nat_cmp a.n b.n)) in
    below_listed (text_cmp a.key.entrant b.key.entrant) (nat_cmp a.key.number b.key.number) (nat_cmp a.n b.n)
    (text_cmp a.key.token b.key.token)
    (ap (λ r. ordering_then r parts) (sym tie) ∙ below)

module _ (q : AnswerRow → Bool) (round : List ℕ) (one : (row : AnswerRow) → q row ≡ true → row.key.round ≡ round) where
  abbrev AreOwn : List (AnswerSlot × AnswerRow) → Type 0
  AreOwn es = AllByRecursion (λ (e : AnswerSlot × AnswerRow). slot_of e.1 ≡ e.0) es

  all_below : (x : AnswerRow) → q x ≡ true → (es : List (AnswerSlot × AnswerRow)) → AreOwn es
      → AllByRecursion (λ k. slot_cmp (slot_of x) k ≡ Less) (keys_of es) →
      AllByRecursion (λ y. listing_cmp x y ≡ Less) (filter q (values_of es))
  all_below x passes [] own below = tt
  all_below x passes (e ∷ es) own below =
      let rest = filter q (values_of es) in
      let later = all_below x passes es own.1 below.1 in
      elim (q e.1) as (λ b. q e.1 ≡ b → AllByRecursion (λ y. listing_cmp x y ≡ Less) (cond b (e.1 ∷ rest) rest)) [
        | true ↦ λ yes. (
          row_below x e.1 (one x passes ∙ sym (one e.1 yes)) (ap (slot_cmp (slot_of x)) own.0 ∙ below.0),
          later,
        )
        | false ↦ λ _. later
      ] refl

  rows_strict : (es : List (AnswerSlot × AnswerRow)) → AreOwn es → IsStrictlySortedBy slot_cmp (keys_of es)
      → IsStrictlySortedBy listing_cmp (filter q (values_of es))
  unfolding IsStrictlySortedBy
  rows_strict [] own sorted = tt
  rows_strict (e ∷ es) own sorted =
      let rest = filter q (values_of es) in
      let later = rows_strict es own.1 (sorted_tail slot_cmp e.0 (keys_of es) sorted) in
      elim (q e.1) as (λ b. q e.1 ≡ b → IsStrictlySortedBy listing_cmp (cond b (e.1 ∷ rest) rest)) [
        | true ↦ λ yes. (
          all_below e.1 yes es own.1 (subst (λ (s : AnswerSlot). AllByRecursion (λ k. slot_cmp s k ≡ Less) (keys_of es))
              (sym own.0) (sorted_head slot_cmp e.0 (keys_of es) sorted)),
          later,
        )
        | false ↦ λ _. later
      ] refl

-- each is below the next, and so none is less than the one before
sorted_listing : (rows : List AnswerRow) → IsStrictlySortedBy listing_cmp rows → IsSorted listing_cmp rows
sorted_listing rows strict k d _ inside =
    let less : listing_cmp (slice_index_or rows k d) (slice_index_or rows (k + 1) d) ≡ Less = Less-from_sorted
    listing_cmp rows k (k + 1) d strict (omega arith) inside in
    ap is_lt (listing_total.antisymm (slice_index_or rows (k + 1) d) (slice_index_or rows k d)
    ∙ ap ordering_reverse less)

module _ (store : MapStore) where
  abbrev rows : List AnswerRow
  rows = values_of store.answers.entries

  abbrev world : World
  world = world_of_maps store

  -- the world's answers that pass a test are the rows that pass it
  permuted : (p : AnswerRow → Bool) → IsPermutation (filter p (values world.answers)) (filter p rows)
  permuted p =
      let made = made_of answer_total same_answer_keys p (map answer_entry store.answers.entries)
      (keys_new store.answers.entries (each_new store.answers.entries store.answer_keys_distinct)) in
      IsPermutation-sym (filter p rows) (filter p (values world.answers))
      (subst (λ (xs : List AnswerRow). IsPermutation (filter p xs) (filter p (values world.answers)))
      (values_in store.answers.entries) made)

  -- the rows of one round that pass are the listing
  pub listed : (p : AnswerRow → Bool) (round : List ℕ) → ((row : AnswerRow) → p row ≡ true → row.key.round ≡ round)
      → IsStrictlySortedBy slot_cmp (keys_of store.answers.entries) → IsListing world p (filter p rows)
  listed p round one sorted = record {
    whole = permuted p;
    in_order = sorted_listing (filter p rows) (rows_strict p round one store.answers.entries
        (all_of_each slot_total (λ slot row. slot_of row ≡ slot) store.answers.entries sorted
        (λ slot row found. (store.answers_kept slot row found).own)) sorted);
  }

  -- those of a round, and an entrant's in it
  pub listed_in : (round : List ℕ) → IsStrictlySortedBy slot_cmp (keys_of store.answers.entries)
      → IsListing world (is_in round) (filter (is_in round) rows)
  listed_in round = listed (is_in round) round (λ row h. (text_decides row.key.round round).0 h)

  pub listed_between : (round : List ℕ) (after last : Option (List ℕ))
      → IsStrictlySortedBy slot_cmp (keys_of store.answers.entries) →
      IsListing world (is_between round after last) (filter (is_between round after last) rows)
  listed_between round after last = listed (is_between round after last) round
      (λ row h. (text_decides row.key.round round).0 (and_first (is_in round row)
      (is_after after row.key.entrant && is_up_to last row.key.entrant) h))

  pub listed_of : (entrant round : List ℕ) → IsStrictlySortedBy slot_cmp (keys_of store.answers.entries)
      → IsListing world (is_of entrant round) (filter (is_of entrant round) rows)
  listed_of entrant round = listed (is_of entrant round) round
      (λ row h. (text_decides row.key.round round).0 (and_first (same_text row.key.round round)
      (same_text row.key.entrant entrant) h))

  -- the rows to one puzzle are as many as the rules count
  pub counted : (entrant round : List ℕ) (number : ℕ) → count_by
      (λ row. agree Puzzle (slot_of row) (first_slot round entrant number)) rows ≡ answers_given world entrant round
      number
  counted entrant round number =
      let ours : AnswerRow → Bool = λ row. agree Puzzle (slot_of row) (first_slot round entrant number) in
      let theirs : AnswerRow → Bool = λ row. same_text row.key.entrant entrant &&
      (same_text row.key.round round && (row.key.number == number)) in
      sym (length-filter ours rows)
      ∙ length_permutation (filter ours (values world.answers)) (filter ours rows) (permuted ours)
      ∙ ap length (filter_agree ours theirs (λ row. grouped (same_text row.key.round round)
      (same_text row.key.entrant entrant) (row.key.number == number)) (values world.answers))
      ∙ length-filter theirs (values world.answers)

  -- what stands in a slot is the world's under its key
  kept_in_world : (slot : AnswerSlot) (row : AnswerRow) → lookup (is_at (slot_cmp slot)) store.answers.entries ≡ Some
      row → get world.answers row.key ≡ Some row
  kept_in_world slot row found = get_found answer_total (map answer_entry store.answers.entries) row.key
      ∙ kept_found store.answers.entries (each_new store.answers.entries store.answer_keys_distinct) slot row found

  module _ (slot : AnswerSlot) where
    abbrev key_with : List ℕ → AnswerKey
    key_with token = record { entrant = slot.entrant; round = slot.round; number = slot.number; token = token }

    -- the answer in a slot
    in_slot : (row : AnswerRow) → lookup (is_at (slot_cmp slot)) store.answers.entries ≡ Some row
        → (get world.answers (key_with row.key.token) ≡ Some row) × (row.n ≡ slot.n)
    in_slot row found =
        let own : slot_of row ≡ slot = (store.answers_kept slot row found).own in
        let key : row.key ≡ key_with row.key.token = λ i. record {
          entrant = (own i).entrant;
          round = (own i).round;
          number = (own i).number;
          token = row.key.token;
        } in (
          subst (λ (k : AnswerKey). get world.answers k ≡ Some row) key (kept_in_world slot row found),
          ap
              (λ (s : AnswerSlot). s.n) own,
        )

    -- a slot is taken exactly where an answer of the entrant to the puzzle has the n
    pub number_taken : IsStrictlySortedBy slot_cmp (keys_of store.answers.entries) → (taken : Bool)
        → taken ≡ is_some (lookup (is_at (slot_cmp slot)) store.answers.entries) →
        IsTrue taken ↔ IsNumberTaken world slot.entrant slot.round slot.number slot.n
    number_taken sorted taken is = (
      (λ yes. elim (lookup (is_at (slot_cmp slot)) store.answers.entries) as
          (λ (o : Option AnswerRow). lookup (is_at (slot_cmp slot)) store.answers.entries ≡ o → is_some o ≡ true →
          IsNumberTaken world slot.entrant slot.round slot.number slot.n) [
            | None ↦ λ _ h. absurd (let no : false ≡ true = h in cc)
            | Some row ↦ λ found _. let at = in_slot row found in (row.key.token, row, at.0, at.1)
          ] refl (sym is ∙ yes)),
      (λ h.
          let es : List (AnswerSlot × AnswerRow) = store.answers.entries in
          let found : lookup (is_at (answer_cmp (key_with h.0))) (map answer_entry es) ≡ Some h.1 = sym
          (get_found answer_total (map answer_entry es) (key_with h.0)) ∙ h.2 in
          let at = found_kept es (key_with h.0) h.1 found in
          let there : lookup (is_at (slot_cmp at.0)) es ≡ Some h.1 =
          lookup-from_Contains (eq_by_cmp_equiv slot_total) at.0 h.1 es
          (IsDistinct-from_sorted slot_cmp (keys_of es) sorted) (contained es (at.0, h.1) at.1 at.2) in
          let key : key_with h.0 ≡ h.1.key = at.3 in
          let own : slot ≡ slot_of h.1 = λ i. record {
            round = (key i).round;
            entrant = (key i).entrant;
            number =
                (key i).number;
            n = sym h.3 i;
          } in
          is ∙ ap (λ (s : AnswerSlot). is_some (lookup (is_at (slot_cmp s)) es))
          (own ∙ (store.answers_kept at.0 h.1 there).own) ∙ ap is_some there),
    )

  -- the slot of an answer that may be added is free, and its key is new
  module _ (slot : AnswerSlot) (row : AnswerRow) (own : slot_of row ≡ slot) (can : CanAddAnswer world row) where
    pub slot_free : lookup (is_at (slot_cmp slot)) store.answers.entries ≡ None
    slot_free = elim (lookup (is_at (slot_cmp slot)) store.answers.entries) as
        (λ (o : Option AnswerRow). lookup (is_at (slot_cmp slot)) store.answers.entries ≡ o → o ≡ None) [
          | None ↦ λ _. refl
          | Some other ↦ λ found.
              let at = in_slot (slot_of row) other (subst (λ (s : AnswerSlot). lookup (is_at (slot_cmp s))
              store.answers.entries ≡ Some other) (sym own) found) in
              absurd (can.next other.key.token other at.0 at.1)
        ] refl

    pub key_fresh : lookup (is_at (answer_cmp row.key)) (map answer_entry store.answers.entries) ≡ None
    key_fresh = sym (get_found answer_total (map answer_entry store.answers.entries) row.key) ∙ can.fresh

  -- a row is the entrant's in the round exactly where an answer is
  pub submitted : IsStrictlySortedBy slot_cmp (keys_of store.answers.entries) → (entrant round : List ℕ) (has : Bool) →
      (IsTrue has ↔ HasAny (filter (λ row. agree Entrant (slot_of row) (first_slot round entrant 1))
      (values_of store.answers.entries))) →
      IsTrue has ↔ HasSubmitted world entrant round
  submitted sorted entrant round has is =
      let es : List (AnswerSlot × AnswerRow) = store.answers.entries in
      let first : AnswerSlot = first_slot round entrant 1 in
      let ours : AnswerRow → Bool = λ row. agree Entrant (slot_of row) first in
      let key : ℕ → List ℕ → AnswerKey = λ number token. record {
        entrant = entrant;
        round = round;
        number = number;
        token = token;
      } in (
        (λ yes.
            let at = is.0 yes in
            let row : AnswerRow = at.0 in
            let kept = filter-Contains ours (values_of es) row at.1 in
            let one : row.key.round ≡ round = (text_decides row.key.round round).0
            (and_first (same_text row.key.round round) (same_text row.key.entrant entrant) kept.1) in
            let other : row.key.entrant ≡ entrant = (text_decides row.key.entrant entrant).0
            (and_second (same_text row.key.round round) (same_text row.key.entrant entrant) kept.1) in
            let entry = Contains-from_values_of es row kept.0 in
            let found : lookup (is_at (slot_cmp entry.0)) es ≡ Some row =
            lookup-from_Contains (eq_by_cmp_equiv slot_total) entry.0 row es
            (IsDistinct-from_sorted slot_cmp (keys_of es) sorted) entry.1 in
            let own : row.key ≡ key row.key.number row.key.token = λ i.
            record { entrant = other i; round = one i; number = row.key.number; token = row.key.token } in (
              row.key.number,
              row.key.token,
              row,
              subst (λ (k : AnswerKey). get world.answers k ≡ Some row) own
                  (kept_in_world entry.0 row found),
            )),
        (λ h.
            let found : lookup (is_at (answer_cmp (key h.0 h.1))) (map answer_entry es) ≡ Some h.2 = sym
            (get_found answer_total (map answer_entry es) (key h.0 h.1)) ∙ h.3 in
            let at = found_kept es (key h.0 h.1) h.2 found in
            let own : key h.0 h.1 ≡ h.2.key = at.3 in
            let passes : ours h.2 ≡ true = ap (λ (k : AnswerKey). same_text k.round round && same_text k.entrant
            entrant) (sym own)
            ∙ and_both (same_text round round) (same_text entrant entrant) ((text_decides round round).1 refl)
            ((text_decides entrant entrant).1 refl) in
            is.1 (
              h.2,
              Contains-filter ours (values_of es) h.2
                  (Contains-values_of es at.0 h.2 (contained es (at.0, h.2) at.1 at.2)) passes,
            )),
      )
