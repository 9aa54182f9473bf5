-- On lists in which no item is like a later one.
use Rattle.std.proofs.Common.{◌≡◌, ◌⊎◌, ◌↔◌, ℕ, ◌+◌, ◌<◌, ◌≤◌, Bool, true, false, not, ◌||◌, IsTrue, List, length, take}
use Rattle.std.proofs.Common.{slice_get, slice_index_or, Some, Any, Contains, AllPairs, arith, refl, sym, ◌∙◌, ap}
use Rattle.std.proofs.Common.{subst, inl, inr, below_more, length-take}
use Rattle.std.proofs.lemmas.List.{get_or-take, get_or_default}
use Rattle.std.proofs.lemmas.Option.{slice_get-get_or, get_or_from_slice_get}
use Rattle.std.proofs.lemmas.Bool.{false≢true}
use Rattle.std.proofs.lemmas.Cmp.{tied_itself}
use Rattle.std.specs.Ordering.{is_eq}
use Rattle.std.specs.declared.cmp.Ordering.{Ordering}
use Rattle.std.specs.declared.cmp.Ordering.TheVariants.{Less, Equal, Greater}
use Rattle.std.specs.BTreeSet.{BTreeSet, contains}
use Rattle.hall_policy.specs.Text.{text_cmp}
use Rattle.hall_policy.specs.Lists.{IsSeenToo}
use Rattle.hall_policy.proofs.Orders.{text_total, same_texts}

-- a list contains an item where one of its items is it
pub any_contained : {X : Type 0} (xs : List X) (x : X) → Contains xs x → Any (λ y. y ≡ x) xs
any_contained xs x h = (h.0, x, h.1, h.2, refl)

pub contained_any : {X : Type 0} (xs : List X) (x : X) → Any (λ y. y ≡ x) xs → Contains xs x
contained_any xs x h = subst (Contains xs) h.4 (h.0, h.2, h.3)

-- an item that clashes with an earlier one
pub clash_found : {X : Type 0} (C : X → X → Type 0) (xs : List X) (i : ℕ) (x : X) → i < length xs
    → x ≡ slice_index_or xs i x → Any (λ y. C y x) (take i xs) → AllPairs (λ a b. ¬ (C a b)) xs → ⊥
clash_found C xs i x within is h none =
    let before : h.0 < i = omega (arith, length-take i xs) in
    let first : slice_index_or xs h.0 h.1 ≡ h.1 = sym (get_or-take i xs h.0 h.1 before) ∙ h.3 in
    let second : slice_index_or xs i h.1 ≡ x = get_or_default xs i h.1 x within ∙ sym is in
    none h.0 i h.1 before within (subst (λ y. C y (slice_index_or xs i h.1)) (sym first)
    (subst (λ y. C h.1 y) (sym second) h.4))

-- one more item that clashes with no earlier one
pub none_more : {X : Type 0} (C : X → X → Type 0) (xs : List X) (i : ℕ) (x : X) → i < length xs
    → x ≡ slice_index_or xs i x → ¬ (Any (λ y. C y x) (take i xs)) →
    ((j k : ℕ) (d : X) → j < k → k < i → ¬ (C (slice_index_or xs j d) (slice_index_or xs k d))) →
    (j k : ℕ) (d : X) → j < k → k < i + 1 → ¬ (C (slice_index_or xs j d) (slice_index_or xs k d))
none_more {X} C xs i x within is none so_far j k d before last =
    below_more (λ m. (n : ℕ) (e : X) → n < m → ¬ (C (slice_index_or xs n e) (slice_index_or xs m e))) i
    (λ m l n e b. so_far n m e b l) (λ n e b clash.
    let y : X = slice_index_or xs n e in
    none (
      n,
      y,
      omega (arith, length-take i xs),
      get_or-take i xs n y b ∙ get_or_default xs n y e (omega arith),
      subst (λ z. C y z) (get_or_default xs i e x within ∙ sym is) clash,
    )) k last j d before

equal_by_test : (r : Ordering) → is_eq r ≡ true → r ≡ Equal
equal_by_test Less h = cc
equal_by_test Equal h = refl
equal_by_test Greater h = cc

or_first : (a b : Bool) → a ≡ true → (a || b) ≡ true
or_first true b h = refl
or_first false b h = cc

or_second : (a b : Bool) → b ≡ true → (a || b) ≡ true
or_second true b h = refl
or_second false b h = h

or_cases : (a b : Bool) → (a || b) ≡ true → (a ≡ true) ⊎ (b ≡ true)
or_cases true b h = inl refl
or_cases false b h = inr h

not_true : (b : Bool) → not b ≡ false → b ≡ true
not_true true h = refl
not_true false h = cc

not_false : (b : Bool) → not b ≡ true → b ≡ false
not_false true h = cc
not_false false h = refl

-- the item that a loop is at
pub item_at : {X : Type 0} (xs : List X) (i : ℕ) (x : X) → i < length xs → x ≡ slice_index_or xs i x
    → slice_get xs i ≡ Some x
item_at xs i x within is = slice_get-get_or xs i x within ∙ ap Some (sym is)

module _ {X : Type 0} (text : X → List ℕ) where
  -- an item before place i has the text
  abbrev pub IsBefore : List X → ℕ → List ℕ → Type 0
  IsBefore xs i q = (j : ℕ) × (x : X) × (j < i) × (slice_get xs j ≡ Some x) × (text x ≡ q)

  -- the set holds the texts of the items before place i, and these differ
  pub record AreSeen (xs : List X) (i : ℕ) (seen : BTreeSet (List ℕ)) : Type 0 where
    pub texts : (q : List ℕ) → IsTrue (contains text_cmp seen q) ↔ IsBefore xs i q
    pub differ : (j k : ℕ) (a b : X) → j < k → k < i → slice_get xs j ≡ Some a → slice_get xs k ≡ Some b
        → ¬ (text a ≡ text b)

  -- one more text, which is new
  pub one_more : (xs : List X) (i : ℕ) (x : X) (before after : BTreeSet (List ℕ)) → slice_get xs i ≡ Some x
      → AreSeen xs i before →
      not (contains text_cmp before (text x)) ≡ true → IsSeenToo before after (text x) → AreSeen xs (i + 1) after
  one_more xs i x before after here seen new too = record {
    texts = λ q. (
      λ t. elim (or_cases (is_eq (text_cmp (text x) q)) (contains text_cmp before q) (sym (too q) ∙ t)) [
        | inl same ↦ (i, x, omega arith, here, same_texts (text x) q (equal_by_test (text_cmp (text x) q) same))
        | inr old ↦ let b = (seen.texts q).0 old in (b.0, b.1, omega (arith, b.2), b.3, b.4)
      ],
      λ b. too q ∙ below_more (λ (j : ℕ). slice_get xs j ≡ Some b.1
          → (is_eq (text_cmp (text x) q) || contains text_cmp before q) ≡ true) i
          (λ j less at. or_second (is_eq (text_cmp (text x) q)) (contains text_cmp before q)
          ((seen.texts q).1 (j, b.1, less, at, b.4)))
          (λ at. let one : x ≡ b.1 = cc in or_first (is_eq (text_cmp (text x) q)) (contains text_cmp before q)
          (ap is_eq (subst (λ (r : List ℕ). text_cmp (text x) r ≡ Equal) (ap text one ∙ b.4)
          (tied_itself text_total (text x)))))
          b.0 b.2 b.3,
    );
    differ = λ j k a b less last at later.
        below_more (λ (m : ℕ). (n : ℕ) (y : X) → n < m → slice_get xs n ≡ Some y → slice_get xs m ≡ Some b
        → ¬ (text y ≡ text b)) i
        (λ m lm n y ln e f. seen.differ n m y b ln lm e f)
        (λ n y ln e f same.
        let one : x ≡ b = cc in
        let found : contains text_cmp before (text x) ≡ true = (seen.texts (text x)).1
        (n, y, ln, e, same ∙ ap text (sym one)) in
        false≢true (sym (not_false (contains text_cmp before (text x)) new) ∙ found))
        k last j a less at later;
  }

  -- a text that was seen stands twice
  pub seen_twice : (xs : List X) (i : ℕ) (x : X) (before : BTreeSet (List ℕ)) → slice_get xs i ≡ Some x → i < length xs
      → AreSeen xs i before →
      not (contains text_cmp before (text x)) ≡ false → ¬ (AllPairs (λ a b. ¬ (text a ≡ text b)) xs)
  seen_twice xs i x before here within seen old none =
      let b = (seen.texts (text x)).0 (not_true (contains text_cmp before (text x)) old) in
      none b.0 i x b.2 within (ap text (get_or_from_slice_get xs b.0 b.1 x b.3) ∙ b.4
      ∙ ap text (sym (get_or_from_slice_get xs i x x here)))

  pub all_differ : (xs : List X) (i : ℕ) (seen : BTreeSet (List ℕ)) → length xs ≤ i → AreSeen xs i seen
      → AllPairs (λ a b. ¬ (text a ≡ text b)) xs
  all_differ xs i seen whole are j k d less last =
      are.differ j k (slice_index_or xs j d) (slice_index_or xs k d) less (omega (arith, last))
      (slice_get-get_or xs j d (omega (arith, less, last))) (slice_get-get_or xs k d last)
