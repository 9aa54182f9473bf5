-- How many members a set has.
use Rattle.std.proofs.Common.{◌≡◌, ℕ, zero, suc, ◌+◌, ◌<◌, ◌≤◌, ◌⊎◌, ◌↔◌, ◌++◌, Bool, true, false, List, [], ◌∷◌}
use Rattle.std.proofs.Common.{length, get_or, refl, sym, ◌∙◌, subst, inl, inr, arith}
use Rattle.std.specs.Prelude.{Contains, nat_eq}
use Rattle.std.specs.List.{IsDistinct, list_any}
use Rattle.std.specs.Cmp.{nat_eq_equiv}
use Rattle.std.proofs.lemmas.Bool.{eqb-true, eq-eqb, cases_eq}
use Rattle.std.proofs.lemmas.List.{length_push, get_or_default}
use Rattle.std.proofs.lemmas.List.Elements.{Contains-append_left, Contains-push, Contains-push_cases, Contains-get_or}
use Rattle.std.proofs.lemmas.Map.Made.{length-le_from_is_member}
use Rattle.std.proofs.lemmas.Map.Keys.{IsDistinct-push, apart_from_distinct}
use Rattle.std.proofs.lemmas.Map.Steps.{length-le_from_distinct_below}
use Rattle.std.proofs.lemmas.Map.Views.{list_any-from_Contains, Contains-from_any}
use Rattle.hall_grid.specs.Nurikabe.{Lists}
use Rattle.hall_nurikabe.specs.Counts.{HasCount}

pub member_of : (xs : List ℕ) (q : ℕ) → list_any (nat_eq q) xs ≡ true → Contains xs q
member_of xs q h = Contains-from_any eqb-true q xs h

Lists-shorter : (P Q : ℕ → Type 0) (xs ys : List ℕ) → ((x : ℕ) → P x → Q x) → Lists xs P → Lists ys Q
    → length xs ≤ length ys
Lists-shorter P Q xs ys within a b =
    length-le_from_is_member nat_eq_equiv xs ys a.distinct
    (λ q h. list_any-from_Contains nat_eq_equiv q ys ((b.each q).1 (within q ((a.each q).0 (member_of xs q h)))))

-- two lists of one set are equally long
pub same_length : (P Q : ℕ → Type 0) (xs ys : List ℕ) → ((x : ℕ) → P x ↔ Q x) → Lists xs P → Lists ys Q
    → length xs ≡ length ys
same_length P Q xs ys same a b =
    let p = Lists-shorter P Q xs ys (λ x. (same x).0) a b in
    let q = Lists-shorter Q P ys xs (λ x. (same x).1) b a in
    omega arith

pub Lists-same : (P Q : ℕ → Type 0) (xs : List ℕ) → ((x : ℕ) → P x ↔ Q x) → Lists xs P → Lists xs Q
Lists-same P Q xs same a = record {
  distinct = a.distinct;
  each = λ x. ((λ h. (same x).0 ((a.each x).0 h)), (λ h. (a.each x).1 ((same x).1 h)));
}

nothing_distinct : IsDistinct nat_eq []
unfolding IsDistinct
nothing_distinct = tt

pub HasCount-none : (P : ℕ → Type 0) → ((x : ℕ) → P x → ⊥) → HasCount P 0
HasCount-none P none = (
  [],
  record {
    distinct = nothing_distinct;
    each = λ x. (
      (λ h. absurd (let low = h.1 in omega arith)),
      (λ h. absurd (none x h)),
    );
  },
  refl,
)

pub HasCount-same : (P Q : ℕ → Type 0) (n : ℕ) → ((x : ℕ) → P x ↔ Q x) → HasCount P n → HasCount Q n
HasCount-same P Q n same (xs, lists, e) = (xs, Lists-same P Q xs same lists, e)

not_true : (b : Bool) → (b ≡ true → ⊥) → b ≡ false
not_true true h = absurd (h refl)
not_true false h = refl

-- one more member
pub Lists-push : (P Q : ℕ → Type 0) (xs : List ℕ) (k : ℕ) → (P k → ⊥) → ((x : ℕ) → Q x ↔ (P x ⊎ (x ≡ k))) → Lists xs P
    → Lists (xs ++ k ∷ []) Q
Lists-push P Q xs k fresh more lists = record {
  distinct = IsDistinct-push nat_eq_equiv xs k lists.distinct
      (not_true _ (λ h. fresh ((lists.each k).0 (member_of xs k h))));
  each = λ x. (
    (λ h. elim (Contains-push_cases xs k x h) [
      | inl m ↦ (more x).1 (inl ((lists.each x).0 m))
      | inr m ↦ (more x).1
          (inr (sym m))
    ]),
    (λ h. elim ((more x).0 h) [
      | inl m ↦ Contains-append_left xs (k ∷ []) x ((lists.each x).1 m)
      | inr m ↦ subst (λ y. Contains (xs ++ k ∷ []) y) (sym m) (Contains-push xs k)
    ]),
  );
}

pub HasCount-more : (P Q : ℕ → Type 0) (n k : ℕ) → (P k → ⊥) → ((x : ℕ) → Q x ↔ (P x ⊎ (x ≡ k))) → HasCount P n
    → HasCount Q (n + 1)
HasCount-more P Q n k fresh more (xs, lists, e) = (
  xs ++ k ∷ [],
  Lists-push P Q xs k fresh more lists,
  let p =
      length_push xs k in omega arith,
)

pub Lists-none : (P : ℕ → Type 0) → ((x : ℕ) → P x → ⊥) → Lists [] P
Lists-none P none =
    record {
      distinct = nothing_distinct;
      each = λ x. (
        (λ h. absurd (let low = h.1 in omega arith)),
        (λ h. absurd (none x h)),
      );
    }

-- numbers below an end are at most as many
pub HasCount-bound : (P : ℕ → Type 0) (n end : ℕ) → ((x : ℕ) → P x → x < end) → HasCount P n → n ≤ end
HasCount-bound P n end low (xs, lists, e) =
    let p = length-le_from_distinct_below xs end lists.distinct (λ q h. low q ((lists.each q).0 (member_of xs q h))) in
    omega arith

-- a set with no members
pub HasCount-empty : (P : ℕ → Type 0) (x : ℕ) → HasCount P 0 → P x → ⊥
HasCount-empty P x (xs, lists, e) h = let low = ((lists.each x).1 h).1 in omega arith

pub HasCount-some : (P : ℕ → Type 0) (n : ℕ) → 0 < n → HasCount P n → (x : ℕ) × P x
HasCount-some P n h (xs, lists, e) = (
  get_or xs 0 0,
  (lists.each (get_or xs 0 0)).0
      (Contains-get_or xs 0 0 (omega arith)),
)

-- a set with two members
pub HasCount-two : (P : ℕ → Type 0) (n : ℕ) → 1 < n → HasCount P n → (x y : ℕ) × P x × P y × (x ≡ y → ⊥)
HasCount-two P n h (xs, lists, e) = (
  get_or xs 0 0,
  get_or xs 1 0,
  (lists.each (get_or xs 0 0)).0 (Contains-get_or xs 0 0 (omega arith)),
  (lists.each (get_or xs 1 0)).0 (Contains-get_or xs 1 0 (omega arith)),
  (λ same.
      let apart : nat_eq (get_or xs 0 0) (get_or xs 1 0) ≡ false = apart_from_distinct nat_eq xs 0 1 0 lists.distinct
      (omega arith) (omega arith) in
      let yes : nat_eq (get_or xs 0 0) (get_or xs 1 0) ≡ true = eq-eqb _ _ same in
      absurd (cc)),
)

pub two_HasCount : (P : ℕ → Type 0) (n x y : ℕ) → (x ≡ y → ⊥) → P x → P y → HasCount P n → 1 < n
two_HasCount P n x y ne p q (xs, lists, e) =
    let i = (lists.each x).1 p in
    let j = (lists.each y).1 q in
    elim (cases_eq i.0 j.0) [
      | inl same ↦ absurd (ne (sym i.2 ∙ get_or_default xs i.0 x y i.1 ∙ subst (λ k. get_or xs k y ≡ y) (sym same) j.2))
      | inr other ↦ (let a = i.1 in let b = j.1 in omega arith)
    ]

-- a set within another has no more members
pub HasCount-within : (P Q : ℕ → Type 0) (m n : ℕ) → ((x : ℕ) → P x → Q x) → HasCount P m → HasCount Q n → m ≤ n
HasCount-within P Q m n within (xs, a, e) (ys, b, d) = let k = Lists-shorter P Q xs ys within a b in omega arith

-- a set within another that lacks one of its members has fewer
pub HasCount-lacks : (P Q : ℕ → Type 0) (m n k : ℕ) → ((x : ℕ) → P x → Q x) → Q k → (P k → ⊥) → HasCount P m
    → HasCount Q n → m + 1 ≤ n
HasCount-lacks P Q m n k within there lacks c d =
    HasCount-within (λ x. P x ⊎ (x ≡ k)) Q (m + 1) n
    (λ x h. elim h [ inl p ↦ within x p | inr e ↦ subst Q (sym e) there ])
    (HasCount-more P (λ x. P x ⊎ (x ≡ k)) m k lacks (λ x. ((λ h. h), (λ h. h))) c) d

count_below : (P : ℕ → Type 0) (n : ℕ) → ((m : ℕ) → HasCount (λ x. (x < n) × P x) m → ⊥) → ⊥
count_below P zero none = none 0 (HasCount-none (λ x. (x < 0) × P x) (λ x h. let low = h.0 in omega arith))
count_below P (suc n) none = count_below P n (λ m c.
    let out : P n → ⊥ = λ here. none (m + 1)
    (HasCount-more (λ x. (x < n) × P x) (λ x. (x < suc n) × P x) m n (λ h. let low = h.0 in omega arith)
    (λ x. (
      (λ h. elim (cases_eq x n) [ inl e ↦ inr e | inr ne ↦ inl (let low = h.0 in omega arith, h.1) ]),
      (λ h. elim h [ inl k ↦ (let low = k.0 in omega arith, k.1) | inr e ↦ (omega arith, subst P (sym e) here) ]),
    )) c) in
    none m (HasCount-same (λ x. (x < n) × P x) (λ x. (x < suc n) × P x) m
    (λ x. (
      (λ h. (let low = h.0 in omega arith, h.1)),
      (λ h. elim (cases_eq x n) [
        | inl e ↦ absurd (out (subst P e h.1))
        | inr ne ↦
            (let low = h.0 in omega arith, h.1)
      ]),
    )) c))

-- it can't be that a set of numbers below an end has no count
pub not_uncounted : (P : ℕ → Type 0) (n : ℕ) → ((x : ℕ) → P x → x < n) → ((m : ℕ) → HasCount P m → ⊥) → ⊥
not_uncounted P n low none =
    count_below P n (λ m c. none m (HasCount-same (λ x. (x < n) × P x) P m (λ x. ((λ h. h.1), (λ h. (low x h, h)))) c))
