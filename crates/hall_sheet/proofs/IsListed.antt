-- A person is added to the people so far, and a name or a key may stand twice.
use Rattle.std.proofs.Common.{◌≡◌, ◌∙◌, ◌⊎◌, ◌<◌, ℕ, suc, Bool, true, false, ◌||◌, List, [], ◌∷◌, ◌++◌, length, refl}
use Rattle.std.proofs.Common.{sym, subst, inl, inr, arith, AllPairs, slice_index_or, below_more, length-append}
use Rattle.std.specs.List.{list_any}
use Rattle.std.specs.Str.{bytes_eq}
use Rattle.std.proofs.lemmas.Bool.{false≢true}
use Rattle.std.proofs.lemmas.List.{get_or_append_left}
use Rattle.std.proofs.lemmas.List.Folds.{list_any_at}
use Rattle.std.proofs.lemmas.Slice.Eq.{bytes_eq-Decides}
use Rattle.hall_policy.specs.Limits.{most_people}
use Rattle.hall_policy.specs.Lists.{ArePeople, ArePeopleDifferent}
use Rattle.hall_policy.specs.declared.record.Person.{Person}

-- the two have one name or one key
abbrev pub are_one : Person → Person → Bool
are_one p person = bytes_eq p.name person.name || bytes_eq p.key person.key

abbrev OneOrOther : Person → Person → Type 0
OneOrOther a b = (a.name ≡ b.name) ⊎ (a.key ≡ b.key)

or_left : (a b : Bool) → a ≡ true → (a || b) ≡ true
or_left true b e = refl
or_left false b e = cc e

or_right : (a b : Bool) → b ≡ true → (a || b) ≡ true
or_right true b e = refl
or_right false b e = e

either_true : (a b : Bool) → (a || b) ≡ true → (a ≡ true) ⊎ (b ≡ true)
either_true true b e = inl refl
either_true false b e = inr e

ones_are : (a b : Person) → OneOrOther a b → are_one a b ≡ true
ones_are a b (inl name) = or_left (bytes_eq a.name b.name) (bytes_eq a.key b.key)
    ((bytes_eq-Decides a.name b.name).1 name)
ones_are a b (inr key) = or_right (bytes_eq a.name b.name) (bytes_eq a.key b.key) ((bytes_eq-Decides a.key b.key).1 key)

are_ones : (a b : Person) → are_one a b ≡ true → OneOrOther a b
are_ones a b e = elim (either_true (bytes_eq a.name b.name) (bytes_eq a.key b.key) e) [
  | inl name ↦ inl ((bytes_eq-Decides a.name b.name).0 name)
  | inr key ↦ inr ((bytes_eq-Decides a.key b.key).0 key)
]

last_at : {X : Type 0} (xs : List X) (x d : X) → slice_index_or (xs ++ x ∷ []) (length xs) d ≡ x
last_at [] x d = refl
last_at (y ∷ xs) x d = last_at xs x d

-- one more item, to which each before it is related
pairs_more : {X : Type 0} (R : X → X → Type 0) (xs : List X) (x : X) → AllPairs R xs
    → ((i : ℕ) (d : X) → i < length xs → R (slice_index_or xs i d) x) → AllPairs R (xs ++ x ∷ [])
pairs_more {X} R xs x pairs last i j d less low =
    below_more (λ (m : ℕ). (n : ℕ) → n < m → R (slice_index_or (xs ++ x ∷ []) n d) (slice_index_or (xs ++ x ∷ []) m d))
    (length xs)
    (λ m lm n ln.
    subst (λ (y : X). R y (slice_index_or (xs ++ x ∷ []) m d))
    (sym (get_or_append_left xs (x ∷ []) d n (omega (arith, lm, ln))))
    (subst (λ (y : X). R (slice_index_or xs n d) y) (sym (get_or_append_left xs (x ∷ []) d m lm)) (pairs n m d ln lm)))
    (λ n ln.
    subst (λ (y : X). R y (slice_index_or (xs ++ x ∷ []) (length xs) d)) (sym (get_or_append_left xs (x ∷ []) d n ln))
    (subst (λ (y : X). R (slice_index_or xs n d) y) (sym (last_at xs x d)) (last n d ln)))
    j (omega (arith, low, length-append xs (x ∷ []))) i less

-- what relates all pairs relates those before the last
pairs_before : {X : Type 0} (R : X → X → Type 0) (xs : List X) (x : X) → AllPairs R (xs ++ x ∷ []) → AllPairs R xs
pairs_before {X} R xs x pairs i j d less low =
    subst (λ (y : X). R y (slice_index_or xs j d)) (get_or_append_left xs (x ∷ []) d i (omega (arith, less, low)))
    (subst (λ (y : X). R (slice_index_or (xs ++ x ∷ []) i d) y) (get_or_append_left xs (x ∷ []) d j low)
    (pairs i j d less (omega (arith, low, length-append xs (x ∷ [])))))

-- one more person, whose name and key are new
pub people_more : (people : List Person) (person : Person) → ArePeople people → length people < most_people
    → list_any (λ p. are_one p person) people ≡ false → ArePeople (people ++ person ∷ [])
people_more people person h low none = record {
  few = omega (arith, low, length-append people (person ∷ []));
  different = pairs_more (λ (a b : Person). ¬ (OneOrOther a b)) people person h.different
      (λ i d less clash. false≢true (sym none ∙ list_any_at (λ p. are_one p person) people i d less
      (ones_are (slice_index_or people i d) person clash)));
}

-- the people before the last
pub people_before : (people : List Person) (person : Person) → ArePeople (people ++ person ∷ []) → ArePeople people
people_before people person h = record {
  few = omega (arith, h.few, length-append people (person ∷ []));
  different = pairs_before (λ (a b : Person). ¬ (OneOrOther a b)) people person h.different;
}

-- a name or a key that stands before too
twice : (people : List Person) (person : Person) → list_any (λ p. are_one p person) people ≡ true
    → ArePeopleDifferent (people ++ person ∷ []) → ⊥
twice [] person some differ = cc some
twice (p ∷ people) person some differ = elim (either_true (are_one p person) (list_any (λ q. are_one q person) people)
    some) [
      | inl here ↦
          differ 0 (suc (length people)) p (omega arith) (omega (arith, length-append people (person ∷ [])))
          (subst (λ (y : Person). OneOrOther p y) (sym (last_at people person p)) (are_ones p person here))
      | inr there ↦
          twice people person there (λ i j d less low. differ (suc i) (suc j) d (omega (arith, less))
          (omega (arith, low)))
    ]

pub people_twice : (people : List Person) (person : Person) → list_any (λ p. are_one p person) people ≡ true
    → ArePeople (people ++ person ∷ []) → ⊥
people_twice people person some h = twice people person some h.different
