-- Bytes cut at a byte, in one way.
use Rattle.std.proofs.Common.{◌≡◌, ◌∙◌, sym, ap, refl, arith, ℕ, ◌+◌, ◌<◌, ◌≤◌, not, ◌==◌, true, List, [], ◌∷◌, ◌++◌}
use Rattle.std.proofs.Common.{length, take, drop, get_or, add-one, Some, None}
use Rattle.std.specs.List.{list_all, position}
use Rattle.std.proofs.lemmas.Bool.{and_parts, eq-eqb, eqb-true, not-true, not_from_false, true≢false}
use Rattle.std.proofs.lemmas.List.{take-append-drop, length-take, get_or-take}
use Rattle.std.proofs.lemmas.List.Sums.{list_all-from_AllPass, fails_before_first}
use Rattle.std.proofs.lemmas.List.Quantifiers.{position-Some}
use Rattle.std.proofs.Math.Seq.{drop-cons}
use Rattle.hall_grid.proofs.Fields.{position_past}

-- the byte doesn't stand in the text
abbrev pub Free : ℕ → List ℕ → Type 0
Free x text = list_all (λ y. not (y == x)) text ≡ true

differs : (x y : ℕ) → not (y == x) ≡ true → y ≡ x → ⊥
differs x y h e = let t = eq-eqb y x e in let f = not-true _ h in absurd (true≢false (sym t ∙ f))

-- a text is cut at the first such byte in one way
pub split_unique : (x : ℕ) (a b c d : List ℕ) → Free x a → Free x c → a ++ x ∷ b ≡ c ++ x ∷ d → (a ≡ c) × (b ≡ d)
split_unique x [] b [] d f g e = (refl, cc)
split_unique x [] b (z ∷ c) d f g e = absurd (differs x z (and_parts _ _ g).0 cc)
split_unique x (y ∷ a) b [] d f g e = absurd (differs x y (and_parts _ _ f).0 cc)
split_unique x (y ∷ a) b (z ∷ c) d f g e =
    let tails : a ++ x ∷ b ≡ c ++ x ∷ d = cc in
    let heads : y ≡ z = cc in
    let (first, rest) = split_unique x a b c d (and_parts _ _ f).1 (and_parts _ _ g).1 tails in (cc, rest)

-- a front without the byte ends where it stands, or before
pub free_front : (x : ℕ) (a more c d : List ℕ) → Free x a → a ++ more ≡ c ++ x ∷ d → length a ≤ length c
free_front x [] more c d f e = omega arith
free_front x (y ∷ a) more [] d f e = absurd (differs x y (and_parts _ _ f).0 cc)
free_front x (y ∷ a) more (z ∷ c) d f e =
    let tails : a ++ more ≡ c ++ x ∷ d = cc in
    let rest = free_front x a more c d (and_parts _ _ f).1 tails in omega arith

-- what is found where
pub found_free : (x : ℕ) (text : List ℕ) (i : ℕ) → position (λ y. y == x) text ≡ Some i → Free x (take i text)
found_free x text i e =
    list_all-from_AllPass (λ y. not (y == x)) (take i text) (λ k d inside.
    let before : k < i = omega (arith, length-take i text) in
    rw (get_or-take i text k d before) (not_from_false _ ((position-Some (λ y. y == x) text i d e).2 k before)))

pub found_split : (x : ℕ) (text : List ℕ) (i : ℕ) → position (λ y. y == x) text ≡ Some i
    → (i < length text) × (text ≡ take i text ++ x ∷ drop (i + 1) text)
found_split x text i e =
    let p = position-Some (λ y. y == x) text i 0 e in
    let inside : i < length text = p.0 in
    let here : get_or text i 0 ≡ x = eqb-true _ _ p.1 in (
      inside,
      sym (take-append-drop i text)
          ∙ ap (λ s. take i text ++ s) (drop-cons text i 0 inside ∙ rw (add-one, here) refl),
    )

pub found_none : (x : ℕ) (text : List ℕ) → position (λ y. y == x) text ≡ None → Free x text
found_none x text e =
    list_all-from_AllPass (λ y. not (y == x)) text (λ k d inside. not_from_false _
    (fails_before_first (λ y. y == x) text k d (let past = position_past (λ y. y == x) text e in omega arith)))
