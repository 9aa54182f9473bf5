-- What the parameters take of an ASCII path is ASCII, and the code finds the first three of them.
use Rattle.std.proofs.Common.{◌≡◌, ℕ, zero, suc, List, [], ◌∷◌, take, drop, length, ◌-◌, Bool, true, false, ◌&&◌, refl}
use Rattle.std.proofs.Common.{sym, subst, cond, arith}
use Rattle.std.specs.Prelude.{leb}
use Rattle.std.specs.List.{list_all}
use Rattle.std.specs.Char.{is_ascii}
use Rattle.std.specs.Str.{IsAscii}
use Rattle.std.proofs.lemmas.Bool.{and_parts, ltb-true}
use Rattle.std.proofs.lemmas.Str.{IsUtf8-from_ascii}
use Rattle.matchit.specs.Params.{walk, part_of, Shows}
use Rattle.hall_http.specs.Routes.{part, parts_after, parts_of}
use Rattle.hall_http.specs.Parts.{AllAscii}

pub IsAscii-from_all : (xs : List ℕ) → list_all is_ascii xs ≡ true → IsAscii xs
IsAscii-from_all [] h i = omega arith
IsAscii-from_all (x ∷ xs) h zero = ltb-true x 128 (and_parts (is_ascii x) (list_all is_ascii xs) h).0
IsAscii-from_all (x ∷ xs) h (suc i) = IsAscii-from_all xs (and_parts (is_ascii x) (list_all is_ascii xs) h).1 i

IsAscii-nil : IsAscii []
IsAscii-nil i = omega arith

IsAscii-take : (n : ℕ) (xs : List ℕ) → IsAscii xs → IsAscii (take n xs)
IsAscii-take zero xs h i = omega arith
IsAscii-take (suc n) [] h i = omega arith
IsAscii-take (suc n) (x ∷ xs) h zero = h 0
IsAscii-take (suc n) (x ∷ xs) h (suc i) = IsAscii-take n xs (λ j. h (suc j)) i

IsAscii-drop : (n : ℕ) (xs : List ℕ) → IsAscii xs → IsAscii (drop n xs)
IsAscii-drop zero xs h = h
IsAscii-drop (suc n) [] h = h
IsAscii-drop (suc n) (x ∷ xs) h = IsAscii-drop n xs (λ j. h (suc j))

IsAscii-cond : (b : Bool) (xs : List ℕ) → IsAscii xs → IsAscii (cond b xs [])
IsAscii-cond true xs h = h
IsAscii-cond false xs h = IsAscii-nil

-- what stands between two places of an ASCII path is ASCII
IsAscii-part : (path : List ℕ) (start end : ℕ) → IsAscii path → IsAscii (part_of path start end)
IsAscii-part path start end h =
    IsAscii-cond (leb start end && leb end (length path)) (take (end - start) (drop start path))
    (IsAscii-take (end - start) (drop start path) (IsAscii-drop start path h))

pub all_ascii : (pattern text path : List ℕ) (names : List (ℕ × ℕ)) (token at : ℕ) → IsAscii path
    → AllAscii (walk pattern text path names token at)
all_ascii pattern text path [] token at h = tt
all_ascii pattern text path (name ∷ rest) token at h = (IsAscii-part path _ _ h, all_ascii pattern text path rest _ _ h)

-- the first of these parameters was taken, and its texts lent
abbrev pub Took : List (List ℕ × List ℕ) → List (List ℕ × List ℕ) → List ℕ × List ℕ → Type 0
Took s t a = (p : List ℕ × List ℕ) × (s ≡ p ∷ t) × Shows p.0 a.0 × Shows p.1 a.1

taken : (s t : List (List ℕ × List ℕ)) (a : List ℕ × List ℕ) → Took s t a → AllAscii s → (part s ≡ a.1)
    × (parts_after s ≡ t) × AllAscii t
taken s t a (p, is, key, shown) ascii =
    let all : AllAscii (p ∷ t) = subst AllAscii is ascii in
    (rw is (sym (shown (IsUtf8-from_ascii p.1 all.0))), rw is refl, all.1)

module _ (s t : List (List ℕ × List ℕ)) (a : List ℕ × List ℕ) (first : Took s t a) (ascii : AllAscii s) where
  pub one_part : t ≡ [] → record { first = a.1; second = []; third = [] } ≡ parts_of s
  one_part end = let x = taken s t a first ascii in rw (x.0, x.1, end) refl

  module _ (u : List (List ℕ × List ℕ)) (b : List ℕ × List ℕ) (second : Took t u b) where
    pub two_parts : u ≡ [] → record { first = a.1; second = b.1; third = [] } ≡ parts_of s
    two_parts end =
        let x = taken s t a first ascii in
        let y = taken t u b second x.2 in
        rw (x.0, x.1, y.0, y.1, end) refl

    pub three_parts : (v : List (List ℕ × List ℕ)) (c : List ℕ × List ℕ) → Took u v c
        → record { first = a.1; second = b.1; third = c.1 } ≡ parts_of s
    three_parts v c third =
        let x = taken s t a first ascii in
        let y = taken t u b second x.2 in
        let z = taken u v c third y.2 in
        rw (x.0, x.1, y.0, y.1, z.0) refl
