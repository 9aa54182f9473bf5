-- The requests of one connection among those of all, and who stands at which place.
use Rattle.std.proofs.Common.{◌≡◌, ◌≢◌, ◌⊎◌, ◌∙◌, sym, ap, refl, arith, ℕ, zero, suc, ◌+◌, ◌<◌, ◌≤◌, ◌==◌, inl, inr}
use Rattle.std.proofs.Common.{List, [], ◌∷◌, ◌++◌, length, map, get_or, Option, Some, None, true, false}
use Rattle.std.specs.Prelude.{Bool, All, slice_set, filter}
use Rattle.std.specs.Option.{is_some}
use Rattle.std.proofs.lemmas.Bool.{eqb-true, eqb-false}
use Rattle.std.proofs.lemmas.List.{append-nil, get_or-set_same, get_or-set_other, get_or_past, map-append}
use Rattle.std.proofs.lemmas.List.Elements.{All-nil, All-cons, filter-append}
use Rattle.hall_http.specs.Connection.{Exchange}
use Rattle.hall_http.specs.Turns.{Turn, exchanges_of, of}

-- the requests of one connection
abbrev pub numbered : ℕ → List Exchange → List Turn
numbered n xs = map (λ x. (n, x)) xs

pub exchanges_numbered : (n : ℕ) (xs : List Exchange) → exchanges_of (numbered n xs) ≡ xs
exchanges_numbered n [] = refl
exchanges_numbered n (x ∷ xs) = ap (λ ys. x ∷ ys) (exchanges_numbered n xs)

pub of_append : (n : ℕ) (turns more : List Turn) → of n (turns ++ more) ≡ of n turns ++ of n more
of_append n turns more =
    ap exchanges_of (filter-append (λ (turn : Turn). turn.0 == n) turns more)
    ∙ map-append (λ (turn : Turn). turn.1) (filter (λ (turn : Turn). turn.0 == n) turns)
    (filter (λ (turn : Turn). turn.0 == n) more)

pub test_same : (n : ℕ) → (n == n) ≡ true
test_same n = grind arith

pub test_other : (m n : ℕ) → m ≢ n → (m == n) ≡ false
test_other m n other = grind (arith, other)

pub of_same : (n : ℕ) (xs : List Exchange) → of n (numbered n xs) ≡ xs
of_same n [] = refl
of_same n (x ∷ xs) = rw (test_same n) (ap (λ ys. x ∷ ys) (of_same n xs))

pub of_other : (m n : ℕ) (xs : List Exchange) → n ≢ m → of m (numbered n xs) ≡ []
of_other m n [] other = refl
of_other m n (x ∷ xs) other = rw (test_other n m other) (of_other m n xs other)

pub of_none : (n : ℕ) (turns : List Turn) → All (λ turn. turn.0 < n) turns → of n turns ≡ []
of_none n [] below = refl
of_none n (t ∷ ts) below =
    let first : t.0 < n = below 0 t (omega arith) in
    let other : t.0 ≢ n = λ same. omega arith in
    rw (test_other t.0 n other) (of_none n ts (λ i d inside. below (suc i) d (omega arith)))

pub own_more : (n : ℕ) (turns : List Turn) (more : List Exchange) → of n (turns ++ numbered n more) ≡ of n turns ++ more
own_more n turns more = of_append n turns (numbered n more) ∙ ap (λ s. of n turns ++ s) (of_same n more)

pub others_same : (m n : ℕ) (turns : List Turn) (more : List Exchange) → n ≢ m
    → of m (turns ++ numbered n more) ≡ of m turns
others_same m n turns more other =
    of_append m turns (numbered n more) ∙ ap (λ s. of m turns ++ s) (of_other m n more other) ∙ append-nil (of m turns)

pub known_more : (Holds : ℕ → Type 0) (n : ℕ) (xs : List Exchange) → Holds n
    → All (λ turn. Holds turn.0) (numbered n xs)
known_more Holds n [] holds = All-nil (λ (turn : Turn). Holds turn.0)
known_more Holds n (x ∷ xs) holds =
    All-cons (λ (turn : Turn). Holds turn.0) (n, x) (numbered n xs) holds (known_more Holds n xs holds)

-- within a list an element doesn't hang on what stands past its end
pub element : {X : Type 0} (xs : List X) (i : ℕ) (d e : X) → i < length xs → get_or xs i d ≡ get_or xs i e
element [] i d e inside = absurd (omega arith)
element (x ∷ xs) zero d e inside = refl
element (x ∷ xs) (suc i) d e inside = element xs i d e (omega arith)

pub not_some : {X : Type 0} (o : Option X) → false ≡ is_some o → o ≡ None
not_some (Some x) e = absurd cc
not_some None e = refl

pub some_of : {X : Type 0} (o : Option X) → is_some o ≡ true → (x : X) × (o ≡ Some x)
some_of (Some x) e = (x, refl)
some_of None e = absurd cc

pub read_at : {X : Type 0} (xs : List (Option X)) (i : ℕ) (o w : Option X) → i < length xs → o ≡ get_or xs i o → o ≡ w
    → get_or xs i None ≡ w
read_at xs i o w inside is same = element xs i None o inside ∙ sym is ∙ same

-- none stands anywhere, also where one more place is
pub empty_more : {X : Type 0} (xs : List (Option X)) → ((i : ℕ) → get_or xs i None ≡ None)
    → (i : ℕ) → get_or (xs ++ None ∷ []) i None ≡ None
empty_more [] empty zero = refl
empty_more [] empty (suc i) = refl
empty_more (x ∷ xs) empty zero = empty zero
empty_more (x ∷ xs) empty (suc i) = empty_more xs (λ j. empty (suc j)) i

pub empty_none : {X : Type 0} (i : ℕ) → get_or {A = Option X} [] i None ≡ None
empty_none i = refl

-- which client stands where, after a place was changed
module _ {X : Type 0} (xs : List (Option X)) (place : ℕ) (v : Option X) (inside : place < length xs) where
  pub by_test : (other : ℕ) (w : X) (b : Bool) → (other == place) ≡ b → get_or (slice_set xs place v) other None ≡ Some
      w
      → ((other ≡ place) × (v ≡ Some w)) ⊎ ((other ≢ place) × (get_or xs other None ≡ Some w))
  by_test other w true e at =
      let same : other ≡ place = eqb-true _ _ e in
      inl (same, sym (get_or-set_same xs place v None inside) ∙ (rw same at at))
  by_test other w false e at =
      let differs : other ≢ place = eqb-false _ _ e in
      inr (differs, sym (get_or-set_other xs place other v None differs) ∙ at)

  pub where_is : (other : ℕ) (w : X) → get_or (slice_set xs place v) other None ≡ Some w
      → ((other ≡ place) × (v ≡ Some w)) ⊎ ((other ≢ place) × (get_or xs other None ≡ Some w))
  where_is other w at = by_test other w (other == place) refl at

  pub is_there : get_or (slice_set xs place v) place None ≡ v
  is_there = get_or-set_same xs place v None inside

  pub is_still : (other : ℕ) → other ≢ place → get_or (slice_set xs place v) other None ≡ get_or xs other None
  is_still other differs = get_or-set_other xs place other v None differs

-- one place after another is freed: each is, or is one of those from a place on
abbrev pub AreFreed : {X : Type 0} → List (Option X) → ℕ → Type 0
AreFreed xs place = (i : ℕ) → (get_or xs i None ≡ None) ⊎ (place ≤ i)

module _ {X : Type 0} (xs ys : List (Option X)) (place : ℕ) (inside : place < length xs)
    (is : ys ≡ slice_set xs place None) (freed : AreFreed xs place) where
  freed_by : (i : ℕ) (b : Bool) → (i == place) ≡ b → (get_or ys i None ≡ None) ⊎ (place + 1 ≤ i)
  freed_by i true e =
      let same : i ≡ place = eqb-true _ _ e in
      inl (rw (is, same) (get_or-set_same xs place None None inside))
  freed_by i false e =
      let differs : i ≢ place = eqb-false _ _ e in
      elim (freed i) [
        | inl none ↦ inl (rw is (get_or-set_other xs place i None None differs ∙ none))
        | inr later ↦ inr (omega (arith, differs, later))
      ]

  pub freed_more : AreFreed ys (place + 1)
  freed_more i = freed_by i (i == place) refl

pub all_freed : {X : Type 0} (xs : List (Option X)) (place : ℕ) → length xs ≤ place → AreFreed xs place
    → (i : ℕ) → get_or xs i None ≡ None
all_freed xs place long freed i =
    elim (freed i) [
      | inl none ↦ none
      | inr later ↦ get_or_past xs i None (omega (arith, long, later))
    ]
