-- What stands among others in a list, and the requests of one connection among those of all.
use Rattle.std.proofs.Common.{◌≡◌, ◌⊎◌, ap, refl, subst, sym, inl, inr, ℕ, zero, suc, ◌==◌, ◌<◌, List, [], ◌∷◌, ◌++◌}
use Rattle.std.proofs.Common.{length, get_or, arith}
use Rattle.std.specs.Prelude.{Bool, true, false, Contains, filter, cond}
use Rattle.std.proofs.lemmas.Bool.{eqb-true}
use Rattle.std.proofs.lemmas.List.Elements.{Contains-append_left, Contains-append_right, Contains-push}
use Rattle.hall_http.specs.Connection.{Exchange}
use Rattle.hall_http.specs.Turns.{Turn, exchanges_of, of}

-- it stands in the list, between others
abbrev pub Has : {X : Type 0} → List X → X → Type 0
Has {X} xs x = (front : List X) × (rest : List X) × (xs ≡ front ++ x ∷ rest)

-- what stands in two lists, one after the other, stands in the first of them; or in the second, after these of it
abbrev pub IsInEither : {X : Type 0} → List X → List X → List X → X → List X → Type 0
IsInEither {X} first second before x after =
    ((rest : List X) × (first ≡ before ++ x ∷ rest) × (after ≡ rest ++ second))
    ⊎ ((front : List X) × (before ≡ first ++ front) × (second ≡ front ++ x ∷ after))

pub in_either : {X : Type 0} (first second before : List X) (x : X) (after : List X)
    → first ++ second ≡ before ++ x ∷ after → IsInEither first second before x after
in_either [] second before x after is = inr (before, refl, is)
in_either (a ∷ first) second [] x after is =
    let same : a ≡ x = cc in
    let rest : after ≡ first ++ second = cc in
    inl (first, ap (λ b. b ∷ first) same, rest)
in_either (a ∷ first) second (b ∷ before) x after is =
    let same : a ≡ b = cc in
    let rest : first ++ second ≡ before ++ x ∷ after = cc in
    elim (in_either first second before x after rest) [
      | inl (left, front, tail) ↦ inl (left, λ i. same i ∷ front i, tail)
      | inr (front, cut, later) ↦ inr (front, λ i. sym same i ∷ cut i, later)
    ]

has_later : {X : Type 0} (y : X) (xs : List X) (x : X) → Has xs x → Has (y ∷ xs) x
has_later y xs x (front, rest, all) = (y ∷ front, rest, ap (λ ys. y ∷ ys) all)

found : {X : Type 0} (xs : List X) (x : X) (k : ℕ) → k < length xs → get_or xs k x ≡ x → Has xs x
found [] x k few at = absurd (omega arith)
found (y ∷ xs) x zero few at = ([], xs, ap (λ z. z ∷ xs) at)
found (y ∷ xs) x (suc k) few at = has_later y xs x (found xs x k (omega arith) at)

pub has_contained : {X : Type 0} (xs : List X) (x : X) → Contains xs x → Has xs x
has_contained xs x (k, few, at) = found xs x k few at

pub contains_between : {X : Type 0} (xs front : List X) (x : X) (rest : List X) → xs ≡ front ++ x ∷ rest
    → Contains xs x
contains_between xs front x rest all =
    subst (λ ys. Contains ys x) (sym all) (Contains-append_right front (x ∷ rest) x
    (Contains-append_left (x ∷ []) rest x (Contains-push [] x)))

-- a request of one connection is one of all, with its number
module _ (n : ℕ) where
  abbrev after_one : Turn → List Turn → Bool → List Exchange
  after_one turn turns b =
      exchanges_of (cond b (turn ∷ filter (λ (it : Turn). it.0 == n) turns) (filter (λ (it : Turn). it.0 == n) turns))

  first_or_later : (turn : Turn) (turns : List Turn) (x : Exchange) (b : Bool) → (turn.0 == n) ≡ b
      → ((x : Exchange) → Has (of n turns) x → Has turns (n, x)) → Has (after_one turn turns b) x
      → Has (turn ∷ turns) (n, x)
  first_or_later turn turns x false other later has = has_later turn turns (n, x) (later x has)
  first_or_later turn turns x true same later ([], rest, all) =
      let number : turn.0 ≡ n = eqb-true _ _ same in
      let one : turn.1 ≡ x = cc in
      ([], turns, λ i. (number i, one i) ∷ turns)
  first_or_later turn turns x true same later (y ∷ front, rest, all) =
      let more : of n turns ≡ front ++ x ∷ rest = cc in
      has_later turn turns (n, x) (later x (front, rest, more))

  pub own : (turns : List Turn) (x : Exchange) → Has (of n turns) x → Has turns (n, x)
  own [] x ([], rest, all) = absurd cc
  own [] x (y ∷ front, rest, all) = absurd cc
  own (turn ∷ turns) x has = first_or_later turn turns x (turn.0 == n) refl (own turns) has
