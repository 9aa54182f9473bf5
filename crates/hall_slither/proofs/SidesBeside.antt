-- The sides that share a dot with a side.
use Rattle.std.proofs.Common.{◌≡◌, ℕ, zero, suc, ◌+◌, ◌-◌, ◌/◌, ◌%◌, ◌<◌, ◌≤◌, ◌⊎◌, true, eqb, List, [], ◌∷◌, Option}
use Rattle.std.proofs.Common.{Some, None, refl, sym, ap, ◌∙◌, subst, inl, inr, arith}
use Rattle.std.specs.Prelude.{Contains}
use Rattle.std.proofs.lemmas.Nat.{div_below, mod_below, mul-add-lt}
use Rattle.std.proofs.lemmas.Bool.{cases_lt, lt-ltb, le-ltb, eq-eqb, eqb-true, or_cases, or_left, or_right}
use Rattle.hall_grid.specs.declared.board.Size.{Size}
use Rattle.hall_grid.specs.Slither.{dot, dots, flat_sides, all_sides, ends, ends_of_flat, ends_of_upright, is_end}
use Rattle.hall_grid.specs.Slither.{ShareDot}
use Rattle.hall_slither.specs.Dot.{sides_at, dot_row, dot_col, side_up, side_left, side_right, side_down}
use Rattle.hall_slither.proofs.Degree.{Holds, ends_by, dot_within, sides_below, end_cases, end_from_up_side}
use Rattle.hall_slither.proofs.Degree.{end_from_left_side, end_from_right_side, end_from_down_side, right_from_end}
use Rattle.hall_slither.proofs.Degree.{left_from_end, down_from_end, up_from_end}

-- the side up, left, right or down from a dot
abbrev pub up_of : Size → ℕ → Option ℕ
up_of size d = side_up size (dot_row size d) (dot_col size d)

abbrev pub left_of : Size → ℕ → Option ℕ
left_of size d = side_left size (dot_row size d) (dot_col size d)

abbrev pub right_of : Size → ℕ → Option ℕ
right_of size d = side_right size (dot_row size d) (dot_col size d)

abbrev pub down_of : Size → ℕ → Option ℕ
down_of size d = side_down size (dot_row size d) (dot_col size d)

-- the side is one of the four from the dot
abbrev pub IsFrom : Size → ℕ → ℕ → Type 0
IsFrom size d s = (Holds (up_of size d) s ⊎ Holds (left_of size d) s)
    ⊎ (Holds (right_of size d) s ⊎ Holds (down_of size d) s)

pub from_end : (size : Size) (d s : ℕ) → 0 < size.cols → d < dots size → s < all_sides size → is_end size d s ≡ true
    → IsFrom size d s
from_end size d s some low lim e =
    let w = dot_within size d low in
    end_cases size (dot_row size d) (dot_col size d) some w.1 w.2 s lim (subst (λ x. is_end size x s ≡ true) w.0 e)

pub end_of_from : (size : Size) (d s : ℕ) → 0 < size.cols → d < dots size → IsFrom size d s → is_end size d s ≡ true
end_of_from size d s some low h =
    let w = dot_within size d low in
    let r = dot_row size d in
    let c = dot_col size d in
    subst (λ x. is_end size x s ≡ true) (sym w.0)
    (elim h [
      | inl h ↦ elim h [
        | inl k ↦ end_from_up_side size r c some w.1 w.2 s k
        | inr k ↦ end_from_left_side size r c some
            w.1 w.2 s k
      ]
      | inr h ↦ elim h [
        | inl k ↦ end_from_right_side size r c some w.1 w.2 s k
        | inr k ↦ end_from_down_side size r c
            some w.1 w.2 s k
      ]
    ])

-- the two dots of a side
abbrev pub first_end : Size → ℕ → ℕ
first_end size s = (ends size s).0

abbrev pub second_end : Size → ℕ → ℕ
second_end size s = (ends size s).1

pub flat_ends : (size : Size) (s : ℕ) → s < flat_sides size → ends size s ≡ ends_of_flat size s
flat_ends size s h = ap (λ b. ends_by size b s) (lt-ltb s (flat_sides size) h)

pub upright_ends : (size : Size) (s : ℕ) → flat_sides size ≤ s
    → ends size s ≡ ends_of_upright size (s - flat_sides size)
upright_ends size s h = ap (λ b. ends_by size b s) (le-ltb s (flat_sides size) h)

pub is_end_cases : (size : Size) (d s : ℕ) → is_end size d s ≡ true → (first_end size s ≡ d) ⊎ (second_end size s ≡ d)
is_end_cases size d s e =
    elim (or_cases (eqb (first_end size s) d) (eqb (second_end size s) d) e)
    [ inl h ↦ inl (eqb-true _ _ h) | inr h ↦ inr (eqb-true _ _ h) ]

pub is_end_first : (size : Size) (s : ℕ) → is_end size (first_end size s) s ≡ true
is_end_first size s = or_left _ (eqb (second_end size s) (first_end size s))
    (eq-eqb (first_end size s) (first_end size s) refl)

pub is_end_second : (size : Size) (s : ℕ) → is_end size (second_end size s) s ≡ true
is_end_second size s = or_right (eqb (first_end size s) (second_end size s)) _
    (eq-eqb (second_end size s) (second_end size s) refl)

-- A side of the board: its dots, and the one of the four sides from each that it is.
module _ (size : Size) (s : ℕ) (some : 0 < size.cols) (low : s < all_sides size) where
  flat_within : s < flat_sides size → (s / size.cols ≤ size.rows) × (s % size.cols < size.cols)
  flat_within h = let a = div_below s size.cols (size.rows + 1) some h in (omega arith, mod_below s size.cols some)

  upright_within : flat_sides size ≤ s → ((s - flat_sides size) / (size.cols + 1) < size.rows)
      × ((s - flat_sides size) % (size.cols + 1) ≤ size.cols)
  upright_within h =
      let a = div_below (s - flat_sides size) (size.cols + 1) size.rows (omega arith) (omega arith) in
      let b = mod_below (s - flat_sides size) (size.cols + 1) (omega arith) in
      (omega arith, omega arith)

  dot_below : (r c : ℕ) → r ≤ size.rows → c ≤ size.cols → dot size r c < dots size
  dot_below r c h k = let z = mul-add-lt r (size.cols + 1) c (size.rows + 1) (omega arith) (omega arith) in omega arith

  pub ends_below : (first_end size s < dots size) × (second_end size s < dots size)
  ends_below =
      elim (cases_lt s (flat_sides size)) [
        | inl h ↦
            let e = flat_ends size s h in let w = flat_within h in (
              subst (λ p. p.0 < dots size) (sym e) (dot_below _ _ w.0 (let k = w.1 in omega arith)),
              subst
                  (λ p. p.1 < dots size) (sym e) (dot_below _ _ w.0 (let k = w.1 in omega arith)),
            )
        | inr h ↦
            let e = upright_ends size s h in let w = upright_within h in (
              subst (λ p. p.0 < dots size) (sym e) (dot_below _ _ (let k = w.0 in omega arith) w.1),
              subst
                  (λ p. p.1 < dots size) (sym e) (dot_below _ _ (let k = w.0 in omega arith) w.1),
            )
      ]

  -- a horizontal side leads right from its first dot and left from its second
  pub flat_right : s < flat_sides size → Holds (right_of size (first_end size s)) s
  flat_right h =
      let w = dot_within size (first_end size s) ends_below.0 in
      right_from_end size (dot_row size (first_end size s)) (dot_col size (first_end size s)) s some w.2 h
      (sym (ap (λ p. p.0) (flat_ends size s h)) ∙ w.0)

  pub flat_left : s < flat_sides size → Holds (left_of size (second_end size s)) s
  flat_left h =
      let w = dot_within size (second_end size s) ends_below.1 in
      left_from_end size (dot_row size (second_end size s)) (dot_col size (second_end size s)) s some w.2 h
      (sym (ap (λ p. p.1) (flat_ends size s h)) ∙ w.0)

  -- an upright side leads down from its first dot and up from its second
  pub upright_down : flat_sides size ≤ s → Holds (down_of size (first_end size s)) s
  upright_down h =
      let w = dot_within size (first_end size s) ends_below.0 in
      down_from_end size (dot_row size (first_end size s)) (dot_col size (first_end size s)) s some w.2 h low
      (sym (ap (λ p. p.0) (upright_ends size s h)) ∙ w.0)

  pub upright_up : flat_sides size ≤ s → Holds (up_of size (second_end size s)) s
  upright_up h =
      let w = dot_within size (second_end size s) ends_below.1 in
      up_from_end size (dot_row size (second_end size s)) (dot_col size (second_end size s)) s some w.2 h low
      (sym (ap (λ p. p.1) (upright_ends size s h)) ∙ w.0)

-- an option in the list has the number
abbrev pub Among : List (Option ℕ) → ℕ → Type 0
Among [] s = ⊥
Among (o ∷ os) s = Holds o s ⊎ Among os s

holds_some : (o : Option ℕ) (s : ℕ) → Holds o s → o ≡ Some s
holds_some None s h = absurd (cc)
holds_some (Some a) s h = ap Some (eqb-true a s h)

some_holds : (o : Option ℕ) (s : ℕ) → o ≡ Some s → Holds o s
some_holds o s e = subst (λ o. Holds o s) (sym e) (eq-eqb s s refl)

pub among_from_contains : (os : List (Option ℕ)) (s : ℕ) → Contains os (Some s) → Among os s
among_from_contains [] s h = absurd (let k = h.1 in omega arith)
among_from_contains (o ∷ os) s (zero, h, e) = inl (some_holds o s e)
among_from_contains (o ∷ os) s (suc k, h, e) = inr (among_from_contains os s (k, omega arith, e))

pub contains_from_among : (os : List (Option ℕ)) (s : ℕ) → Among os s → Contains os (Some s)
contains_from_among [] s h = absurd h
contains_from_among (o ∷ os) s (inl h) = (0, omega arith, holds_some o s h)
contains_from_among (o ∷ os) s (inr h) = let r = contains_from_among os s h in
    (suc r.0, let k = r.1 in omega arith, r.2)

pub same_holder : (o : Option ℕ) (a b : ℕ) → Holds o a → Holds o b → b ≡ a
same_holder o a b h k = let e = holds_some o a h in let f = holds_some o b k in cc

-- The six sides beside a side, by whether it is horizontal.
abbrev pub beside_flat : Size → ℕ → List (Option ℕ)
beside_flat size s =
    up_of size (first_end size s) ∷ left_of size (first_end size s) ∷ down_of size (first_end size s)
    ∷ up_of size (second_end size s) ∷ right_of size (second_end size s) ∷ down_of size (second_end size s) ∷ []

abbrev pub beside_upright : Size → ℕ → List (Option ℕ)
beside_upright size s =
    up_of size (first_end size s) ∷ left_of size (first_end size s) ∷ right_of size (first_end size s)
    ∷ left_of size (second_end size s) ∷ right_of size (second_end size s) ∷ down_of size (second_end size s) ∷ []

flat_from : (size : Size) (s other : ℕ) → Among (beside_flat size s) other → IsFrom size (first_end size s) other
    ⊎ IsFrom size (second_end size s) other
flat_from size s other (inl h) = inl (inl (inl h))
flat_from size s other (inr (inl h)) = inl (inl (inr h))
flat_from size s other (inr (inr (inl h))) = inl (inr (inr h))
flat_from size s other (inr (inr (inr (inl h)))) = inr (inl (inl h))
flat_from size s other (inr (inr (inr (inr (inl h))))) = inr (inr (inl h))
flat_from size s other (inr (inr (inr (inr (inr (inl h)))))) = inr (inr (inr h))
flat_from size s other (inr (inr (inr (inr (inr (inr h)))))) = absurd h

upright_from : (size : Size) (s other : ℕ) → Among (beside_upright size s) other → IsFrom size (first_end size s) other
    ⊎ IsFrom size (second_end size s) other
upright_from size s other (inl h) = inl (inl (inl h))
upright_from size s other (inr (inl h)) = inl (inl (inr h))
upright_from size s other (inr (inr (inl h))) = inl (inr (inl h))
upright_from size s other (inr (inr (inr (inl h)))) = inr (inl (inr h))
upright_from size s other (inr (inr (inr (inr (inl h))))) = inr (inr (inl h))
upright_from size s other (inr (inr (inr (inr (inr (inl h)))))) = inr (inr (inr h))
upright_from size s other (inr (inr (inr (inr (inr (inr h)))))) = absurd h

-- the list has the sides that share a dot with a side, and no others; perhaps not the side itself
pub record AreBeside (size : Size) (s : ℕ) (os : List (Option ℕ)) : Type 0 where
  pub below : (other : ℕ) → Contains os (Some other) → other < all_sides size
  pub share : (other : ℕ) → Contains os (Some other) → ShareDot size s other
  pub all : (other : ℕ) → ShareDot size s other → other < all_sides size → (other ≡ s) ⊎ Contains os (Some other)

module _ (size : Size) (s : ℕ) (some : 0 < size.cols) (low : s < all_sides size) where
  from_below : (other : ℕ) → IsFrom size (first_end size s) other ⊎ IsFrom size (second_end size s) other
      → other < all_sides size
  from_below other h = let b = ends_below size s some low in elim h [
    | inl k ↦ sides_below size (first_end size s) other some b.0 k
    | inr k ↦ sides_below size (second_end size s) other some b.1 k
  ]

  from_shares : (other : ℕ) → IsFrom size (first_end size s) other ⊎ IsFrom size (second_end size s) other
      → ShareDot size s other
  from_shares other h = let b = ends_below size s some low in elim h [
    | inl k ↦ (first_end size s, is_end_first size s, end_of_from size (first_end size s) other some b.0 k)
    | inr k ↦ (second_end size s, is_end_second size s, end_of_from size (second_end size s) other some b.1 k)
  ]

  shares_from : (other : ℕ) → ShareDot size s other → other < all_sides size → IsFrom size (first_end size s) other
      ⊎ IsFrom size (second_end size s) other
  shares_from other h lim = let b = ends_below size s some low in elim (is_end_cases size h.0 s h.1) [
    | inl e ↦ inl (from_end size (first_end size s) other some b.0 lim
        (subst (λ d. is_end size d other ≡ true) (sym e) h.2))
    | inr e ↦ inr (from_end size (second_end size s) other some b.1 lim
        (subst (λ d. is_end size d other ≡ true) (sym e) h.2))
  ]

  from_flat : s < flat_sides size → (other : ℕ) → IsFrom size (first_end size s) other
      ⊎ IsFrom size (second_end size s) other
      → (other ≡ s) ⊎ Among (beside_flat size s) other
  from_flat h other (inl (inl (inl k))) = inr (inl k)
  from_flat h other (inl (inl (inr k))) = inr (inr (inl k))
  from_flat h other (inl (inr (inl k))) = inl (same_holder _ s other (flat_right size s some low h) k)
  from_flat h other (inl (inr (inr k))) = inr (inr (inr (inl k)))
  from_flat h other (inr (inl (inl k))) = inr (inr (inr (inr (inl k))))
  from_flat h other (inr (inl (inr k))) = inl (same_holder _ s other (flat_left size s some low h) k)
  from_flat h other (inr (inr (inl k))) = inr (inr (inr (inr (inr (inl k)))))
  from_flat h other (inr (inr (inr k))) = inr (inr (inr (inr (inr (inr (inl k))))))

  from_upright : flat_sides size ≤ s → (other : ℕ) → IsFrom size (first_end size s) other
      ⊎ IsFrom size (second_end size s) other
      → (other ≡ s) ⊎ Among (beside_upright size s) other
  from_upright h other (inl (inl (inl k))) = inr (inl k)
  from_upright h other (inl (inl (inr k))) = inr (inr (inl k))
  from_upright h other (inl (inr (inl k))) = inr (inr (inr (inl k)))
  from_upright h other (inl (inr (inr k))) = inl (same_holder _ s other (upright_down size s some low h) k)
  from_upright h other (inr (inl (inl k))) = inl (same_holder _ s other (upright_up size s some low h) k)
  from_upright h other (inr (inl (inr k))) = inr (inr (inr (inr (inl k))))
  from_upright h other (inr (inr (inl k))) = inr (inr (inr (inr (inr (inl k)))))
  from_upright h other (inr (inr (inr k))) = inr (inr (inr (inr (inr (inr (inl k))))))

  pub AreBeside-flat : s < flat_sides size → (os : List (Option ℕ)) → os ≡ beside_flat size s → AreBeside size s os
  AreBeside-flat h os e =
      let are : AreBeside size s (beside_flat size s) = record {
        below = λ other k. from_below other (flat_from size s other (among_from_contains (beside_flat size s) other k));
        share = λ other k. from_shares other (flat_from size s other
            (among_from_contains (beside_flat size s) other k));
        all = λ other share lim. elim (from_flat h other (shares_from other share lim))
            [ inl e ↦ inl e | inr k ↦ inr (contains_from_among (beside_flat size s) other k) ];
      } in subst (AreBeside size s) (sym e) are

  pub AreBeside-upright : flat_sides size ≤ s → (os : List (Option ℕ)) → os ≡ beside_upright size s
      → AreBeside size s os
  AreBeside-upright h os e =
      let are : AreBeside size s (beside_upright size s) = record {
        below = λ other k. from_below other (upright_from size s other
            (among_from_contains (beside_upright size s) other k));
        share = λ other k. from_shares other (upright_from size s other
            (among_from_contains (beside_upright size s) other k));
        all = λ other share lim. elim (from_upright h other (shares_from other share lim))
            [ inl e ↦ inl e | inr k ↦ inr (contains_from_among (beside_upright size s) other k) ];
      } in subst (AreBeside size s) (sym e) are

four_from : (size : Size) (d s : ℕ) → Among (sides_at size d) s → IsFrom size d s
four_from size d s (inl h) = inl (inl h)
four_from size d s (inr (inl h)) = inl (inr h)
four_from size d s (inr (inr (inl h))) = inr (inl h)
four_from size d s (inr (inr (inr (inl h)))) = inr (inr h)
four_from size d s (inr (inr (inr (inr h)))) = absurd h

-- the four sides from a dot, as a list
pub end_of_contained : (size : Size) (d s : ℕ) → 0 < size.cols → d < dots size → Contains (sides_at size d) (Some s)
    → is_end size d s ≡ true
end_of_contained size d s some low h = end_of_from size d s some low
    (four_from size d s (among_from_contains (sides_at size d) s h))

from_four : (size : Size) (d s : ℕ) → IsFrom size d s → Among (sides_at size d) s
from_four size d s (inl (inl h)) = inl h
from_four size d s (inl (inr h)) = inr (inl h)
from_four size d s (inr (inl h)) = inr (inr (inl h))
from_four size d s (inr (inr h)) = inr (inr (inr (inl h)))

pub contained_from_end : (size : Size) (d s : ℕ) → 0 < size.cols → d < dots size → s < all_sides size
    → is_end size d s ≡ true → Contains (sides_at size d) (Some s)
contained_from_end size d s some low lim e = contains_from_among (sides_at size d) s
    (from_four size d s (from_end size d s some low lim e))

pub contained_below : (size : Size) (d s : ℕ) → 0 < size.cols → d < dots size → Contains (sides_at size d) (Some s)
    → s < all_sides size
contained_below size d s some low h = sides_below size d s some low
    (four_from size d s (among_from_contains (sides_at size d) s h))
