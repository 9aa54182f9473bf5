-- The degree of a dot is the count over its at most four sides.
use Rattle.std.proofs.Common.{◌≡◌, ℕ, ◌+◌, ◌-◌, ◌*◌, ◌/◌, ◌%◌, ◌<◌, ◌≤◌, ◌⊎◌, Bool, true, false, cond, ltb, eqb, ◌&&◌}
use Rattle.std.proofs.Common.{◌||◌, List, Option, Some, None, refl, sym, ap, ◌∙◌, subst, inl, inr, arith}
use Rattle.std.specs.Prelude.{IfSome}
use Rattle.std.proofs.lemmas.Nat.{div-add-mod', div_below, mod_below, same_from_place, mul-add-lt}
use Rattle.std.proofs.lemmas.Bool.{cases_lt, cases_Bool, lt-ltb, le-ltb, ltb-true, eq-eqb, eqb-true, or_cases, or_left}
use Rattle.std.proofs.lemmas.Bool.{or_right}
use Rattle.hall_grid.specs.declared.board.Size.{Size}
use Rattle.hall_grid.specs.Slither.{dot, dots, flat_sides, all_sides, flat_side, upright_side, ends_of_flat}
use Rattle.hall_grid.specs.Slither.{ends_of_upright, is_end, is_line, degree}
use Rattle.hall_slither.specs.Dot.{dot_row, dot_col, side_up, side_left, side_right, side_down, count_at}
use Rattle.hall_slither.proofs.CountBelow.{count_below, hits, count_by-numbers, count_below-or, count_below-hits}

-- the option has this number
abbrev pub Holds : Option ℕ → ℕ → Type 0
Holds o s = hits o s ≡ true

-- what an option by a test has
pub some_if : (m n x s : ℕ) → Holds (cond (ltb m n) (Some x) None) s → (m < n) × (x ≡ s)
some_if m n x s h =
    elim (cases_Bool (ltb m n)) [
      | inl e ↦ (ltb-true m n e, eqb-true x s (subst (λ b. Holds (cond b (Some x) None) s) e h))
      | inr e ↦ absurd (let no = subst (λ b. Holds (cond b (Some x) None) s) e h in cc)
    ]

pub if_some : (m n x s : ℕ) → m < n → x ≡ s → Holds (cond (ltb m n) (Some x) None) s
if_some m n x s h e = subst (λ b. Holds (cond b (Some x) None) s) (sym (lt-ltb m n h)) (eq-eqb x s e)

same_place : (n a b r c : ℕ) → a ≡ r → b ≡ c → a * n + b ≡ r * n + c
same_place n a b r c e f = let g : a * n ≡ r * n = ap (λ x. x * n) e in omega arith

mul_pred : (r k n : ℕ) → k + 1 ≡ r → k * n + n ≡ r * n
mul_pred r k n h = subst (λ r. k * n + n ≡ r * n) h (omega arith)

-- A side that has the dot at row r and column c as an end is one of the four from there.
module _ (size : Size) (r c s : ℕ) (some : 0 < size.cols) (within : c ≤ size.cols) where
  -- the left end of a horizontal side
  pub right_from_end : s < flat_sides size → dot size (s / size.cols) (s % size.cols) ≡ dot size r c
      → Holds (side_right size r c) s
  right_from_end low e =
      let b = mod_below s size.cols some in
      let p = same_from_place (s / size.cols) (s % size.cols) r c (size.cols + 1) (omega arith) (omega arith) e in
      let q = p.1 in
      let z = div-add-mod' s size.cols in
      let w = same_place size.cols (s / size.cols) (s % size.cols) r c p.0 p.1 in
      if_some c size.cols (flat_side size r c) s (omega arith) (omega arith)

  end_from_right : s < flat_sides size → Holds (side_right size r c) s → dot size (s / size.cols) (s % size.cols) ≡ dot
      size r c
  end_from_right low h =
      let p = some_if c size.cols (flat_side size r c) s h in
      let b = mod_below s size.cols some in
      let z = div-add-mod' s size.cols in
      let k = p.1 in
      let q = same_from_place (s / size.cols) (s % size.cols) r c size.cols b p.0 (omega arith) in
      same_place (size.cols + 1) (s / size.cols) (s % size.cols) r c q.0 q.1

  -- the right end of a horizontal side
  pub left_from_end : s < flat_sides size → dot size (s / size.cols) (s % size.cols + 1) ≡ dot size r c
      → Holds (side_left size r c) s
  left_from_end low e =
      let b = mod_below s size.cols some in
      let p = same_from_place (s / size.cols) (s % size.cols + 1) r c (size.cols + 1) (omega arith) (omega arith) e in
      let q = p.1 in
      let z = div-add-mod' s size.cols in
      let w = same_place size.cols (s / size.cols) (s % size.cols + 1) r c p.0 p.1 in
      if_some 0 c (flat_side size r c - 1) s (omega arith) (omega arith)

  end_from_left : s < flat_sides size → Holds (side_left size r c) s → dot size (s / size.cols) (s % size.cols + 1) ≡
      dot size r c
  end_from_left low h =
      let p = some_if 0 c (flat_side size r c - 1) s h in
      let b = mod_below s size.cols some in
      let z = div-add-mod' s size.cols in
      let k = p.1 in
      let l = p.0 in
      let q = same_from_place (s / size.cols) (s % size.cols) r (c - 1) size.cols b (omega arith) (omega arith) in
      let m = q.1 in
      same_place (size.cols + 1) (s / size.cols) (s % size.cols + 1) r c q.0 (omega arith)

  -- the upper end of an upright side
  pub down_from_end : flat_sides size ≤ s → s < all_sides size
      → dot size ((s - flat_sides size) / (size.cols + 1)) ((s - flat_sides size) % (size.cols + 1)) ≡ dot size r c
      → Holds (side_down size r c) s
  down_from_end high low e =
      let b = mod_below (s - flat_sides size) (size.cols + 1) (omega arith) in
      let a = div_below (s - flat_sides size) (size.cols + 1) size.rows (omega arith) (omega arith) in
      let p = same_from_place ((s - flat_sides size) / (size.cols + 1)) ((s - flat_sides size) % (size.cols + 1)) r c
      (size.cols + 1) b (omega arith) e in
      let q = p.0 in
      let z = div-add-mod' (s - flat_sides size) (size.cols + 1) in
      if_some r size.rows (upright_side size r c) s (omega arith) (omega arith)

  end_from_down : flat_sides size ≤ s → Holds (side_down size r c) s
      → dot size ((s - flat_sides size) / (size.cols + 1)) ((s - flat_sides size) % (size.cols + 1)) ≡ dot size r c
  end_from_down high h =
      let p = some_if r size.rows (upright_side size r c) s h in
      let k = p.1 in
      let z = div-add-mod' (s - flat_sides size) (size.cols + 1) in
      omega arith

  -- the lower end of an upright side
  pub up_from_end : flat_sides size ≤ s → s < all_sides size
      → dot size ((s - flat_sides size) / (size.cols + 1) + 1) ((s - flat_sides size) % (size.cols + 1)) ≡ dot size r c
      → Holds (side_up size r c) s
  up_from_end high low e =
      let b = mod_below (s - flat_sides size) (size.cols + 1) (omega arith) in
      let p = same_from_place ((s - flat_sides size) / (size.cols + 1) + 1) ((s - flat_sides size) % (size.cols + 1)) r
      c (size.cols + 1) b (omega arith) e in
      let q = p.0 in
      let z = div-add-mod' (s - flat_sides size) (size.cols + 1) in
      let m = mul_pred r (r - 1) (size.cols + 1) (omega arith) in
      if_some 0 r (upright_side size (r - 1) c) s (omega arith) (omega arith)

  end_from_up : flat_sides size ≤ s → Holds (side_up size r c) s
      → dot size ((s - flat_sides size) / (size.cols + 1) + 1) ((s - flat_sides size) % (size.cols + 1)) ≡ dot size r c
  end_from_up high h =
      let p = some_if 0 r (upright_side size (r - 1) c) s h in
      let k = p.1 in
      let l = p.0 in
      let m = mul_pred r (r - 1) (size.cols + 1) (omega arith) in
      let z = div-add-mod' (s - flat_sides size) (size.cols + 1) in
      omega arith

-- the ends of a side, by whether it is horizontal
abbrev pub ends_by : Size → Bool → ℕ → ℕ × ℕ
ends_by size flat s = cond flat (ends_of_flat size s) (ends_of_upright size (s - flat_sides size))

end_at : (size : Size) (d s : ℕ) (flat : Bool) → ltb s (flat_sides size) ≡ flat → is_end size d s ≡ true
    → (eqb (ends_by size flat s).0 d || eqb (ends_by size flat s).1 d) ≡ true
end_at size d s flat e h = subst (λ b. (eqb (ends_by size b s).0 d || eqb (ends_by size b s).1 d) ≡ true) e h

end_from : (size : Size) (d s : ℕ) (flat : Bool) → ltb s (flat_sides size) ≡ flat
    → (eqb (ends_by size flat s).0 d || eqb (ends_by size flat s).1 d) ≡ true → is_end size d s ≡ true
end_from size d s flat e h = subst (λ b. (eqb (ends_by size b s).0 d || eqb (ends_by size b s).1 d) ≡ true) (sym e) h

same_bool : (x y : Bool) → (x ≡ true → y ≡ true) → (y ≡ true → x ≡ true) → x ≡ y
same_bool true y f g = sym (f refl)
same_bool false true f g = g refl
same_bool false false f g = refl

or_of_four : (a b c d : Bool) → ((a ≡ true) ⊎ (b ≡ true)) ⊎ ((c ≡ true) ⊎ (d ≡ true)) → ((a || b) || (c || d)) ≡ true
or_of_four a b c d h =
    elim h [
      | inl h ↦ or_left (a || b) (c || d) (elim h [ inl h ↦ or_left a b h | inr h ↦ or_right a b h ])
      | inr h ↦ or_right (a || b) (c || d) (elim h [ inl h ↦ or_left c d h | inr h ↦ or_right c d h ])
    ]

four_of_or : (a b c d : Bool) → ((a || b) || (c || d)) ≡ true → ((a ≡ true) ⊎ (b ≡ true)) ⊎ ((c ≡ true) ⊎ (d ≡ true))
four_of_or a b c d e = elim (or_cases (a || b) (c || d) e) [
  | inl h ↦ inl (or_cases a b h)
  | inr h ↦ inr
      (or_cases c d h)
]

and_second : (p a : Bool) → (p && a) ≡ true → a ≡ true
and_second true a e = e
and_second false a e = absurd (cc)

and_or : (p a b : Bool) → (p && (a || b)) ≡ ((p && a) || (p && b))
and_or true a b = refl
and_or false a b = refl

pub all_held : (o : Option ℕ) (P : ℕ → Type 0) → ((s : ℕ) → Holds o s → P s) → IfSome o P
all_held None P f = tt
all_held (Some s) P f = f s (eq-eqb s s refl)

-- The four sides at the dot at row r and column c.
module _ (size : Size) (r c : ℕ) (some : 0 < size.cols) (high : r ≤ size.rows) (within : c ≤ size.cols) where
  pub right_low : (s : ℕ) → Holds (side_right size r c) s → s < flat_sides size
  right_low s h =
      let p = some_if c size.cols (flat_side size r c) s h in
      let k = p.1 in
      let z = mul-add-lt r size.cols c (size.rows + 1) (omega arith) p.0 in
      omega arith

  pub left_low : (s : ℕ) → Holds (side_left size r c) s → s < flat_sides size
  left_low s h =
      let p = some_if 0 c (flat_side size r c - 1) s h in
      let k = p.1 in
      let l = p.0 in
      let z = mul-add-lt r size.cols (c - 1) (size.rows + 1) (omega arith) (omega arith) in
      omega arith

  pub down_high : (s : ℕ) → Holds (side_down size r c) s → (flat_sides size ≤ s) × (s < all_sides size)
  down_high s h =
      let p = some_if r size.rows (upright_side size r c) s h in
      let k = p.1 in
      let z = mul-add-lt r (size.cols + 1) c size.rows p.0 (omega arith) in
      (omega arith, omega arith)

  pub up_high : (s : ℕ) → Holds (side_up size r c) s → (flat_sides size ≤ s) × (s < all_sides size)
  up_high s h =
      let p = some_if 0 r (upright_side size (r - 1) c) s h in
      let k = p.1 in
      let l = p.0 in
      let z = mul-add-lt (r - 1) (size.cols + 1) c size.rows (omega arith) (omega arith) in
      (omega arith, omega arith)

  -- a side at the dot is one of the four
  pub end_cases : (s : ℕ) → s < all_sides size → is_end size (dot size r c) s ≡ true
      → (Holds (side_up size r c) s ⊎ Holds (side_left size r c) s)
      ⊎ (Holds (side_right size r c) s ⊎ Holds (side_down size r c) s)
  end_cases s low e =
      elim (cases_lt s (flat_sides size)) [
        | inl k ↦
            let at = end_at size (dot size r c) s true (lt-ltb s (flat_sides size) k) e in
            elim (or_cases _ _ at) [
              | inl f ↦ inr (inl (right_from_end size r c s some within k (eqb-true _ _ f)))
              | inr f ↦ inl (inr (left_from_end size r c s some within k (eqb-true _ _ f)))
            ]
        | inr k ↦
            let at = end_at size (dot size r c) s false (le-ltb s (flat_sides size) k) e in
            elim (or_cases _ _ at) [
              | inl f ↦ inr (inr (down_from_end size r c s some within k low (eqb-true _ _ f)))
              | inr f ↦ inl (inl (up_from_end size r c s some within k low (eqb-true _ _ f)))
            ]
      ]

  pub end_from_up_side : (s : ℕ) → Holds (side_up size r c) s → is_end size (dot size r c) s ≡ true
  end_from_up_side s h =
      let k = (up_high s h).0 in
      end_from size (dot size r c) s false (le-ltb s (flat_sides size) k)
      (or_right _ _ (eq-eqb _ _ (end_from_up size r c s some within k h)))

  pub end_from_down_side : (s : ℕ) → Holds (side_down size r c) s → is_end size (dot size r c) s ≡ true
  end_from_down_side s h =
      let k = (down_high s h).0 in
      end_from size (dot size r c) s false (le-ltb s (flat_sides size) k)
      (or_left _ _ (eq-eqb _ _ (end_from_down size r c s some within k h)))

  pub end_from_left_side : (s : ℕ) → Holds (side_left size r c) s → is_end size (dot size r c) s ≡ true
  end_from_left_side s h =
      let k = left_low s h in
      end_from size (dot size r c) s true (lt-ltb s (flat_sides size) k)
      (or_right _ _ (eq-eqb _ _ (end_from_left size r c s some within k h)))

  pub end_from_right_side : (s : ℕ) → Holds (side_right size r c) s → is_end size (dot size r c) s ≡ true
  end_from_right_side s h =
      let k = right_low s h in
      end_from size (dot size r c) s true (lt-ltb s (flat_sides size) k)
      (or_left _ _ (eq-eqb _ _ (end_from_right size r c s some within k h)))

  -- no side is two of the four
  up_or_left : (s : ℕ) → Holds (side_up size r c) s → Holds (side_left size r c) s → ⊥
  up_or_left s h k = let a = (up_high s h).0 in let b = left_low s k in omega arith

  right_or_down : (s : ℕ) → Holds (side_right size r c) s → Holds (side_down size r c) s → ⊥
  right_or_down s h k = let a = (down_high s k).0 in let b = right_low s h in omega arith

  apart : (s : ℕ) → (Holds (side_up size r c) s ⊎ Holds (side_left size r c) s)
      → (Holds (side_right size r c) s ⊎ Holds (side_down size r c) s) → ⊥
  apart s h k =
      elim h [
        | inl u ↦ elim k [
          | inl t ↦ let a = (up_high s u).0 in let b = right_low s t in omega arith
          | inr d ↦
              let a = some_if 0 r (upright_side size (r - 1) c) s u in
              let b = some_if r size.rows (upright_side size r c) s d in
              let m = mul_pred r (r - 1) (size.cols + 1) (let l = a.0 in omega arith) in
              let e = a.1 in let f = b.1 in omega arith
        ]
        | inr l ↦ elim k [
          | inl t ↦
              let a = some_if 0 c (flat_side size r c - 1) s l in
              let b = some_if c size.cols (flat_side size r c) s t in
              let e = a.1 in let f = b.1 in let g = a.0 in omega arith
          | inr d ↦ let a = left_low s l in let b = (down_high s d).0 in omega arith
        ]
      ]

  end_is : (s : ℕ) → s < all_sides size
      → is_end size (dot size r c) s ≡ ((hits (side_up size r c) s || hits (side_left size r c) s) ||
      (hits (side_right size r c) s || hits (side_down size r c) s))
  end_is s low =
      same_bool _ _ (λ e. or_of_four (hits (side_up size r c) s) (hits (side_left size r c) s)
      (hits (side_right size r c) s) (hits (side_down size r c) s) (end_cases s low e))
      (λ e. elim (four_of_or (hits (side_up size r c) s) (hits (side_left size r c) s) (hits (side_right size r c) s)
      (hits (side_down size r c) s) e) [
        | inl h ↦ elim h [ inl u ↦ end_from_up_side s u | inr l ↦ end_from_left_side s l ]
        | inr h ↦ elim h [ inl k ↦ end_from_right_side s k | inr d ↦ end_from_down_side s d ]
      ])

  -- how many of the sides at the dot pass a test
  tally_ends : (p : ℕ → Bool) → count_below (λ s. p s && is_end size (dot size r c) s) (all_sides size)
      ≡ (count_at p (side_up size r c) + count_at p (side_left size r c)) +
      (count_at p (side_right size r c) + count_at p (side_down size r c))
  tally_ends p =
      let n = all_sides size in
      let up = side_up size r c in let left = side_left size r c in let right = side_right size r c in let down =
      side_down size r c in
      let whole = count_below-or (λ s. p s && is_end size (dot size r c) s) (λ s. p s && (hits up s || hits left s))
      (λ s. p s && (hits right s || hits down s)) n
      (λ s l. ap (λ b. p s && b) (end_is s l) ∙ and_or (p s) _ _)
      (λ s l a b. apart s (or_cases (hits up s) (hits left s) (and_second (p s) _ a))
      (or_cases (hits right s) (hits down s) (and_second (p s) _ b))) in
      let first = count_below-or (λ s. p s && (hits up s || hits left s)) (λ s. p s && hits up s)
      (λ s. p s && hits left s) n
      (λ s l. and_or (p s) _ _) (λ s l a b. up_or_left s (and_second (p s) _ a) (and_second (p s) _ b)) in
      let second = count_below-or (λ s. p s && (hits right s || hits down s)) (λ s. p s && hits right s)
      (λ s. p s && hits down s) n
      (λ s l. and_or (p s) _ _) (λ s l a b. right_or_down s (and_second (p s) _ a) (and_second (p s) _ b)) in
      let u = count_below-hits p up n (all_held up (λ s. s < n) (λ s h. (up_high s h).1)) in
      let l = count_below-hits p left n (all_held left (λ s. s < n) (λ s h. let k = left_low s h in omega arith)) in
      let r = count_below-hits p right n (all_held right (λ s. s < n) (λ s h. let k = right_low s h in omega arith)) in
      let d = count_below-hits p down n (all_held down (λ s. s < n) (λ s h. (down_high s h).1)) in
      omega arith

-- the row and the column of a dot
pub dot_within : (size : Size) (d : ℕ) → d < dots size → (d ≡ dot size (dot_row size d) (dot_col size d))
    × (dot_row size d ≤ size.rows) × (dot_col size d ≤ size.cols)
dot_within size d low =
    let a = div_below d (size.cols + 1) (size.rows + 1) (omega arith) low in
    let b = mod_below d (size.cols + 1) (omega arith) in
    (sym (div-add-mod' d (size.cols + 1)), omega arith, omega arith)

-- how many lines are at a dot
pub degree_is : (size : Size) (f : List ℕ) (d : ℕ) → 0 < size.cols → d < dots size
    → degree size f d ≡ (count_at (is_line f) (side_up size (dot_row size d) (dot_col size d)) + count_at (is_line f)
    (side_left size (dot_row size d) (dot_col size d)))
    + (count_at (is_line f) (side_right size (dot_row size d) (dot_col size d)) + count_at (is_line f)
    (side_down size (dot_row size d) (dot_col size d)))
degree_is size f d some low =
    let w = dot_within size d low in
    count_by-numbers (λ side. is_line f side && is_end size d side) (all_sides size)
    ∙ ap (λ x. count_below (λ side. is_line f side && is_end size x side) (all_sides size)) w.0
    ∙ tally_ends size (dot_row size d) (dot_col size d) some w.1 w.2 (is_line f)

-- the sides at a dot are on the board
pub sides_below : (size : Size) (d s : ℕ) → 0 < size.cols → d < dots size
    → (Holds (side_up size (dot_row size d) (dot_col size d)) s
    ⊎ Holds (side_left size (dot_row size d) (dot_col size d)) s)
    ⊎ (Holds (side_right size (dot_row size d) (dot_col size d)) s
    ⊎ Holds (side_down size (dot_row size d) (dot_col size d)) s)
    → s < all_sides size
sides_below size d s some low h =
    let w = dot_within size d low in
    elim h [
      | inl h ↦ elim h [
        | inl u ↦ (up_high size (dot_row size d) (dot_col size d) some w.1 w.2 s u).1
        | inr l ↦ let k = left_low size (dot_row size d) (dot_col size d) some w.1 w.2 s l in omega arith
      ]
      | inr h ↦ elim h [
        | inl r ↦ let k = right_low size (dot_row size d) (dot_col size d) some w.1 w.2 s r in omega arith
        | inr d ↦ (down_high size (dot_row size _) (dot_col size _) some w.1 w.2 s d).1
      ]
    ]
