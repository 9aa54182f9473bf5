-- The cells beside a cell are the cells that touch it.
use Rattle.std.proofs.Common.{◌≡◌, ℕ, zero, suc, ◌+◌, ◌-◌, ◌*◌, ◌<◌, ◌≤◌, ◌↔◌, [], ◌∷◌, Option, Some, None, sym, ap}
use Rattle.std.proofs.Common.{subst, inl, inr, arith}
use Rattle.std.specs.Prelude.{Contains}
use Rattle.std.proofs.lemmas.Nat.{div-mul-add, mod-mul-add, div-add-mod', div_below, mod_below}
use Rattle.std.proofs.Math.Nat.{mul-le-mul_right}
use Rattle.std.proofs.lemmas.List.Elements.{Contains-append_left, Contains-append_cases}
use Rattle.hall_grid.specs.declared.board.Size.{Size}
use Rattle.hall_grid.specs.Board.{cells, row, col, Touch}
use Rattle.hall_grid.specs.Beside.{IsAbove, IsNextLeft, IsNextRight, IsBelow, Holds}

-- the row and the column of a place
at_place : (size : Size) (d r c : ℕ) → d ≡ r * size.cols + c → c < size.cols → (row size d ≡ r) × (col size d ≡ c)
at_place size d r c e h =
    subst (λ d. (row size d ≡ r) × (col size d ≡ c)) (sym e) (div-mul-add r size.cols c h, mod-mul-add r size.cols c h)

below_is : (size : Size) (d r c : ℕ) → d ≡ r * size.cols + c → r < size.rows → c < size.cols → d < cells size
below_is size d r c e h k =
    let p : (r + 1) * size.cols ≤ size.rows * size.cols = mul-le-mul_right size.cols (omega arith) in omega arith

-- a cell that isn't in the first row
later_row : (r c n cell : ℕ) → cell ≡ r * n + c → c < n → n ≤ cell → (k : ℕ) × (r ≡ k + 1) × (cell ≡ k * n + n + c)
later_row zero c n cell e h k = absurd (omega arith)
later_row (suc r) c n cell e h k = (r, omega arith, omega arith)

pub Holds-some : (IsSought : ℕ → Type 0) (v : ℕ) → IsSought v → ((x : ℕ) → IsSought x → v ≡ x) → Holds (Some v) IsSought
Holds-some IsSought v here only = λ x. (
  (λ e. subst IsSought (let same : v ≡ x = cc in same) here),
  (λ h. ap Some (only x h)),
)

module _ (size : Size) (cell : ℕ) (some : 0 < size.cols) (board : cell < cells size) where
  spelled : cell ≡ row size cell * size.cols + col size cell
  spelled = sym (div-add-mod' cell size.cols)

  col_low : col size cell < size.cols
  col_low = mod_below cell size.cols some

  row_low : row size cell < size.rows
  row_low = div_below cell size.cols size.rows some board

  pub above_is : size.cols ≤ cell → Holds (Some (cell - size.cols)) (IsAbove size cell)
  above_is h =
      let k = later_row (row size cell) (col size cell) size.cols cell spelled col_low h in
      let up = k.1 in
      let e : cell - size.cols ≡ k.0 * size.cols + col size cell = let s = k.2 in omega arith in
      let p = at_place size (cell - size.cols) k.0 (col size cell) e col_low in
      Holds-some (IsAbove size cell) (cell - size.cols)
      (omega arith, let r = p.0 in omega arith, p.1)
      (λ x q.
      let z : row size x * size.cols + col size x ≡ x = div-add-mod' x size.cols in
      let same : row size x ≡ k.0 = let r = q.1 in omega arith in
      let m : row size x * size.cols ≡ k.0 * size.cols = ap (λ r. r * size.cols) same in
      let c = q.2 in
      omega arith)

  pub left_is : 0 < col size cell → Holds (Some (cell - 1)) (IsNextLeft size cell)
  left_is h =
      let s = spelled in
      let low = col_low in
      let e : cell - 1 ≡ row size cell * size.cols + (col size cell - 1) = omega arith in
      let p = at_place size (cell - 1) (row size cell) (col size cell - 1) e (omega arith) in
      Holds-some (IsNextLeft size cell) (cell - 1)
      (omega arith, p.0, let c = p.1 in omega arith)
      (λ x q.
      let z : row size x * size.cols + col size x ≡ x = div-add-mod' x size.cols in
      let m : row size x * size.cols ≡ row size cell * size.cols = ap (λ r. r * size.cols) q.1 in
      let c = q.2 in
      omega arith)

  pub right_is : col size cell + 1 < size.cols → Holds (Some (cell + 1)) (IsNextRight size cell)
  right_is h =
      let s = spelled in
      let e : cell + 1 ≡ row size cell * size.cols + (col size cell + 1) = omega arith in
      let p = at_place size (cell + 1) (row size cell) (col size cell + 1) e h in
      Holds-some (IsNextRight size cell) (cell + 1)
      (below_is size (cell + 1) (row size cell) (col size cell + 1) e row_low h, p.0, p.1)
      (λ x q.
      let z : row size x * size.cols + col size x ≡ x = div-add-mod' x size.cols in
      let m : row size x * size.cols ≡ row size cell * size.cols = ap (λ r. r * size.cols) q.1 in
      let c = q.2 in
      omega arith)

  pub below_is_cell : row size cell + 1 < size.rows → Holds (Some (cell + size.cols)) (IsBelow size cell)
  below_is_cell h =
      let s = spelled in
      let e : cell + size.cols ≡ (row size cell + 1) * size.cols + col size cell = omega arith in
      let p = at_place size (cell + size.cols) (row size cell + 1) (col size cell) e col_low in
      Holds-some (IsBelow size cell) (cell + size.cols)
      (below_is size (cell + size.cols) (row size cell + 1) (col size cell) e h col_low, p.0, p.1)
      (λ x q.
      let z : row size x * size.cols + col size x ≡ x = div-add-mod' x size.cols in
      let m : row size x * size.cols ≡ (row size cell + 1) * size.cols = ap (λ r. r * size.cols) q.1 in
      let c = q.2 in
      omega arith)

no_place : (other : ℕ) → Contains (None ∷ None ∷ []) (Some other) → ⊥
no_place other (zero, h, e) = absurd (cc)
no_place other (suc zero, h, e) = absurd (cc)
no_place other (suc (suc k), h, e) = absurd (omega arith)

-- four places that hold the cells above, to the left, to the right and below hold the cells that touch
module _ (size : Size) (cell : ℕ) (up left right down : Option ℕ) (above : Holds up (IsAbove size cell))
    (before : Holds left (IsNextLeft size cell))
    (after : Holds right (IsNextRight size cell)) (under : Holds down (IsBelow size cell)) where
  touching : (other : ℕ)
      → Contains (up ∷ left ∷ right ∷ down ∷ []) (Some other)
      → (other < cells size) × Touch size cell other
  touching other (zero, h, e) = let q = (above other).0 e in (q.0, inr (inr q.1, sym q.2))
  touching other (suc zero, h, e) = let q = (before other).0 e in (q.0, inl (sym q.1, inr q.2))
  touching other (suc (suc zero), h, e) = let q = (after other).0 e in (q.0, inl (sym q.1, inl (sym q.2)))
  touching other (suc (suc (suc zero)), h, e) = let q = (under other).0 e in (q.0, inr (inl (sym q.1), sym q.2))
  touching other (suc (suc (suc (suc k))), h, e) = absurd (omega arith)

  among : (other : ℕ)
      → (other < cells size) × Touch size cell other
      → Contains (up ∷ left ∷ right ∷ down ∷ []) (Some other)
  among other (low, inl (r, inl c)) = (2, omega arith, (after other).1 (low, sym r, sym c))
  among other (low, inl (r, inr c)) = (1, omega arith, (before other).1 (low, sym r, c))
  among other (low, inr (inl r, c)) = (3, omega arith, (under other).1 (low, sym r, sym c))
  among other (low, inr (inr r, c)) = (0, omega arith, (above other).1 (low, r, sym c))

  pub touching_are : (other : ℕ)
      → Contains (up ∷ left ∷ right ∷ down ∷ []) (Some other) ↔ ((other < cells size) × Touch size cell other)
  touching_are other = (touching other, among other)

  -- the same, filled up with empty places
  pub padded_touching : (other : ℕ)
      → Contains (up ∷ left ∷ right ∷ down ∷ None ∷ None ∷ []) (Some other)
      → (other < cells size) × Touch size cell other
  padded_touching other h =
      elim (Contains-append_cases (up ∷ left ∷ right ∷ down ∷ []) (None ∷ None ∷ []) (Some other) h) [
        | inl k ↦ touching other k
        | inr k ↦ absurd (no_place other k)
      ]

  pub padded_among : (other : ℕ)
      → other < cells size
      → Touch size cell other
      → Contains (up ∷ left ∷ right ∷ down ∷ None ∷ None ∷ []) (Some other)
  padded_among other low t =
      Contains-append_left (up ∷ left ∷ right ∷ down ∷ []) (None ∷ None ∷ []) (Some other) (among other (low, t))
