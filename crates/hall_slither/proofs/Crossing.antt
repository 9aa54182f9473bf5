-- A side of a right filling is a line exactly where the cells at it differ in colour.
use Rattle.std.proofs.Common.{◌≡◌, ℕ, zero, suc, ◌+◌, ◌-◌, ◌*◌, ◌/◌, ◌%◌, ◌<◌, ◌≤◌, ◌⊎◌, ◌∙◌, Bool, true, false, cond}
use Rattle.std.proofs.Common.{ltb, List, [], ◌∷◌, Option, Some, None, refl, sym, ap, subst, inl, inr, arith}
use Rattle.std.proofs.lemmas.Nat.{div-add-mod', div_below, mod_below, div-mul-add, mod-mul-add, mul-add-lt}
use Rattle.std.proofs.lemmas.Bool.{cases_lt, lt-ltb, le-ltb}
use Rattle.std.proofs.lemmas.List.Sums.{sum_by-cons}
use Rattle.hall_grid.specs.declared.board.Size.{Size}
use Rattle.hall_grid.specs.declared.board.Kind.TheVariants.{Slither}
use Rattle.hall_grid.specs.Board.{Board, IsSize, cells, row, col}
use Rattle.hall_grid.specs.Slither.{dot, dots, flat_sides, all_sides, flat_side, upright_side, is_line}
use Rattle.hall_solve.specs.Puzzle.{IsRight}
use Rattle.hall_slither.specs.Dot.{dot_row, dot_col, side_up, side_left, side_right, side_down, count_at, sides_at}
use Rattle.hall_slither.specs.Count.{count_sides}
use Rattle.hall_slither.specs.Colour.{turned, crossed, colour_of, cells_by_flat, cells_by_upright, cells_by}
use Rattle.hall_slither.proofs.Demand.{passes_count}

-- whether there is such a side and it is a line
abbrev line_of : List ℕ → Option ℕ → Bool
line_of f None = false
line_of f (Some s) = is_line f s

counted : (f : List ℕ) (o : Option ℕ) → count_at (is_line f) o ≡ cond (line_of f o) 1 0
counted f None = refl
counted f (Some s) = refl

-- none or two of four
even : (u l r d : Bool) → (cond u 1 0 + (cond l 1 0 + (cond r 1 0 + cond d 1 0)) ≡ 0)
    ⊎ (cond u 1 0 + (cond l 1 0 + (cond r 1 0 + cond d 1 0)) ≡ 2)
    → r ≡ turned l (turned u d)
even true true true true h = absurd (elim h [ inl e ↦ omega arith | inr e ↦ omega arith ])
even true true true false h = absurd (elim h [ inl e ↦ omega arith | inr e ↦ omega arith ])
even true true false true h = absurd (elim h [ inl e ↦ omega arith | inr e ↦ omega arith ])
even true true false false h = refl
even true false true true h = absurd (elim h [ inl e ↦ omega arith | inr e ↦ omega arith ])
even true false true false h = refl
even true false false true h = refl
even true false false false h = absurd (elim h [ inl e ↦ omega arith | inr e ↦ omega arith ])
even false true true true h = absurd (elim h [ inl e ↦ omega arith | inr e ↦ omega arith ])
even false true true false h = refl
even false true false true h = refl
even false true false false h = absurd (elim h [ inl e ↦ omega arith | inr e ↦ omega arith ])
even false false true true h = refl
even false false true false h = absurd (elim h [ inl e ↦ omega arith | inr e ↦ omega arith ])
even false false false true h = absurd (elim h [ inl e ↦ omega arith | inr e ↦ omega arith ])
even false false false false h = refl

four : (f : List ℕ) (u l r d : Option ℕ)
    → count_sides (is_line f) (u ∷ l ∷ r ∷ d ∷ []) ≡ cond (line_of f u) 1 0 +
    (cond (line_of f l) 1 0 + (cond (line_of f r) 1 0 + cond (line_of f d) 1 0))
four f u l r d =
    let a = counted f u in let b = counted f l in let x = counted f r in let y = counted f d in
    let e1 = sum_by-cons (count_at (is_line f)) u (l ∷ r ∷ d ∷ []) in
    let e2 = sum_by-cons (count_at (is_line f)) l (r ∷ d ∷ []) in
    let e3 = sum_by-cons (count_at (is_line f)) r (d ∷ []) in
    let e4 = sum_by-cons (count_at (is_line f)) d [] in
    omega arith

mixed : (above here up down : Bool) → turned (turned above here) (turned up down) ≡ turned (turned up above)
    (turned down here)
mixed true true true true = refl
mixed true true true false = refl
mixed true true false true = refl
mixed true true false false = refl
mixed true false true true = refl
mixed true false true false = refl
mixed true false false true = refl
mixed true false false false = refl
mixed false true true true = refl
mixed false true true false = refl
mixed false true false true = refl
mixed false true false false = refl
mixed false false true true = refl
mixed false false true false = refl
mixed false false false true = refl
mixed false false false false = refl

same_from : (a b : Bool) → false ≡ turned a b → a ≡ b
same_from true true e = refl
same_from true false e = (cc)
same_from false true e = (cc)
same_from false false e = refl

taken_off : (a b : Bool) → a ≡ turned (turned a b) b
taken_off true true = refl
taken_off true false = refl
taken_off false true = refl
taken_off false false = refl

off_itself : (b : Bool) → false ≡ turned b b
off_itself true = refl
off_itself false = refl

back : (a b : Bool) → b ≡ turned a (turned a b)
back true true = refl
back true false = refl
back false b = refl

line_if : (f : List ℕ) (b : Bool) (s : ℕ) → line_of f (cond b (Some s) None) ≡ cond b (is_line f s) false
line_if f true s = refl
line_if f false s = refl

crossed_if : (size : Size) (f : List ℕ) (b : Bool) (r c : ℕ)
    → cond b (crossed size f r (suc c)) false ≡ turned (cond b (is_line f (upright_side size r (suc c))) false)
    (cond b (crossed size f r c) false)
crossed_if size f true r c = refl
crossed_if size f false r c = refl

-- the sides at the dot in this row and column
abbrev sides_in : Size → ℕ → ℕ → List (Option ℕ)
sides_in size r c = side_up size r c ∷ side_left size r c ∷ side_right size r c ∷ side_down size r c ∷ []

-- the cell of a row and a column
cell_colour : (size : Size) (f : List ℕ) (r c : ℕ) → r < size.rows → c < size.cols
    → colour_of size f (r * size.cols + c) ≡ crossed size f r c
cell_colour size f r c low_r low_c =
    let low : r * size.cols + c < cells size = (let k = mul-add-lt r size.cols c size.rows low_r low_c in omega
    arith) in
    ap (λ b. cond b (crossed size f (row size (r * size.cols + c)) (col size (r * size.cols + c))) false)
    (lt-ltb (r * size.cols + c) (cells size) low)
    ∙ ap (λ x. crossed size f x (col size (r * size.cols + c))) (div-mul-add r size.cols c low_c)
    ∙ ap (λ x. crossed size f r x) (mod-mul-add r size.cols c low_c)

outside_colour : (size : Size) (f : List ℕ) → colour_of size f (cells size) ≡ false
outside_colour size f = ap (λ b. cond b (crossed size f (row size (cells size)) (col size (cells size))) false)
    (le-ltb (cells size) (cells size) (omega arith))

module _ (board : Board) (f : List ℕ) (kind : board.kind ≡ Slither) (is_size : IsSize board.size)
    (right : IsRight board f) where
  -- a right filling passes the dot in this row and column, or doesn't
  at_dot : (r c : ℕ) → r ≤ board.size.rows → c ≤ board.size.cols
      → line_of f (side_right board.size r c) ≡ turned (line_of f (side_left board.size r c))
      (turned (line_of f (side_up board.size r c)) (line_of f (side_down board.size r c)))
  at_dot r c low_r low_c =
      let d = dot board.size r c in
      let some = is_size.some_cols in
      let low : d < dots board.size = (let k = mul-add-lt r (board.size.cols + 1) c (board.size.rows + 1) (omega arith)
      (omega arith) in omega arith) in
      let r_is : dot_row board.size d ≡ r = div-mul-add r (board.size.cols + 1) c (omega arith) in
      let c_is : dot_col board.size d ≡ c = mod-mul-add r (board.size.cols + 1) c (omega arith) in
      let sides_are : sides_at board.size d ≡ sides_in board.size r c =
      ap (λ x. sides_in board.size x (dot_col board.size d)) r_is ∙ ap (λ x. sides_in board.size r x) c_is in
      let passes = subst (λ sides. (count_sides (is_line f) sides ≡ 0) ⊎ (count_sides (is_line f) sides ≡ 2)) sides_are
      (passes_count board f d kind some right low) in
      let sum = four f (side_up board.size r c) (side_left board.size r c) (side_right board.size r c)
      (side_down board.size r c) in
      even (line_of f (side_up board.size r c)) (line_of f (side_left board.size r c))
      (line_of f (side_right board.size r c)) (line_of f (side_down board.size r c))
      (elim passes [ inl e ↦ inl (sym sum ∙ e) | inr e ↦ inr (sym sum ∙ e) ])

  -- the colours of the cells above and below a horizontal side
  abbrev above : ℕ → ℕ → Bool
  above r c = cond (ltb 0 r) (crossed board.size f (r - 1) c) false

  abbrev here : ℕ → ℕ → Bool
  here r c = cond (ltb r board.size.rows) (crossed board.size f r c) false

  up_is : (r c : ℕ) → line_of f (side_up board.size r c) ≡ cond (ltb 0 r)
      (is_line f (upright_side board.size (r - 1) c)) false
  up_is r c = line_if f (ltb 0 r) (upright_side board.size (r - 1) c)

  down_is : (r c : ℕ) → line_of f (side_down board.size r c) ≡ cond (ltb r board.size.rows)
      (is_line f (upright_side board.size r c)) false
  down_is r c = line_if f (ltb r board.size.rows) (upright_side board.size r c)

  right_is : (r c : ℕ) → c < board.size.cols → line_of f (side_right board.size r c) ≡ is_line f
      (flat_side board.size r c)
  right_is r c low = ap (λ b. line_of f (cond b (Some (flat_side board.size r c)) None)) (lt-ltb c board.size.cols low)

  left_is : (r c : ℕ) → line_of f (side_left board.size r (suc c)) ≡ is_line f (flat_side board.size r c)
  left_is r c =
      ap (λ b. line_of f (cond b (Some (flat_side board.size r (suc c) - 1)) None)) (lt-ltb 0 (suc c) (omega arith))
      ∙ ap (is_line f) (let same : r * board.size.cols + suc c - 1 ≡ r * board.size.cols + c = omega arith in same)

  -- what is right of a side that is a line exactly where these differ
  after : (r c : ℕ) → is_line f (flat_side board.size r c) ≡ turned (above r c) (here r c)
      → turned (line_of f (side_left board.size r (suc c))) (turned (line_of f (side_up board.size r (suc c)))
      (line_of f (side_down board.size r (suc c))))
      ≡ turned (above r (suc c)) (here r (suc c))
  after r c line =
      let left = left_is r c ∙ line in
      let up = up_is r (suc c) in
      let down = down_is r (suc c) in
      let u = cond (ltb 0 r) (is_line f (upright_side board.size (r - 1) (suc c))) false in
      let d = cond (ltb r board.size.rows) (is_line f (upright_side board.size r (suc c))) false in
      ap (λ x. turned x (turned (line_of f (side_up board.size r (suc c)))
      (line_of f (side_down board.size r (suc c))))) left
      ∙ ap (λ x. turned (turned (above r c) (here r c)) (turned x (line_of f (side_down board.size r (suc c))))) up
      ∙ ap (λ x. turned (turned (above r c) (here r c)) (turned u x)) down
      ∙ mixed (above r c) (here r c) u d
      ∙ ap (λ x. turned x (turned d (here r c))) (sym (crossed_if board.size f (ltb 0 r) (r - 1) c))
      ∙ ap (turned (above r (suc c))) (sym (crossed_if board.size f (ltb r board.size.rows) r c))

  -- a horizontal side is a line exactly where these differ
  flat_line : (r c : ℕ) → r ≤ board.size.rows → c < board.size.cols → is_line f (flat_side board.size r c) ≡ turned
      (above r c) (here r c)
  flat_line r zero low_r low_c =
      sym (right_is r zero low_c) ∙ at_dot r zero low_r (omega arith)
      ∙ ap (λ x. turned x (line_of f (side_down board.size r zero))) (up_is r zero)
      ∙ ap (turned (above r zero)) (down_is r zero)
  flat_line r (suc c) low_r low_c = sym (right_is r (suc c) low_c) ∙ at_dot r (suc c) low_r (omega arith)
      ∙ after r c (flat_line r c low_r (omega arith))

  -- past the last column the parities of a row and of the one above are the same
  last_same : (n r : ℕ) → suc n ≡ board.size.cols → r ≤ board.size.rows → above r (suc n) ≡ here r (suc n)
  last_same n r e low =
      let none : line_of f (side_right board.size r (suc n)) ≡ false =
      ap (λ b. line_of f (cond b (Some (flat_side board.size r (suc n))) None))
      (le-ltb (suc n) board.size.cols (omega arith)) in
      same_from (above r (suc n)) (here r (suc n)) (sym none ∙ at_dot r (suc n) low (omega arith)
      ∙ after r n (flat_line r n low (omega arith)))

  here_is : (r c : ℕ) → r < board.size.rows → here r c ≡ crossed board.size f r c
  here_is r c low = ap (λ b. cond b (crossed board.size f r c) false) (lt-ltb r board.size.rows low)

  above_is : (r c : ℕ) → above (suc r) c ≡ crossed board.size f r c
  above_is r c = ap (λ b. cond b (crossed board.size f (suc r - 1) c) false) (lt-ltb 0 (suc r) (omega arith))
      ∙ ap (λ x. crossed board.size f x c) (let e : suc r - 1 ≡ r = omega arith in e)

  -- a row has an even number of lines
  row_even : (n r : ℕ) → suc n ≡ board.size.cols → r < board.size.rows → crossed board.size f r (suc n) ≡ false
  row_even n zero e low = sym (here_is zero (suc n) low) ∙ sym (last_same n zero e (omega arith))
  row_even n (suc r) e low = sym (here_is (suc r) (suc n) low) ∙ sym (last_same n (suc r) e (omega arith))
      ∙ above_is r (suc n) ∙ row_even n r e (omega arith)

  -- the colours of the cells at a horizontal side
  first_flat : (side r c : ℕ) → side ≡ r * board.size.cols + c → r ≤ board.size.rows → c < board.size.cols
      → colour_of board.size f (cells_by_flat board.size side).0 ≡ above r c
  first_flat side zero c is low_r low_c =
      ap (λ b. colour_of board.size f (cond b (cells board.size) (side - board.size.cols)))
      (lt-ltb side board.size.cols (omega arith)) ∙ outside_colour board.size f
  first_flat side (suc r) c is low_r low_c =
      ap (λ b. colour_of board.size f (cond b (cells board.size) (side - board.size.cols)))
      (le-ltb side board.size.cols (omega arith))
      ∙ ap (colour_of board.size f) (let e : side - board.size.cols ≡ r * board.size.cols + c = omega arith in e)
      ∙ cell_colour board.size f r c (omega arith) low_c ∙ sym (above_is r c)

  second_flat : (side r c : ℕ) → side ≡ r * board.size.cols + c → r ≤ board.size.rows → c < board.size.cols
      → colour_of board.size f (cells_by_flat board.size side).1 ≡ here r c
  second_flat side r c is low_r low_c = elim (cases_lt r board.size.rows) [
    | inl low ↦
        let within = mul-add-lt r board.size.cols c board.size.rows low low_c in
        ap (λ b. colour_of board.size f (cond b side (cells board.size))) (lt-ltb side (cells board.size) (omega arith))
        ∙ ap (colour_of board.size f) is ∙ cell_colour board.size f r c low low_c ∙ sym (here_is r c low)
    | inr high ↦
        let last : r ≡ board.size.rows = omega arith in
        let beyond : r * board.size.cols ≡ board.size.rows * board.size.cols = ap (λ x. x * board.size.cols) last in
        ap (λ b. colour_of board.size f (cond b side (cells board.size))) (le-ltb side (cells board.size) (omega arith))
        ∙ outside_colour board.size f ∙ sym (ap (λ b. cond b (crossed board.size f r c) false)
        (le-ltb r board.size.rows high))
  ]

  by_flat : (side r c : ℕ) → side ≡ r * board.size.cols + c → r ≤ board.size.rows → c < board.size.cols
      → colour_of board.size f (cells_by_flat board.size side).0 ≡ turned (is_line f side)
      (colour_of board.size f (cells_by_flat board.size side).1)
  by_flat side r c is low_r low_c =
      let line : is_line f side ≡ turned (above r c) (here r c) = ap (is_line f) is ∙ flat_line r c low_r low_c in
      first_flat side r c is low_r low_c ∙ taken_off (above r c) (here r c) ∙ ap (λ x. turned x (here r c)) (sym line)
      ∙ ap (turned (is_line f side)) (sym (second_flat side r c is low_r low_c))

  -- the colours of the cells at an upright side
  first_upright : (r c : ℕ) → r < board.size.rows → c < board.size.cols
      → colour_of board.size f (cells_by_upright board.size r (suc c)).0 ≡ crossed board.size f r c
  first_upright r c low_r low_c =
      ap (λ b. colour_of board.size f (cond b (r * board.size.cols + (suc c - 1)) (cells board.size)))
      (lt-ltb 0 (suc c) (omega arith))
      ∙ ap (colour_of board.size f) (let e : r * board.size.cols + (suc c - 1) ≡ r * board.size.cols + c = omega
      arith in e)
      ∙ cell_colour board.size f r c low_r low_c

  second_upright : (r c : ℕ) → r < board.size.rows → c < board.size.cols
      → colour_of board.size f (cells_by_upright board.size r c).1 ≡ crossed board.size f r c
  second_upright r c low_r low_c =
      ap (λ b. colour_of board.size f (cond b (r * board.size.cols + c) (cells board.size)))
      (lt-ltb c board.size.cols low_c)
      ∙ cell_colour board.size f r c low_r low_c

  -- what is right of the last cell of a row is outside, and an even number of lines is before it
  after_last : (r c : ℕ) → r < board.size.rows → suc c ≡ board.size.cols
      → colour_of board.size f (cells_by_upright board.size r (suc c)).1 ≡ crossed board.size f r (suc c)
  after_last r c low_r last =
      ap (λ b. colour_of board.size f (cond b (r * board.size.cols + suc c) (cells board.size)))
      (le-ltb (suc c) board.size.cols (omega arith))
      ∙ outside_colour board.size f ∙ sym (row_even c r last low_r)

  by_upright : (side r c : ℕ) → side ≡ upright_side board.size r c → r < board.size.rows → c ≤ board.size.cols
      → colour_of board.size f (cells_by_upright board.size r c).0 ≡ turned (is_line f side)
      (colour_of board.size f (cells_by_upright board.size r c).1)
  by_upright side r zero is low_r low_c =
      let second = second_upright r zero low_r is_size.some_cols in
      let line : is_line f side ≡ crossed board.size f r zero = ap (is_line f) is in
      outside_colour board.size f ∙ off_itself (crossed board.size f r zero)
      ∙ ap (λ x. turned x (crossed board.size f r zero)) (sym line)
      ∙ ap (turned (is_line f side)) (sym second)
  by_upright side r (suc c) is low_r low_c =
      let second : colour_of board.size f (cells_by_upright board.size r (suc c)).1 ≡ crossed board.size f r (suc c) =
      elim (cases_lt (suc c) board.size.cols) [
        | inl low ↦ second_upright r (suc c) low_r low
        | inr high ↦ after_last r c low_r (omega arith)
      ] in
      first_upright r c low_r (omega arith) ∙ back (is_line f (upright_side board.size r (suc c)))
      (crossed board.size f r c)
      ∙ ap (λ x. turned (is_line f x) (crossed board.size f r (suc c))) (sym is)
      ∙ ap (turned (is_line f side)) (sym second)

  -- the law, for a board and a filling
  crossing_here : (side : ℕ) → side < all_sides board.size
      → colour_of board.size f (cells_by board.size side).0 ≡ turned (is_line f side)
      (colour_of board.size f (cells_by board.size side).1)
  crossing_here side low =
      let place = side - flat_sides board.size in
      let differ : Bool → Type 0 = λ b. colour_of board.size f
      (cond b (cells_by_flat board.size side) (cells_by_upright board.size (place / (board.size.cols + 1))
      (place % (board.size.cols + 1)))).0
      ≡ turned (is_line f side) (colour_of board.size f (cond b (cells_by_flat board.size side)
      (cells_by_upright board.size (place / (board.size.cols + 1)) (place % (board.size.cols + 1)))).1) in
      elim (cases_lt side (flat_sides board.size)) [
        | inl flat ↦
            let r = div_below side board.size.cols (board.size.rows + 1) is_size.some_cols flat in
            subst differ (sym (lt-ltb side (flat_sides board.size) flat))
            (by_flat side (side / board.size.cols) (side % board.size.cols) (sym (div-add-mod' side board.size.cols))
            (omega arith) (mod_below side board.size.cols is_size.some_cols))
        | inr upright ↦
            let r = div_below place (board.size.cols + 1) board.size.rows (omega arith) (omega arith) in
            let c = mod_below place (board.size.cols + 1) (omega arith) in
            let parts = div-add-mod' place (board.size.cols + 1) in
            subst differ (sym (le-ltb side (flat_sides board.size) upright))
            (by_upright side (place / (board.size.cols + 1)) (place % (board.size.cols + 1)) (omega arith) r
            (omega arith))
      ]

pub crossing : (board : Board) (f : List ℕ) (side : ℕ) → board.kind ≡ Slither → IsSize board.size → IsRight board f
    → side < all_sides board.size
    → colour_of board.size f (cells_by board.size side).0 ≡ turned (is_line f side)
    (colour_of board.size f (cells_by board.size side).1)
crossing board f side kind size right low = crossing_here board f kind size right side low
