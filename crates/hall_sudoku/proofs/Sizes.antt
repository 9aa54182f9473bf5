-- Sizes of Sudoku boards, and the cells of their units.
use Rattle.std.proofs.Common.{◌≡◌, ◌≢◌, ℕ, ◌+◌, ◌*◌, ◌/◌, ◌%◌, ◌<◌, ◌≤◌, refl, sym, ◌∙◌, ap, inl, inr, arith}
use Rattle.std.proofs.Math.Nat.{mul_comm}
use Rattle.std.proofs.lemmas.Nat.{div-mul-add, mod-mul-add, mul-add-lt, div_below, mod_below, div-add-mod'}
use Rattle.hall_grid.specs.declared.board.Size.{Size}
use Rattle.hall_grid.specs.declared.board.Kind.TheVariants.{Sudoku}
use Rattle.hall_grid.specs.Board.{HasSize, cells, row, col}
use Rattle.hall_grid.specs.Sudoku.{box, box_cols, box_rows}
use Rattle.hall_sudoku.specs.declared.unit.Unit.{Unit}
use Rattle.hall_sudoku.specs.declared.unit.Unit.TheVariants as units
use Rattle.hall_sudoku.specs.Unit.{unit_of}

-- what the sizes of Sudoku have in common
pub record IsSquare (size : Size) : Type 0 where
  pub square : size.rows ≡ size.cols
  pub some : 0 < size.cols
  pub few : size.cols ≤ 25
  pub room : cells size ≤ 625
  pub some_cols : 0 < box_cols size
  pub some_rows : 0 < box_rows size
  pub boxed : box_rows size * box_cols size ≡ size.cols

pub square_of : (size : Size) → HasSize Sudoku size → IsSquare size
square_of size h =
    elim h.1 [
      | inl e ↦ record {
        square = sym h.0;
        some = omega arith;
        few = omega arith;
        room =
            (rw (sym h.0, e) (omega arith));
        some_cols = rw e (omega arith);
        some_rows = rw e (omega arith);
        boxed = rw e
            refl;
      }
      | inr k ↦ elim k [
        | inl e ↦ record {
          square = sym h.0;
          some = omega arith;
          few = omega arith;
          room =
              (rw (sym h.0, e) (omega arith));
          some_cols = rw e (omega arith);
          some_rows = rw e (omega arith);
          boxed =
              rw e refl;
        }
        | inr m ↦ elim m [
          | inl e ↦ record {
            square = sym h.0;
            some = omega arith;
            few = omega arith;
            room =
                (rw (sym h.0, e) (omega arith));
            some_cols = rw e (omega arith);
            some_rows = rw e (omega arith);
            boxed =
                rw e refl;
          }
          | inr o ↦ elim o [
            | inl e ↦ record {
              square = sym h.0;
              some = omega arith;
              few = omega arith;
              room =
                  (rw (sym h.0, e) (omega arith));
              some_cols = rw e (omega arith);
              some_rows = rw e (omega arith);
              boxed =
                  rw e refl;
            }
            | inr e ↦ record {
              square = sym h.0;
              some = omega arith;
              few = omega arith;
              room =
                  (rw (sym h.0, e) (omega arith));
              some_cols = rw e (omega arith);
              some_rows = rw e (omega arith);
              boxed =
                  rw e refl;
            }
          ]
        ]
      ]
    ]

-- unit: the unit of a cell. at: the cells of a unit, one for each number below the side
pub record IsUnit (size : Size) (unit : ℕ → ℕ) (at : ℕ → ℕ → ℕ) : Type 0 where
  pub small : (cell : ℕ) → cell < cells size → unit cell < size.cols
  pub within : (u k : ℕ) → u < size.cols → k < size.cols → at u k < cells size
  pub there : (u k : ℕ) → u < size.cols → k < size.cols → unit (at u k) ≡ u
  pub apart : (u j k : ℕ) → u < size.cols → j < k → k < size.cols → at u j ≢ at u k

module _ (size : Size) (s : IsSquare size) where
  area : cells size ≡ size.cols * size.cols
  area = ap (λ n. n * size.cols) s.square

  pub row_unit : IsUnit size (row size) (λ u k. u * size.cols + k)
  row_unit = record {
    small = λ cell lt. div_below cell size.cols size.cols s.some (omega (arith, area));
    within = λ u k hu hk. omega (arith, area, mul-add-lt u size.cols k size.cols hu hk);
    there = λ u k hu hk. div-mul-add u size.cols k hk;
    apart = λ u j k hu lt hk. omega arith;
  }

  pub column_unit : IsUnit size (col size) (λ u k. k * size.cols + u)
  column_unit = record {
    small = λ cell lt. mod_below cell size.cols s.some;
    within = λ u k hu hk. omega (arith, area, mul-add-lt k size.cols u size.cols hk hu);
    there = λ u k hu hk. mod-mul-add k size.cols u hu;
    apart = λ u j k hu lt hk e.
        let same : j ≡ k = sym (div-mul-add j size.cols u hu) ∙ ap (λ x. x / size.cols) e
        ∙ div-mul-add k size.cols u hu in omega arith;
  }

-- h, w: the height and the width of a box. u: a box. k: a cell of it
module _ (h w n : ℕ) (some_h : 0 < h) (some_w : 0 < w) (boxed : h * w ≡ n) (u : ℕ) (hu : u < n) where
  down : ℕ → ℕ
  down k = u / h * h + k / w

  over : ℕ → ℕ
  over k = u % h * w + k % w

  pub over_small : (k : ℕ) → u % h * w + k % w < n
  over_small k = omega (
    arith,
    mul-add-lt (u % h) w (k % w) h (mod_below u h some_h) (mod_below k w some_w),
    mul_comm h
        w,
  )

  pub down_small : (k : ℕ) → k < n → u / h * h + k / w < n
  down_small k hk =
      let across : u / h < w = div_below u h w some_h (omega (arith, mul_comm h w)) in
      let inside : k / w < h = div_below k w h some_w (omega arith) in
      omega (arith, mul-add-lt (u / h) h (k / w) w across inside)

  pub down_part : (k : ℕ) → k < n → (u / h * h + k / w) / h ≡ u / h
  down_part k hk = div-mul-add (u / h) h (k / w) (div_below k w h some_w (omega arith))

  pub over_part : (k : ℕ) → (u % h * w + k % w) / w ≡ u % h
  over_part k = div-mul-add (u % h) w (k % w) (mod_below k w some_w)

  pub down_is : (k : ℕ) → ((u / h * h + k / w) * n + (u % h * w + k % w)) / n ≡ u / h * h + k / w
  down_is k = div-mul-add (u / h * h + k / w) n (u % h * w + k % w) (over_small k)

  pub over_is : (k : ℕ) → ((u / h * h + k / w) * n + (u % h * w + k % w)) % n ≡ u % h * w + k % w
  over_is k = mod-mul-add (u / h * h + k / w) n (u % h * w + k % w) (over_small k)

  pub same_cell : (j k : ℕ) → (u / h * h + j / w) * n + (u % h * w + j % w) ≡ (u / h * h + k / w) * n +
      (u % h * w + k % w) → j ≡ k
  same_cell j k e =
      let downs : u / h * h + j / w ≡ u / h * h + k / w = sym (down_is j) ∙ ap (λ x. x / n) e ∙ down_is k in
      let overs : u % h * w + j % w ≡ u % h * w + k % w = sym (over_is j) ∙ ap (λ x. x % n) e ∙ over_is k in
      let quotients : j / w ≡ k / w = omega arith in
      let rests : j % w ≡ k % w = omega arith in
      sym (div-add-mod' j w) ∙ ap (λ x. x * w + j % w) quotients ∙ ap (λ x. k / w * w + x) rests ∙ div-add-mod' k w

-- the cell number k of a box
abbrev pub box_cell : Size → ℕ → ℕ → ℕ
box_cell size u k = (u / box_rows size * box_rows size + k / box_cols size) * size.cols +
    (u % box_rows size * box_cols size + k % box_cols size)

pub box_unit : (size : Size) → IsSquare size → IsUnit size (box size) (box_cell size)
box_unit size s = record {
  small = λ cell lt.
      let h = box_rows size in
      let w = box_cols size in
      let area : cells size ≡ size.cols * size.cols = ap (λ n. n * size.cols) s.square in
      let row_small : row size cell < size.cols = div_below cell size.cols size.cols s.some (omega (arith, area)) in
      let col_small : col size cell < size.cols = mod_below cell size.cols s.some in
      let across : row size cell / h < w = div_below (row size cell) h w s.some_rows
      (omega (arith, s.boxed, mul_comm h w)) in
      let inside : col size cell / w < h = div_below (col size cell) w h s.some_cols (omega (arith, s.boxed)) in
      omega (
        arith,
        mul-add-lt (row size cell / h) h (col size cell / w) w across inside,
        s.boxed,
        mul_comm h
            (row size cell / h),
      );
  within = λ u k hu hk.
      let area : cells size ≡ size.cols * size.cols = ap (λ n. n * size.cols) s.square in
      let r = down_small (box_rows size) (box_cols size) size.cols s.some_rows s.some_cols s.boxed u hu k hk in
      let c = over_small (box_rows size) (box_cols size) size.cols s.some_rows s.some_cols s.boxed u hu k in
      omega (
        arith,
        area,
        mul-add-lt (u / box_rows size * box_rows size + k / box_cols size) size.cols
            (u % box_rows size * box_cols size + k % box_cols size) size.cols r c,
      );
  there = λ u k hu hk.
      let h = box_rows size in
      let w = box_cols size in
      let down_e : row size (box_cell size u k) / h ≡ u / h = ap (λ x. x / h)
      (down_is h w size.cols s.some_rows s.some_cols s.boxed u hu k)
      ∙ down_part h w size.cols s.some_rows s.some_cols s.boxed u hu k hk in
      let over_e : col size (box_cell size u k) / w ≡ u % h = ap (λ x. x / w)
      (over_is h w size.cols s.some_rows s.some_cols s.boxed u hu k)
      ∙ over_part h w size.cols s.some_rows s.some_cols s.boxed u hu k in
      ap (λ x. h * x + col size (box_cell size u k) / w) down_e ∙ ap (λ x. h * (u / h) + x) over_e
      ∙ ap (λ x. x + u % h) (mul_comm h (u / h)) ∙ div-add-mod' u h;
  apart = λ u j k hu lt hk e.
      let same : j ≡ k = same_cell (box_rows size) (box_cols size) size.cols s.some_rows s.some_cols s.boxed u hu j k
      e in
      omega arith;
}

pub unit_small : (unit : Unit) (size : Size) → HasSize Sudoku size → (cell : ℕ) → cell < cells size
    → unit_of unit size cell < 25
unit_small units.Row size h cell lt = let s = square_of size h in omega (arith, (row_unit size s).small cell lt, s.few)
unit_small units.Column size h cell lt = let s = square_of size h in omega
    (arith, (column_unit size s).small cell lt, s.few)
unit_small units.Box size h cell lt = let s = square_of size h in omega (arith, (box_unit size s).small cell lt, s.few)
