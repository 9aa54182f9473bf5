-- Which cells lie inside the loop of a right filling, and what is known of it.
use Rattle.std.specs.Prelude.{◌≡◌, ℕ, zero, suc, ◌+◌, ◌-◌, ◌*◌, ◌/◌, ◌%◌, ◌<◌, nat_lt, Bool, true, false, not}
use Rattle.std.specs.Prelude.{List, Option, length, slice_index_or, if◌then◌else◌}
use Rattle.hall_grid.specs.declared.board.Size.{Size}
use Rattle.hall_grid.specs.declared.board.Kind.TheVariants.{Slither}
use Rattle.hall_grid.specs.Board.{Board, cells, row, col}
use Rattle.hall_grid.specs.Slither.{flat_sides, upright_side, is_line}
use Rattle.hall_solve.specs.Question.{Solves}
use Rattle.hall_solve.specs.Puzzle.{question_of}
use Rattle.hall_slither.specs.declared.colour.Link.{Link}

-- the other value where they differ
abbrev pub turned : Bool → Bool → Bool
turned true b = not b
turned false b = b

-- whether the upright sides of the row from column 0 to c have an odd number of lines
abbrev pub crossed : Size → List ℕ → ℕ → ℕ → Bool
crossed size f r zero = is_line f (upright_side size r 0)
crossed size f r (suc c) = turned (is_line f (upright_side size r (suc c))) (crossed size f r c)

-- the colour of a cell: whether it lies inside the loop; the number after the last cell stands for what is outside of
-- the board
abbrev pub colour_of : Size → List ℕ → ℕ → Bool
colour_of size f cell = if nat_lt cell (cells size) then crossed size f (row size cell) (col size cell) else false

-- the cells above and below a horizontal side, with the number after the last cell for what is outside
abbrev pub cells_by_flat : Size → ℕ → ℕ × ℕ
cells_by_flat size side = (
  if nat_lt side size.cols then cells size else side - size.cols,
  if nat_lt side (cells size) then side else cells size,
)

-- the cells left and right of the upright side in row r and column c
abbrev pub cells_by_upright : Size → ℕ → ℕ → ℕ × ℕ
cells_by_upright size r c = (
  if nat_lt 0 c then r * size.cols + (c - 1) else cells size,
  if nat_lt c size.cols then r * size.cols + c else cells size,
)

-- the cells on both sides of a side
abbrev pub cells_by : Size → ℕ → ℕ × ℕ
cells_by size side =
    if nat_lt side (flat_sides size)
    then cells_by_flat size side
    else cells_by_upright size ((side - flat_sides size) / (size.cols + 1)) ((side - flat_sides size) % (size.cols + 1))

-- a link to itself
abbrev pub own_link : ℕ → Link
own_link cell = record { to = cell; differs = false; weight = 1 }

-- the colours follow the links
abbrev pub Obeys : List Link → (ℕ → Bool) → Type 0
Obeys links colour = (x : ℕ) → x < length links
    → colour x ≡ turned (slice_index_or links x (own_link x)).differs (colour (slice_index_or links x (own_link x)).to)

-- two cells have colours that differ or not, as is said
abbrev pub AreTurned : Bool → ℕ → ℕ → (ℕ → Bool) → Type 0
AreTurned differs a b colour = colour a ≡ turned differs (colour b)

-- a link for each cell and for what is outside; in each solution the colours follow them
pub record AreColoured (board : Board) (p : List (Option ℕ)) (links : List Link) : Type 0 where
  pub exact : length links ≡ cells board.size + 1
  pub obeyed : (f : List ℕ) → Solves (question_of Slither board) p f → Obeys links (colour_of board.size f)
