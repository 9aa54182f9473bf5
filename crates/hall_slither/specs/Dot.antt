-- The sides at a dot, and counts of sides.
use Rattle.std.specs.Prelude.{ℕ, ◌+◌, ◌-◌, ◌/◌, ◌%◌, ◌<◌, nat_lt, Bool, if◌then◌else◌, List, [], ◌∷◌, All}
use Rattle.std.specs.Prelude.{Option, Some, None, IfSome}
use Rattle.hall_grid.specs.declared.board.Size.{Size}
use Rattle.hall_grid.specs.Slither.{flat_side, upright_side}

-- the row of a dot
abbrev pub dot_row : Size → ℕ → ℕ
dot_row size d = d / (size.cols + 1)

-- the column of a dot
abbrev pub dot_col : Size → ℕ → ℕ
dot_col size d = d % (size.cols + 1)

-- the side up from the dot of this row and column, where it is on the board
abbrev pub side_up : Size → ℕ → ℕ → Option ℕ
side_up size r c = if nat_lt 0 r then Some (upright_side size (r - 1) c) else None

-- the side to the left of it, where it is on the board
abbrev pub side_left : Size → ℕ → ℕ → Option ℕ
side_left size r c = if nat_lt 0 c then Some (flat_side size r c - 1) else None

-- the side to the right of it, where it is on the board
abbrev pub side_right : Size → ℕ → ℕ → Option ℕ
side_right size r c = if nat_lt c size.cols then Some (flat_side size r c) else None

-- the side down from it, where it is on the board
abbrev pub side_down : Size → ℕ → ℕ → Option ℕ
side_down size r c = if nat_lt r size.rows then Some (upright_side size r c) else None

-- the sides at a dot: up, left, right, down
abbrev pub sides_at : Size → ℕ → List (Option ℕ)
sides_at size d =
    side_up size (dot_row size d) (dot_col size d)
    ∷ side_left size (dot_row size d) (dot_col size d)
    ∷ side_right size (dot_row size d) (dot_col size d)
    ∷ side_down size (dot_row size d) (dot_col size d) ∷ []

-- 1 where there is such a side and it passes the test, else 0
abbrev pub count_at : (ℕ → Bool) → Option ℕ → ℕ
count_at p None = 0
count_at p (Some side) = if p side then 1 else 0

-- the options have numbers below n alone
abbrev pub AreBelow : ℕ → List (Option ℕ) → Type 0
AreBelow n sides = All (λ o. IfSome o (λ s. s < n)) sides
