-- How far numbers reach over cells without wall, beyond their groups.
use Rattle.std.specs.Prelude.{◌≡◌, ◌⊎◌, ℕ, ◌+◌, ◌<◌, ◌≤◌, List, Option, length, slice_index, slice_index_or}
use Rattle.std.specs.Prelude.{slice_get, Some, None}
use Rattle.hall_grid.specs.declared.board.Size.{Size}
use Rattle.hall_grid.specs.declared.board.Clue.TheVariants.{Unknown, Number}
use Rattle.hall_grid.specs.Board.{Board, cells, Touch}
use Rattle.hall_grid.specs.Component.{IsLabelled}
use Rattle.hall_grid.specs.Nurikabe.{IsNumbered}
use Rattle.hall_nurikabe.specs.Forced.{IsBeside, IsOpenTo}

-- the cell's number lets its island have so many cells: that many where it is known, and else as many as the board has
abbrev pub IsMost : Board → ℕ → ℕ → Type 0
IsMost board cell n = (slice_get board.clues cell ≡ Some (Number n))
    ⊎ ((slice_get board.clues cell ≡ Some Unknown) × (n ≡ cells board.size))

-- the cell is in a number's group or beside it, and has at least as much left as that group may still get
abbrev pub IsClaimed : Board → List (Option ℕ) → List ℕ → List (Option ℕ) → ℕ → ℕ → Type 0
IsClaimed board labels sizes owners cell left = (label owner : ℕ) × IsBeside board.size labels cell label
    × (slice_index_or owners label None ≡ Some owner)
    × ((n : ℕ) → IsMost board owner n → n ≤ left + slice_index sizes label)

-- what is left in a cell is enough for numbers in whose groups it is or beside whose groups it stands; else it is free
pub record IsSource (board : Board) (labels : List (Option ℕ)) (sizes : List ℕ) (owners : List (Option ℕ))
    (IsFree : Type 0) (cell left : ℕ) : Type 0 where
  pub number : (n : ℕ) → IsMost board cell n → n ≤ left
  pub group : (IsNumbered board cell → ⊥) → (label owner n : ℕ) → IsLabelled labels cell label
      → slice_index_or owners label None ≡ Some owner → IsMost board owner n → n ≤ left
  pub known : ((label owner : ℕ) × IsLabelled labels cell label × (slice_index_or owners label None ≡ Some owner))
      ⊎ IsNumbered board cell ⊎ IsClaimed board labels sizes owners cell left ⊎ IsFree

-- the same for all cells without wall
pub record AreSources (board : Board) (p labels : List (Option ℕ)) (sizes : List ℕ) (owners : List (Option ℕ))
    (IsFree : ℕ → Type 0) (left : List ℕ) : Type 0 where
  pub exact : length left ≡ cells board.size
  pub each : (cell : ℕ) → IsOpenTo p 1 cell
      → IsSource board labels sizes owners (IsFree cell) cell (slice_index left cell)

-- where more than so much is left, at most one less is left in the next cell of the set
abbrev pub FallsByOne : Size → (ℕ → Type 0) → List ℕ → ℕ → Type 0
FallsByOne size IsMember left above =
    (a b : ℕ) → Touch size a b → IsMember b → above < slice_index left a
    → slice_index left a ≤ slice_index left b + 1

-- the cells beside the cell have at most one more left
abbrev pub IsReached : Size → List ℕ → ℕ → Type 0
IsReached size left cell = (other : ℕ) → Touch size other cell → slice_index left other ≤ slice_index left cell + 1

-- what numbers have left in the cells that they reach, one less with each step
abbrev pub AreStepsLeft : Board → List (Option ℕ) → List (Option ℕ) → List ℕ → List (Option ℕ) → List ℕ → Type 0
AreStepsLeft board p labels sizes owners left =
    AreSources board p labels sizes owners (IsReached board.size left) left

-- some cells had less and have this much now; the others are as they were
pub record Raises (reach : ℕ) (old new : List ℕ) : Type 0 where
  pub exact : length new ≡ length old
  pub only : (cell : ℕ) → (slice_index new cell ≡ slice_index old cell)
      ⊎ ((slice_index old cell < reach) × (slice_index new cell ≡ reach))
