-- What marks, regions and numbers of a partial filling say.
use Rattle.std.specs.Prelude.{◌≡◌, ◌≢◌, ◌↔◌, ℕ, ◌<◌, List, length, slice_get, slice_index, slice_index_or, Option, Some}
use Rattle.std.specs.Prelude.{None}
use Rattle.hall_grid.specs.declared.board.Size.{Size}
use Rattle.hall_grid.specs.declared.board.Clue.TheVariants.{Number}
use Rattle.hall_grid.specs.Board.{Board, cells, Touch}
use Rattle.hall_grid.specs.Nurikabe.{IsNumbered}
use Rattle.hall_grid.specs.Component.{IsLabelled, AreComponents}
use Rattle.hall_solve.specs.Question.{Question, Extends}
use Rattle.hall_solve.specs.Deduction.{HasAlways}
use Rattle.hall_nurikabe.specs.Counts.{HasCount}
use Rattle.hall_grid.specs.declared.board.Kind.TheVariants.{Nurikabe}
use Rattle.hall_solve.specs.Puzzle.{IsRight, question_of}

-- the filling has the values of the list, where there are any
abbrev pub with_forced : Board → List (Option ℕ) → Question
with_forced board forced =
    record { cells = cells board.size; values = 2; right = λ f. IsRight board f × Extends f forced }

-- each value of the list is one that every solution has at its place
pub record AreForced (board : Board) (p forced : List (Option ℕ)) : Type 0 where
  pub exact : length forced ≡ cells board.size
  pub always : (cell v : ℕ) → slice_index_or forced cell None ≡ Some v
      → (v < 2) × HasAlways (question_of Nurikabe board) p cell v

-- the cells that are set to the value
abbrev pub IsSetTo : List (Option ℕ) → ℕ → ℕ → Type 0
IsSetTo p value cell = slice_index_or p cell None ≡ Some value

-- the cells of the board that aren't set to the value
abbrev pub IsOpenTo : List (Option ℕ) → ℕ → ℕ → Type 0
IsOpenTo p value cell = (cell < length p) × (slice_index_or p cell None ≡ Some value → ⊥)

-- the regions of a set of cells, and for each label how many cells have it
pub record AreRegions (size : Size) (IsMember : ℕ → Type 0) (labels : List (Option ℕ)) (sizes : List ℕ) : Type 0 where
  pub components : AreComponents (cells size) (Touch size) IsMember labels
  pub exact : length sizes ≡ cells size
  pub counted : (label : ℕ) → label < cells size
      → HasCount (λ cell. IsLabelled labels cell label) (slice_index sizes label)

-- a cell beside the cell has the label
abbrev pub IsBeside : Size → List (Option ℕ) → ℕ → ℕ → Type 0
IsBeside size labels cell label = (other : ℕ) × Touch size cell other × IsLabelled labels other label

-- each label's number is a cell of it, and there is one where such a cell has a number
pub record AreOwners (board : Board) (labels owners : List (Option ℕ)) : Type 0 where
  pub exact : length owners ≡ cells board.size
  pub owner : (label cell : ℕ) → slice_index_or owners label None ≡ Some cell
      → IsNumbered board cell × IsLabelled labels cell label
  pub found : (label cell : ℕ) → IsNumbered board cell → IsLabelled labels cell label
      → (owner : ℕ) × (slice_index_or owners label None ≡ Some owner)

-- two cells with numbers have one label
abbrev pub HaveTwoOwners : Board → List (Option ℕ) → Type 0
HaveTwoOwners board labels = (a b label : ℕ) × (a ≢ b) × IsNumbered board a × IsNumbered board b
    × IsLabelled labels a label × IsLabelled labels b label

-- the cells that are set to the value have kept their labels, and no other has one
pub record AreKept (p : List (Option ℕ)) (value : ℕ) (old new : List (Option ℕ)) : Type 0 where
  pub exact : length new ≡ length old
  pub kept : (cell label : ℕ) → IsLabelled new cell label ↔ (IsLabelled old cell label × IsSetTo p value cell)
