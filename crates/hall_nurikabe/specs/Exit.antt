-- Open cells beside regions.
use Rattle.std.specs.Prelude.{◌≡◌, ◌⊎◌, ℕ, ◌<◌, List, length, slice_get, slice_index, slice_index_or}
use Rattle.std.specs.Prelude.{Option, Some, None, Bool}
use Rattle.hall_grid.specs.declared.board.Clue.TheVariants.{Number}
use Rattle.hall_grid.specs.declared.board.Size.{Size}
use Rattle.hall_grid.specs.Board.{Board, cells, Touch}
use Rattle.hall_grid.specs.Walk.{Walk}
use Rattle.hall_grid.specs.Component.{IsLabelled}
use Rattle.hall_grid.specs.Reached.{IsMarked}
use Rattle.hall_solve.specs.Question.{Solves}
use Rattle.hall_nurikabe.specs.declared.exits.Exits.{Exits}
use Rattle.hall_nurikabe.specs.declared.exits.Exits.TheVariants.{Nowhere, One, Many}
use Rattle.hall_grid.specs.declared.board.Kind.TheVariants.{Nurikabe}
use Rattle.hall_solve.specs.Puzzle.{question_of}
use Rattle.hall_nurikabe.specs.Forced.{IsBeside}

-- the cell may be among the exits
abbrev pub Covers : Exits → ℕ → Type 0
Covers Nowhere cell = ⊥
Covers (One other) cell = cell ≡ other
Covers Many cell = Unit {0}

-- the open cells below an end that stand beside cells with a label are among its exits
pub record KnowsExits (size : Size) (p labels : List (Option ℕ)) (end : ℕ) (exits : List Exits) : Type 0 where
  pub exact : length exits ≡ cells size
  pub below : (label cell : ℕ) → slice_index_or exits label Nowhere ≡ One cell → cell < cells size
  pub covers : (label cell : ℕ) → cell < end → slice_index_or p cell None ≡ None → IsBeside size labels cell label
      → Covers (slice_index_or exits label Nowhere) cell

-- the exits of some labels were added to by this cell
pub record AddsExit (cell : ℕ) (old new : List Exits) : Type 0 where
  pub exact : length new ≡ length old
  pub kept : (label other : ℕ) → Covers (slice_index_or old label Nowhere) other
      → Covers (slice_index_or new label Nowhere) other
  pub below : (label other n : ℕ) → cell < n → ((x : ℕ) → slice_index_or old label Nowhere ≡ One x → x < n)
      → slice_index_or new label Nowhere ≡ One other → other < n

-- in no solution do all cells of the value that are joined to a cell with the label have the label
abbrev pub MustGrow : Board → List (Option ℕ) → ℕ → List (Option ℕ) → ℕ → Type 0
MustGrow board p value labels label =
    (f : List ℕ) → Solves (question_of Nurikabe board) p f
    → ((c d : ℕ) → IsLabelled labels c label → (IsLabelled labels d label → ⊥)
    → Walk (Touch board.size) (λ cell. (cell < cells board.size) × (slice_index f cell ≡ value)) c d → ⊥) → ⊥

-- a group of white cells with this owner and this size is no whole island
abbrev pub NeedsMore : Board → Option ℕ → ℕ → Type 0
NeedsMore board owner size =
    (owner ≡ None)
    ⊎ ((cell given : ℕ) × (owner ≡ Some cell) × (slice_get board.clues cell ≡ Some (Number given)) × (size < given))

-- marked labels are those of groups that are no whole islands
pub record MarksGrowing (board : Board) (labels : List (Option ℕ)) (sizes : List ℕ) (owners : List (Option ℕ))
    (marks : List Bool) : Type 0 where
  pub exact : length marks ≡ length labels
  pub marked : (label : ℕ) → IsMarked marks label
      → IsLabelled labels label label × NeedsMore board (slice_index_or owners label None) (slice_index sizes label)

-- marked labels are their own label
pub record MarksRoots (labels : List (Option ℕ)) (marks : List Bool) : Type 0 where
  pub exact : length marks ≡ length labels
  pub marked : (label : ℕ) → IsMarked marks label → IsLabelled labels label label
