-- Sets of values that cells may still have.
use Rattle.std.specs.Prelude.{◌≡◌, ◌⊎◌, ◌↔◌, ℕ, ◌<◌, List, Option, Some, None, slice_index, slice_index_or}
use Rattle.hall_grid.specs.declared.board.Size.{Size}
use Rattle.hall_grid.specs.Board.{cells, row, col}
use Rattle.hall_grid.specs.Sudoku.{box}
use Rattle.hall_solve.specs.Question.{Solves, IsOpen}
use Rattle.hall_sudoku.specs.declared.candidates.Taken.{Taken}
use Rattle.hall_sudoku.specs.declared.singles.Shared.{Shared}
use Rattle.hall_sudoku.specs.Values.{Has, HasTwo}
use Rattle.hall_sudoku.specs.Settled.{StandsIn, MayTake}
use Rattle.hall_sudoku.specs.Units.{units_question}

-- each unit's set has what stands in the unit
abbrev pub AreTaken : (ℕ → ℕ) → List (Option ℕ) → List ℕ → Type 0
AreTaken unit p taken = (at value : ℕ) → Has (slice_index taken at) value ↔ StandsIn unit p at value

pub record AreAllTaken (size : Size) (p : List (Option ℕ)) (taken : Taken) : Type 0 where
  pub rows : AreTaken (row size) p taken.rows
  pub columns : AreTaken (col size) p taken.columns
  pub boxes : AreTaken (box size) p taken.boxes

-- the set has the cell's value in every solution, and besides only what the cell may take
pub record IsLeft (size : Size) (p : List (Option ℕ)) (cell : ℕ) (left : ℕ) : Type 0 where
  pub in_range : (v : ℕ) → Has left v → v < size.cols
  pub holds : (f : List ℕ) → Solves (units_question size) p f → Has left (slice_index f cell)
  pub set : (w : ℕ) → slice_index_or p cell None ≡ Some w → (v : ℕ) → Has left v → v ≡ w
  pub unset : IsOpen p cell → (v : ℕ) → Has left v → MayTake size p cell v

-- each cell's set is what is left to it
abbrev pub AreCandidates : Size → List (Option ℕ) → List ℕ → Type 0
AreCandidates size p candidates = (cell : ℕ) → cell < cells size → IsLeft size p cell (slice_index candidates cell)

-- each cell's set has a value
abbrev pub AreFilled : Size → List ℕ → Type 0
AreFilled size candidates = (cell : ℕ) → cell < cells size → ((v : ℕ) → Has (slice_index candidates cell) v → ⊥) → ⊥

-- one of the first n cells is in the unit, and may have the value
pub record IsSeen (unit : ℕ → ℕ) (n : ℕ) (candidates : List ℕ) (at value : ℕ) : Type 0 where
  pub cell : ℕ
  pub before : cell < n
  pub unit_is : unit cell ≡ at
  pub has : Has (slice_index candidates cell) value

-- two of the first n cells are in the unit, and may have the value
pub record IsSeenTwice (unit : ℕ → ℕ) (n : ℕ) (candidates : List ℕ) (at value : ℕ) : Type 0 where
  pub first : ℕ
  pub second : ℕ
  pub order : first < second
  pub before : second < n
  pub in_first : unit first ≡ at
  pub in_second : unit second ≡ at
  pub has_first : Has (slice_index candidates first) value
  pub has_second : Has (slice_index candidates second) value

-- each unit's set has what one of the first n cells may have there
pub record AreSeen (unit : ℕ → ℕ) (n : ℕ) (candidates seen : List ℕ) : Type 0 where
  pub all : (a v : ℕ) → a < n → Has (slice_index candidates a) v → Has (slice_index seen (unit a)) v
  pub alone : (at v : ℕ) → Has (slice_index seen at) v → IsSeen unit n candidates at v

-- each unit's set has what two of the first n cells may have there
pub record AreShared (unit : ℕ → ℕ) (n : ℕ) (candidates shared : List ℕ) : Type 0 where
  pub all : (a b v : ℕ) → a < b → b < n → unit a ≡ unit b
      → Has (slice_index candidates a) v → Has (slice_index candidates b) v → Has (slice_index shared (unit a)) v
  pub alone : (at v : ℕ) → Has (slice_index shared at) v → IsSeenTwice unit n candidates at v

-- each value below the side is seen in each unit
abbrev pub AreComplete : (ℕ → ℕ) → ℕ → List ℕ → ℕ → Type 0
AreComplete unit n candidates side = (at v : ℕ) → at < side → v < side → IsSeen unit n candidates at v

pub record AreAllShared (size : Size) (candidates : List ℕ) (shared : Shared) : Type 0 where
  pub rows : AreShared (row size) (cells size) candidates shared.rows
  pub columns : AreShared (col size) (cells size) candidates shared.columns
  pub boxes : AreShared (box size) (cells size) candidates shared.boxes

pub record AreAllComplete (size : Size) (candidates : List ℕ) : Type 0 where
  pub rows : AreComplete (row size) (cells size) candidates size.cols
  pub columns : AreComplete (col size) (cells size) candidates size.cols
  pub boxes : AreComplete (box size) (cells size) candidates size.cols

-- no cell of a unit may have a value
pub record IsMissing (unit : ℕ → ℕ) (n : ℕ) (candidates : List ℕ) (side : ℕ) : Type 0 where
  pub at : ℕ
  pub value : ℕ
  pub at_small : at < side
  pub value_small : value < side
  pub nowhere : (a : ℕ) → a < n → unit a ≡ at → Has (slice_index candidates a) value → ⊥

-- a unit's set lacks a value below the side
pub record Lacks (side : ℕ) (seen : List ℕ) : Type 0 where
  pub at : ℕ
  pub value : ℕ
  pub at_small : at < side
  pub value_small : value < side
  pub lacks : Has (slice_index seen at) value → ⊥

-- no unit's set of the first n lacks a value below the side
abbrev pub LacksNothing : ℕ → ℕ → List ℕ → Type 0
LacksNothing n side seen = (at v : ℕ) → at < n → v < side → Has (slice_index seen at) v

-- the cell may have the value, and no other value, or no other cell of one of its units may have it
pub record IsSole (size : Size) (candidates : List ℕ) (shared : Shared) (cell value : ℕ) : Type 0 where
  pub may : Has (slice_index candidates cell) value
  pub sole : ((w : ℕ) → Has (slice_index candidates cell) w → w ≡ value)
      ⊎ (Has (slice_index shared.rows (row size cell)) value → ⊥)
      ⊎ (Has (slice_index shared.columns (col size cell)) value → ⊥)
      ⊎ (Has (slice_index shared.boxes (box size cell)) value → ⊥)

-- the cell may have two values, and another cell of each of its units each of them
pub record HasNoSole (size : Size) (candidates : List ℕ) (shared : Shared) (cell : ℕ) : Type 0 where
  pub two : HasTwo (slice_index candidates cell)
  pub rows : (v : ℕ) → Has (slice_index candidates cell) v → Has (slice_index shared.rows (row size cell)) v
  pub columns : (v : ℕ) → Has (slice_index candidates cell) v → Has (slice_index shared.columns (col size cell)) v
  pub boxes : (v : ℕ) → Has (slice_index candidates cell) v → Has (slice_index shared.boxes (box size cell)) v

-- no open cell has a value that follows
abbrev pub HaveNoSole : Size → List (Option ℕ) → List ℕ → Shared → Type 0
HaveNoSole size p candidates shared = (cell : ℕ) → cell < cells size → slice_index_or p cell None ≡ None
    → HasNoSole size candidates shared cell
