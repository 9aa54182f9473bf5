-- One group of cells that have a value, as a flood finds it from one of them.
use Rattle.std.specs.Prelude.{◌≡◌, ◌≢◌, ℕ, ◌<◌, ◌≤◌, List, Option, None, Contains, length, slice_index, slice_index_or}
use Rattle.hall_grid.specs.declared.board.Size.{Size}
use Rattle.hall_grid.specs.declared.board.Kind.TheVariants.{Nurikabe}
use Rattle.hall_grid.specs.Board.{Board, cells, Touch}
use Rattle.hall_grid.specs.Nurikabe.{IsNumbered, Lists}
use Rattle.hall_grid.specs.Walk.{Walk}
use Rattle.hall_solve.specs.Question.{IsOpen, Solves}
use Rattle.hall_solve.specs.Puzzle.{question_of}
use Rattle.hall_nurikabe.specs.declared.exits.Exits.{Exits}
use Rattle.hall_nurikabe.specs.declared.exits.Exits.TheVariants.{One, Many}
use Rattle.hall_nurikabe.specs.declared.round.Owner.{Owner}
use Rattle.hall_nurikabe.specs.declared.round.Owner.TheVariants as owners
use Rattle.hall_nurikabe.specs.Exit.{Covers}
use Rattle.hall_nurikabe.specs.Forced.{IsSetTo}

-- each cell of the list stands there at its place
abbrev pub ArePlaced : List ℕ → List ℕ → Type 0
ArePlaced places list = (i : ℕ) → i < length list → slice_index places (slice_index list i) ≡ i

-- the listed cells are on the board, each once and at its place, cells of the value join them, and a single exit is
-- open
pub record IsFound (size : Size) (p : List (Option ℕ)) (value : ℕ) (places list : List ℕ) (exits : Exits) : Type 0 where
  pub exact : length places ≡ cells size
  pub below : (x : ℕ) → Contains list x → x < cells size
  pub placed : ArePlaced places list
  pub lists : Lists list (Contains list)
  pub joined : (x y : ℕ) → Contains list x → Contains list y → Walk (Touch size) (IsSetTo p value) x y
  pub bare : (x : ℕ) → exits ≡ One x → IsOpen p x

-- a listed cell touches the cell
abbrev pub IsNear : Size → List ℕ → ℕ → Type 0
IsNear size list cell = (other : ℕ) × Contains list other × Touch size other cell

-- the cell is listed where it has the value, and among the exits where it is open
abbrev pub IsSeen : List (Option ℕ) → ℕ → List ℕ → Exits → ℕ → Type 0
IsSeen p value list exits cell =
    (IsSetTo p value cell → Contains list cell) × (slice_index_or p cell None ≡ None → Covers exits cell)

-- the cells that touch the cell are seen
abbrev pub AreSeenRound : Size → List (Option ℕ) → ℕ → List ℕ → Exits → ℕ → Type 0
AreSeenRound size p value list exits cell =
    (other : ℕ) → other < cells size → Touch size cell other → IsSeen p value list exits other

-- what was listed and an exit is so still
pub record Adds (list longer : List ℕ) (exits more : Exits) : Type 0 where
  pub listed : (x : ℕ) → Contains list x → Contains longer x
  pub covered : (x : ℕ) → Covers exits x → Covers more x
  pub long : length list ≤ length longer
  pub same : (i : ℕ) → i < length list → slice_index longer i ≡ slice_index list i

-- more is found, and the targets on the board are seen
pub record Sees (size : Size) (p : List (Option ℕ)) (value : ℕ) (IsTarget : ℕ → Type 0) (places list longer : List ℕ)
    (exits more : Exits) : Type 0 where
  pub found : IsFound size p value places longer more
  pub adds : Adds list longer exits more
  pub seen : (cell : ℕ) → cell < cells size → IsTarget cell → IsSeen p value longer more cell

-- a group is found from the cell, and unless it has many exits all of it and each of its exits
pub record IsGroup (size : Size) (p : List (Option ℕ)) (value from : ℕ) (places list : List ℕ)
    (exits : Exits) : Type 0 where
  pub found : IsFound size p value places list exits
  pub begun : Contains list from
  pub whole : exits ≢ Many → (x : ℕ) → Contains list x → AreSeenRound size p value list exits x

-- in no solution are the cells of the value that are joined to a listed cell all listed
abbrev pub MustLeave : Board → List (Option ℕ) → ℕ → List ℕ → Type 0
MustLeave board p value list =
    (f : List ℕ) → Solves (question_of Nurikabe board) p f
    → ((c d : ℕ) → Contains list c → (Contains list d → ⊥)
    → Walk (Touch board.size) (λ cell. (cell < cells board.size) × (slice_index f cell ≡ value)) c d → ⊥) → ⊥

-- no cell of the list has a number, or this one has, or two have
abbrev pub IsOwner : Board → List ℕ → Owner → Type 0
IsOwner board list owners.Nobody = (cell : ℕ) → Contains list cell → IsNumbered board cell → ⊥
IsOwner board list (owners.One cell) = Contains list cell × IsNumbered board cell
IsOwner board list owners.Two =
    (a b : ℕ) × (a ≢ b) × Contains list a × Contains list b × IsNumbered board a × IsNumbered board b

-- a cell of the list touches the cell, which is open
abbrev pub IsOpenBeside : Size → List (Option ℕ) → List ℕ → ℕ → Type 0
IsOpenBeside size p list cell = IsOpen p cell × ((other : ℕ) × Contains list other × Touch size other cell)

-- a wall isn't listed
abbrev pub HasOtherWall : List (Option ℕ) → List ℕ → Type 0
HasOtherWall p list = (cell : ℕ) × IsSetTo p 1 cell × (Contains list cell → ⊥)
