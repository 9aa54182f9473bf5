-- Counts of lines at dots and round cells, and what follows from them for the open sides.
use Rattle.std.specs.Prelude.{◌≡◌, ◌⊎◌, ℕ, ◌+◌, ◌*◌, ◌<◌, ◌≤◌, ◌==◌, Bool, false, List, Option, Some, None}
use Rattle.std.specs.Prelude.{Contains, slice_index, slice_get, slice_index_or, is_none, map}
use Rattle.std.specs.List.{sum_by}
use Rattle.hall_grid.specs.declared.board.Size.{Size}
use Rattle.hall_grid.specs.declared.board.Clue.{Clue}
use Rattle.hall_grid.specs.declared.board.Clue.TheVariants.{Blank, Unknown, Number}
use Rattle.hall_grid.specs.Board.{Board, cells}
use Rattle.hall_grid.specs.Slither.{dots, sides_of}
use Rattle.hall_solve.specs.Question.{Question, Solves, IsHopeless, IsOpen}
use Rattle.hall_slither.specs.declared.count.Centre.{Centre}
use Rattle.hall_slither.specs.declared.count.Centre.TheVariants.{Dot, Cell}
use Rattle.hall_slither.specs.declared.count.Demand.{Demand}
use Rattle.hall_slither.specs.declared.count.Demand.TheVariants.{Any, Through, Exactly}
use Rattle.hall_slither.specs.declared.count.Consequence.{Consequence}
use Rattle.hall_slither.specs.declared.count.Consequence.TheVariants.{Nothing, AllBe, Impossible}
use Rattle.hall_slither.specs.Dot.{sides_at, count_at}

-- the number of a dot or a cell
abbrev pub centre_number : Centre → ℕ
centre_number (Dot d) = d
centre_number (Cell cell) = cell

-- how many dots or cells there are: those of the centre's kind
abbrev pub centre_count : Size → Centre → ℕ
centre_count size (Dot d) = dots size
centre_count size (Cell cell) = cells size

-- the spot is on the board
abbrev pub IsCentre : Size → Centre → Type 0
IsCentre size centre = centre_number centre < centre_count size centre

-- the sides at a dot or round a cell
abbrev pub sides_round : Size → Centre → List (Option ℕ)
sides_round size (Dot d) = sides_at size d
sides_round size (Cell cell) = map Some (sides_of size cell)

-- how many of the sides pass a test
abbrev pub count_sides : (ℕ → Bool) → List (Option ℕ) → ℕ
count_sides p sides = sum_by (count_at p) sides

-- the value is there, and is 1
abbrev pub is_one : Option ℕ → Bool
is_one None = false
is_one (Some v) = v == 1

-- the place has a line
abbrev pub has_line : List (Option ℕ) → ℕ → Bool
has_line p s = is_one (slice_index_or p s None)

-- the place is not set
abbrev pub is_place_unset : List (Option ℕ) → ℕ → Bool
is_place_unset p s = is_none (slice_index_or p s None)

-- the count is as demanded: a loop passes a dot or doesn't, and a number is the count
abbrev pub Meets : Demand → ℕ → Type 0
Meets Any n = Unit {0}
Meets Through n = (n ≡ 0) ⊎ (n ≡ 2)
Meets (Exactly number) n = n ≡ number

-- some count from the least to below the end is as demanded
abbrev pub IsPossible : Demand → ℕ → ℕ → Type 0
IsPossible demand least end = (n : ℕ) × (least ≤ n) × (n < end) × Meets demand n

-- so many are lines and so many open: what each count between says of the open ones; nothing only where some
-- count is as demanded, and, where any is open, also one with more lines than so far, and one that leaves some
-- of them without
abbrev pub Follows : Demand → ℕ → ℕ → Consequence → Type 0
Follows demand lines unset Nothing =
    IsPossible demand lines (lines + unset + 1)
    × (0 < unset → IsPossible demand (lines + 1) (lines + unset + 1) × IsPossible demand lines (lines + unset))
Follows demand lines unset (AllBe value) =
    (0 < unset) × (value < 2) × ((n : ℕ) → lines ≤ n → n ≤ lines + unset → Meets demand n → n ≡ lines + value * unset)
Follows demand lines unset Impossible = (n : ℕ) → lines ≤ n → n ≤ lines + unset → Meets demand n → ⊥

-- what is told of the open ones of the sides is true of each solution
abbrev pub IsConsequenceTold : Question → List (Option ℕ) → List (Option ℕ) → Consequence → Type 0
IsConsequenceTold q p sides Nothing = Unit {0}
IsConsequenceTold q p sides (AllBe value) =
    (value < 2)
    × ((s : ℕ) × Contains sides (Some s) × IsOpen p s)
    × ((f : List ℕ) (s : ℕ) → Solves q p f → Contains sides (Some s) → IsOpen p s → slice_index f s ≡ value)
IsConsequenceTold q p sides Impossible = IsHopeless q p

-- what a clue demands
abbrev pub demand_for : Option Clue → Demand
demand_for None = Any
demand_for (Some Blank) = Any
demand_for (Some Unknown) = Any
demand_for (Some (Number n)) = Exactly n

-- how many lines there must be: a loop passes a dot or doesn't, and a number is the count round its cell
abbrev pub demand_of : Board → Centre → Demand
demand_of board (Dot d) = Through
demand_of board (Cell cell) = demand_for (slice_get board.clues cell)

-- the count at the centre says nothing of its sides
abbrev pub IsSilent : Board → List (Option ℕ) → Centre → Type 0
IsSilent board p centre =
    Follows (demand_of board centre) (count_sides (has_line p) (sides_round board.size centre))
    (count_sides (is_place_unset p) (sides_round board.size centre)) Nothing

-- no count says anything
abbrev pub AreSilent : Board → List (Option ℕ) → Type 0
AreSilent board p = (centre : Centre) → IsCentre board.size centre → IsSilent board p centre
