-- Writing forms: what the writer chooses at a cell, and the bytes of a form.
use Rattle.std.specs.Prelude.{◌≡◌, ℕ, ◌+◌, ◌<◌, ◌≤◌, List, [], ◌∷◌, ◌++◌, slice_get, Option, Some, None, nat_lt}
use Rattle.std.specs.Prelude.{if◌then◌else◌, zero, suc}
use Rattle.std.specs.Fmt.{digits}
use Rattle.std.specs.Prelude.{false}
use Rattle.hall_grid.specs.declared.board.Kind.{Kind}
use Rattle.hall_grid.specs.declared.board.Kind.TheVariants.{Sudoku, Slither, Nurikabe}
use Rattle.hall_grid.specs.declared.board.Clue.{Clue}
use Rattle.hall_grid.specs.declared.board.Clue.TheVariants.{Blank, Unknown, Number}
use Rattle.hall_grid.specs.declared.form.Given.{Given}
use Rattle.hall_grid.specs.Board.{Board}
use Rattle.hall_grid.specs.Canonical.{IsEmpty, Takes, Canonical}

-- so many empty cells stand from the cell on, as many as there are or 20
pub record IsRunAt (clues : List Clue) (cell count : ℕ) : Type 0 where
  pub few : count ≤ 20
  pub empty : (k : ℕ) → k < count → IsEmpty clues (cell + k)
  pub stops : count < 20 → IsEmpty clues (cell + count) → ⊥

-- the cell shows this clue, and a form gives so many empty cells after it
abbrev pub IsChoiceAt : Kind → List Clue → ℕ → Option Clue → ℕ → Type 0
IsChoiceAt kind clues cell None blanks = IsEmpty clues cell × IsRunAt clues cell blanks
IsChoiceAt kind clues cell (Some Blank) blanks = ⊥
IsChoiceAt kind clues cell (Some Unknown) blanks = (slice_get clues cell ≡ Some Unknown) × (blanks ≡ 0)
IsChoiceAt Sudoku clues cell (Some (Number n)) blanks = (slice_get clues cell ≡ Some (Number n)) × (blanks ≡ 0)
IsChoiceAt Slither clues cell (Some (Number n)) blanks =
    (slice_get clues cell ≡ Some (Number n)) × Takes clues cell blanks
IsChoiceAt Nurikabe clues cell (Some (Number n)) blanks = (slice_get clues cell ≡ Some (Number n)) × (blanks ≡ 0)

-- the form that the writer chooses at the cell
abbrev pub IsChoice : Board → ℕ → Given → Type 0
IsChoice board cell given = IsChoiceAt board.kind board.clues cell given.clue given.blanks

-- a number of Slitherlink is at most 4
abbrev pub IsShort : Kind → Option Clue → Type 0
IsShort Sudoku clue = Unit {0}
IsShort Nurikabe clue = Unit {0}
IsShort Slither None = Unit {0}
IsShort Slither (Some Blank) = Unit {0}
IsShort Slither (Some Unknown) = Unit {0}
IsShort Slither (Some (Number n)) = n ≤ 4

-- a number in the scheme Number16, in the fewest digits
abbrev pub number16_bytes : ℕ → List ℕ
number16_bytes n =
    if nat_lt n 16 then digits 16 false n
    else (if nat_lt n 256 then 45 ∷ digits 16 false n else 43 ∷ digits 16 false n)

-- the first byte of the numbers that take so many empty cells with them
abbrev pub cell4_first : ℕ → ℕ
cell4_first zero = 48
cell4_first (suc zero) = 53
cell4_first (suc (suc n)) = 97

-- the bytes of a number with so many empty cells after it
abbrev pub number_bytes : Kind → ℕ → ℕ → List ℕ
number_bytes Sudoku n blanks = number16_bytes n
number_bytes Slither n blanks = (cell4_first blanks + n) ∷ []
number_bytes Nurikabe n blanks = number16_bytes n

-- the bytes of a form
abbrev pub form_bytes : Kind → Option Clue → ℕ → List ℕ
form_bytes kind None blanks = (102 + blanks) ∷ []
form_bytes kind (Some Blank) blanks = (102 + blanks) ∷ []
form_bytes kind (Some Unknown) blanks = 46 ∷ []
form_bytes kind (Some (Number n)) blanks = number_bytes kind n blanks

-- the bytes of a form
abbrev pub written : Kind → Given → List ℕ
written kind given = form_bytes kind given.clue given.blanks

-- the new bytes are the old ones, and then the canonical body of the puzzle
pub record AppendsBody (board : Board) (old new : List ℕ) : Type 0 where
  pub body : List ℕ
  pub appended : new ≡ old ++ body
  pub canonical : Canonical board.kind board.size body board.clues
