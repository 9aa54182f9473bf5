-- Reading forms from left to right, with the first fault that is met. The relations of Body.antt are proved of it.
use Rattle.std.specs.Prelude.{◌≡◌, ℕ, ◌+◌, ◌-◌, ◌*◌, ◌&&◌, Bool, true, false, List, [], ◌∷◌, ◌++◌, replicate}
use Rattle.std.specs.Prelude.{option_to_list, Option, Some, None, Result, Ok, Err, nat_le, ◌==◌, if◌then◌else◌}
use Rattle.hall_grid.specs.declared.board.Kind.{Kind}
use Rattle.hall_grid.specs.declared.board.Kind.TheVariants.{Sudoku, Slither, Nurikabe}
use Rattle.hall_grid.specs.declared.board.Clue.{Clue}
use Rattle.hall_grid.specs.declared.board.Clue.TheVariants.{Blank, Unknown, Number}
use Rattle.hall_grid.specs.declared.form.Given.{Given}
use Rattle.hall_grid.specs.declared.form.FormFault.{FormFault}
use Rattle.hall_grid.specs.declared.form.FormFault.TheVariants.{Strange, Cut}
use Rattle.hall_grid.specs.declared.board.Size.{Size}
use Rattle.hall_grid.specs.Body.{Piece, IsPiece}

-- the clues of a form: a number or none, and then empty cells
abbrev pub given_clues : Given → List Clue
given_clues given = option_to_list given.clue ++ replicate given.blanks Blank

-- the value of a hexadecimal digit
abbrev pub hex_value : ℕ → Option ℕ
hex_value b =
    if nat_le 48 b && nat_le b 57 then Some (b - 48)
    else if nat_le 97 b && nat_le b 102 then Some (b - 87) else None

-- the empty cells of a run
abbrev pub run_value : ℕ → Option ℕ
run_value b = if nat_le 103 b && nat_le b 122 then Some (b - 102) else None

infixl 10 ◌>>=◌
-- the next reading goes on from what was read
abbrev pub ◌>>=◌ : {A B : Type 0} → Option A → (A → Option B) → Option B
None >>= f = None
(Some x) >>= f = f x

-- the number of two hexadecimal digits, and what follows them
abbrev pub two_at : List ℕ → Option (ℕ × List ℕ)
two_at [] = None
two_at (a ∷ []) = None
two_at (a ∷ b ∷ rest) = do
  m ← hex_value a
  n ← hex_value b
  Some (16 * m + n, rest)

-- the number of three hexadecimal digits, and what follows them
abbrev pub three_at : List ℕ → Option (ℕ × List ℕ)
three_at [] = None
three_at (a ∷ []) = None
three_at (a ∷ b ∷ []) = None
three_at (a ∷ b ∷ c ∷ rest) = do
  l ← hex_value a
  m ← hex_value b
  n ← hex_value c
  Some (256 * l + 16 * m + n, rest)

-- a number and what follows it, or a form that is cut off
abbrev pub long_form : Option (ℕ × List ℕ) → Result (List Clue × List ℕ) FormFault
long_form None = Err Cut
long_form (Some r) = Ok (Number r.0 ∷ [], r.1)

-- a run of empty cells and what follows it
abbrev pub run_form : Option ℕ → List ℕ → Result (List Clue × List ℕ) FormFault
run_form None rest = Err Strange
run_form (Some n) rest = Ok (replicate n Blank, rest)

-- a form of one byte: a digit, or a run
abbrev pub short_form : Option ℕ → Option ℕ → List ℕ → Result (List Clue × List ℕ) FormFault
short_form None blanks rest = run_form blanks rest
short_form (Some n) blanks rest = Ok (Number n ∷ [], rest)

-- whether the kind is Nurikabe
abbrev pub is_nurikabe : Kind → Bool
is_nurikabe Sudoku = false
is_nurikabe Slither = false
is_nurikabe Nurikabe = true

-- the clues of the form at the front of the bytes and what follows it, in the scheme Number16
unfoldable pub number16_form : Kind → List ℕ → Result (List Clue × List ℕ) FormFault
number16_form kind [] = Err Strange
number16_form kind (b ∷ rest) =
    if b == 45 then long_form (two_at rest)
    else if b == 43 then long_form (three_at rest)
    else if b == 46 && is_nurikabe kind then Ok (Unknown ∷ [], rest)
    else short_form (hex_value b) (run_value b) rest

-- the number of a byte in the scheme 4Cell, and how many empty cells follow it
abbrev pub cell4_value : ℕ → Option (ℕ × ℕ)
cell4_value b =
    if nat_le 48 b && nat_le b 52 then Some (b - 48, 0)
    else if nat_le 53 b && nat_le b 57 then Some (b - 53, 1)
    else if nat_le 97 b && nat_le b 101 then Some (b - 97, 2)
    else None

-- a form of one byte in the scheme 4Cell: a number, or a run
abbrev pub cell4_short : Option (ℕ × ℕ) → Option ℕ → List ℕ → Result (List Clue × List ℕ) FormFault
cell4_short None blanks rest = run_form blanks rest
cell4_short (Some n) blanks rest = Ok (Number n.0 ∷ replicate n.1 Blank, rest)

-- the same in the scheme 4Cell
unfoldable pub cell4_form : List ℕ → Result (List Clue × List ℕ) FormFault
cell4_form [] = Err Strange
cell4_form (b ∷ rest) = if b == 46 then Ok (Unknown ∷ [], rest) else cell4_short (cell4_value b) (run_value b) rest

-- the same in the scheme of the kind
abbrev pub form_at : Kind → List ℕ → Result (List Clue × List ℕ) FormFault
form_at Sudoku = number16_form Sudoku
form_at Slither = cell4_form
form_at Nurikabe = number16_form Nurikabe

-- what the code reads, as lists
abbrev pub read_view : {Y : Type 0} → (Y → List ℕ) → Given × Y → List Clue × List ℕ
read_view now r = (given_clues r.0, now r.1)

-- a form in range stands at the front of the bytes, and its clues are put at the end
pub record TakesForm (kind : Kind) (size : Size) (bytes : List ℕ) (old new : List Clue) (after : List ℕ) : Type 0 where
  pub piece : Piece
  pub is_piece : IsPiece kind size piece
  pub front : bytes ≡ piece.bytes ++ after
  pub clues : new ≡ old ++ piece.clues
