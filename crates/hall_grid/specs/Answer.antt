-- Fillings and answer texts, the rules that a filling breaks, and the verdict on a text.
use Rattle.std.specs.Prelude.{◌≡◌, ◌↔◌, ◌⊎◌, ℕ, ◌+◌, ◌<◌, ◌==◌, List, ◌∷◌, ◌++◌, length, map, take, drop, All}
use Rattle.std.specs.Prelude.{if◌then◌else◌, nat_lt}
use Rattle.hall_grid.specs.declared.board.Size.{Size}
use Rattle.hall_grid.specs.declared.board.Kind.{Kind}
use Rattle.hall_grid.specs.declared.board.Kind.TheVariants.{Sudoku, Slither, Nurikabe}
use Rattle.hall_grid.specs.declared.rule.Rule.{Rule}
use Rattle.hall_grid.specs.declared.rule.Rule.TheVariants.{A0, U1, U2, U3, U4, S1, S2, S3, S4, S5, N1, N2, N3, N4, N5}
use Rattle.hall_grid.specs.declared.rule.Rule.TheVariants.{N6}
use Rattle.hall_grid.specs.Board.{Board, cells}
use Rattle.hall_grid.specs.Rule.{Names, IsNameSet}
use Rattle.hall_grid.specs.Sudoku.{RepeatsInRow, RepeatsInColumn, RepeatsInBox, ChangesGiven}
use Rattle.hall_grid.specs.Slither.{all_sides, flat_sides, HasNoLine, HasLooseEnd, HasCrossing, HasOtherCount}
use Rattle.hall_grid.specs.Slither.{HasLinesApart}
use Rattle.hall_grid.specs.Nurikabe.{HasNumberInWall, HasPool, HasWallsApart, HasIslandWithoutNumber}
use Rattle.hall_grid.specs.Nurikabe.{HasIslandWithTwo, HasIslandOfOtherSize}

-- how many places a filling has: the cells, or the sides of cells
abbrev pub places_of : Kind → Size → ℕ
places_of Sudoku size = cells size
places_of Slither size = all_sides size
places_of Nurikabe size = cells size

-- how many values a place may hold: a number less 1; no line or a line; white or wall
abbrev pub values_of : Kind → Size → ℕ
values_of Sudoku size = size.cols
values_of Slither size = 2
values_of Nurikabe size = 2

-- a value at each place
pub record IsFilling (board : Board) (f : List ℕ) : Type 0 where
  pub exact : length f ≡ places_of board.kind board.size
  pub ranges : All (λ v. v < values_of board.kind board.size) f

-- a number less 1 as `1` to `9`, then `a` on
abbrev pub sudoku_byte : ℕ → ℕ
sudoku_byte v = if nat_lt v 9 then 49 + v else 88 + v

-- `0` for no line, `1` for a line
abbrev pub slither_byte : ℕ → ℕ
slither_byte v = 48 + v

-- `#` for wall, `.` for white
abbrev pub nurikabe_byte : ℕ → ℕ
nurikabe_byte v = if v == 1 then 35 else 46

-- a value as it is written
abbrev pub value_byte : Kind → ℕ → ℕ
value_byte Sudoku = sudoku_byte
value_byte Slither = slither_byte
value_byte Nurikabe = nurikabe_byte

-- the text of a filling; in Slitherlink a slash parts the horizontal sides from the upright ones
abbrev pub text_of : Kind → Size → List ℕ → List ℕ
text_of Sudoku size f = map sudoku_byte f
text_of Slither size f = map slither_byte (take (flat_sides size) f) ++ 47 ∷ map slither_byte (drop (flat_sides size) f)
text_of Nurikabe size f = map nurikabe_byte f

-- the text says this filling
pub record AnswerText (board : Board) (text f : List ℕ) : Type 0 where
  pub filling : IsFilling board f
  pub written : text ≡ text_of board.kind board.size f

-- the Sudoku rules: a name's sentence; a name of another kind has none that is true
abbrev pub BreaksSudoku : Board → List ℕ → Rule → Type 0
BreaksSudoku board f U1 = RepeatsInRow board.size f
BreaksSudoku board f U2 = RepeatsInColumn board.size f
BreaksSudoku board f U3 = RepeatsInBox board.size f
BreaksSudoku board f U4 = ChangesGiven board f
BreaksSudoku board f _ = ⊥

-- the Slitherlink rules
abbrev pub BreaksSlither : Board → List ℕ → Rule → Type 0
BreaksSlither board f S1 = HasNoLine board.size f
BreaksSlither board f S2 = HasLooseEnd board.size f
BreaksSlither board f S3 = HasCrossing board.size f
BreaksSlither board f S4 = HasOtherCount board f
BreaksSlither board f S5 = HasLinesApart board.size f
BreaksSlither board f _ = ⊥

-- the Nurikabe rules
abbrev pub BreaksNurikabe : Board → List ℕ → Rule → Type 0
BreaksNurikabe board f N1 = HasNumberInWall board f
BreaksNurikabe board f N2 = HasPool board.size f
BreaksNurikabe board f N3 = HasWallsApart board.size f
BreaksNurikabe board f N4 = HasIslandWithoutNumber board f
BreaksNurikabe board f N5 = HasIslandWithTwo board f
BreaksNurikabe board f N6 = HasIslandOfOtherSize board f
BreaksNurikabe board f _ = ⊥

-- the filling breaks the rule of this name
abbrev pub Breaks : Kind → Board → List ℕ → Rule → Type 0
Breaks Sudoku = BreaksSudoku
Breaks Slither = BreaksSlither
Breaks Nurikabe = BreaksNurikabe

-- the filling breaks the rule of this name, by the rules of the board's kind
abbrev pub IsBroken : Board → List ℕ → Rule → Type 0
IsBroken board f rule = Breaks board.kind board f rule

-- the set has the names of the rules that the filling breaks, and no other
pub record AreBroken (board : Board) (f : List ℕ) (names : ℕ) : Type 0 where
  pub set : IsNameSet names
  pub each : (rule : Rule) → Names names rule ↔ IsBroken board f rule

-- the set has A0 alone
pub record IsNoForm (names : ℕ) : Type 0 where
  pub set : IsNameSet names
  pub each : (rule : Rule) → Names names rule ↔ (rule ≡ A0)

-- no filling has this text
abbrev pub SaysNothing : Board → List ℕ → Type 0
SaysNothing board text = (f : List ℕ) → AnswerText board text f → ⊥

-- the names for an answer text: those of its filling, or A0 where there is none
abbrev pub Verdict : Board → List ℕ → ℕ → Type 0
Verdict board text names =
    ((f : List ℕ) × AnswerText board text f × AreBroken board f names) ⊎ (SaysNothing board text × IsNoForm names)
