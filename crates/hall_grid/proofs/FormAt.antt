-- The reading of a form in the scheme of its kind, and the table of forms.
use Rattle.std.proofs.Common.{◌≡◌, ℕ, ◌<◌, List, [], ◌∷◌, ◌++◌, length, Ok, Err, arith}
use Rattle.std.specs.Prelude.{All}
use Rattle.hall_grid.specs.declared.board.Size.{Size}
use Rattle.hall_grid.specs.declared.board.Kind.{Kind}
use Rattle.hall_grid.specs.declared.board.Kind.TheVariants.{Sudoku, Slither, Nurikabe}
use Rattle.hall_grid.specs.declared.board.Clue.{Clue}
use Rattle.hall_grid.specs.declared.form.FormFault.{FormFault}
use Rattle.hall_grid.specs.declared.form.FormFault.TheVariants.{Strange, Cut}
use Rattle.hall_grid.specs.Board.{IsClue}
use Rattle.hall_grid.specs.Body.{Form, HasNumber16, HasNone, HasWrong, BeginsNone, BeginsLong}
use Rattle.hall_grid.specs.FormReading.{TakesForm, form_at}
use Rattle.hall_grid.proofs.Number16Form.{Reads, number16_again, number16_is, number16_cut, number16_strange}
use Rattle.hall_grid.proofs.Cell4Form.{cell4_again, cell4_is, cell4_err, cell4_strange}

-- a form is read as the table says, whatever follows it
pub form_again : (kind : Kind) (form after : List ℕ) (clues : List Clue)
    → Form kind form clues
    → form_at kind (form ++ after) ≡ Ok (clues, after)
form_again Sudoku form after clues f = number16_again Sudoku form after clues tt f
form_again Slither form after clues f = cell4_again form after clues f
form_again Nurikabe form after clues f = number16_again Nurikabe form after clues tt f

-- what is read is in the table
pub form_is : (kind : Kind) (bytes : List ℕ) (r : List Clue × List ℕ) → form_at kind bytes ≡ Ok r → Reads kind bytes r
form_is Sudoku bytes r e = number16_is Sudoku bytes r tt e
form_is Slither bytes r e = cell4_is bytes r e
form_is Nurikabe bytes r e = number16_is Nurikabe bytes r tt e

-- no form stands at the front of what is not read
none_is : (kind : Kind) (bytes : List ℕ) (f : FormFault) → form_at kind bytes ≡ Err f → HasNone kind bytes
none_is kind bytes f e = λ form after clues is_form front.
    let again : form_at kind bytes ≡ Ok (clues, after) = rw front (form_again kind form after clues is_form) in cc

-- at Cut the bytes begin with a sign, and no form stands there
pub is_cut : (kind : Kind) (bytes : List ℕ)
    → 0 < length bytes
    → form_at kind bytes ≡ Err Cut
    → HasNumber16 kind × BeginsLong bytes × HasNone kind bytes
is_cut kind [] some e = absurd (omega arith)
is_cut Sudoku (b ∷ rest) some e = (tt, number16_cut Sudoku (b ∷ rest) e, none_is Sudoku (b ∷ rest) Cut e)
is_cut Slither (b ∷ rest) some e = let bad = (cell4_err b rest rest Cut e).0 in absurd (cc)
is_cut Nurikabe (b ∷ rest) some e = (tt, number16_cut Nurikabe (b ∷ rest) e, none_is Nurikabe (b ∷ rest) Cut e)

-- at Strange no form begins with the first byte
pub is_strange : (kind : Kind) (bytes : List ℕ)
    → 0 < length bytes
    → form_at kind bytes ≡ Err Strange
    → BeginsNone kind bytes
is_strange kind [] some e = omega arith
is_strange Sudoku (b ∷ rest) some e = number16_strange Sudoku b rest tt e
is_strange Slither (b ∷ rest) some e = cell4_strange b rest Strange e
is_strange Nurikabe (b ∷ rest) some e = number16_strange Nurikabe b rest tt e

-- a form that is read and in range
pub takes_form : (kind : Kind) (size : Size) (bytes : List ℕ) (old new clues : List Clue) (after : List ℕ)
    → form_at kind bytes ≡ Ok (clues, after)
    → All (IsClue kind size) clues
    → new ≡ old ++ clues
    → TakesForm kind size bytes old new after
takes_form kind size bytes old new clues after e ranges adds =
    let r = form_is kind bytes (clues, after) e in
    record {
      piece = record { bytes = r.form; clues = clues };
      is_piece = (r.is_form, ranges);
      front = r.front;
      clues = adds;
    }

-- a form that is read and isn't in range
pub has_wrong : (kind : Kind) (size : Size) (bytes : List ℕ) (clues : List Clue) (after : List ℕ)
    → form_at kind bytes ≡ Ok (clues, after) → (All (IsClue kind size) clues → ⊥) → HasWrong kind size bytes
has_wrong kind size bytes clues after e wrong =
    let r = form_is kind bytes (clues, after) e in
    record {
      piece = record { bytes = r.form; clues = clues };
      after = after;
      front = r.front;
      form = r.is_form;
      wrong = wrong;
    }
