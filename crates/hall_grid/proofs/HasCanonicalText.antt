-- Each puzzle has a canonical text.
use Rattle.std.proofs.Common.{◌≡◌, ℕ, zero, suc, ◌+◌, ◌-◌, ◌<◌, ◌≤◌, ◌⊎◌, List, [], ◌++◌, length, Option, Some, None}
use Rattle.std.proofs.Common.{refl, sym, subst, inl, inr, arith}
use Rattle.std.specs.Prelude.{slice_get}
use Rattle.std.proofs.lemmas.Bool.{cases_lt}
use Rattle.std.proofs.lemmas.Option.{slice_get_cases}
use Rattle.hall_grid.specs.declared.board.Kind.{Kind}
use Rattle.hall_grid.specs.declared.board.Kind.TheVariants.{Sudoku, Slither, Nurikabe}
use Rattle.hall_grid.specs.declared.board.Clue.{Clue}
use Rattle.hall_grid.specs.declared.board.Clue.TheVariants.{Blank, Unknown, Number}
use Rattle.hall_grid.specs.declared.form.Given.{Given}
use Rattle.hall_grid.specs.Board.{Board, IsBoard, cells}
use Rattle.hall_grid.specs.Canonical.{IsEmpty, IsFull, Takes, CanonicalText, head_of}
use Rattle.hall_grid.specs.FormReading.{given_clues}
use Rattle.hall_grid.specs.Writing.{IsRunAt, IsChoice, written, AppendsBody}
use Rattle.hall_grid.proofs.IsChoice.{choice_covers}
use Rattle.hall_grid.proofs.AppendsBody.{IsWritten, IsWritten-start, IsWritten-more, AppendsBody-from_IsWritten}

-- a cell is empty, or full, or past the end
cell_cases : (clues : List Clue) (cell : ℕ)
    → (IsEmpty clues cell × (IsFull clues cell → ⊥)) ⊎ (IsFull clues cell × (IsEmpty clues cell → ⊥))
    ⊎ ((IsEmpty clues cell → ⊥) × (IsFull clues cell → ⊥))
cell_cases clues cell =
    elim (slice_get_cases clues cell).1 [
      | inl (Blank, within, e, _) ↦ inl (e, (λ full. let shown = full.2 in full.1 (cc)))
      | inl (Unknown, within, e, _) ↦ inr (inl ((Unknown, (λ same. cc), e), (λ empty. cc)))
      | inl (Number n, within, e, _) ↦ inr (inl ((Number n, (λ same. cc), e), (λ empty. cc)))
      | inr (past, none) ↦ inr (inr ((λ empty. cc), (λ full. let shown = full.2 in cc)))
    ]

-- the longest run from a cell on, of which so many cells are known to be empty
run_from : (clues : List Clue) (cell rest count : ℕ)
    → count + rest ≡ 20
    → ((k : ℕ) → k < count → IsEmpty clues (cell + k))
    → (n : ℕ) × IsRunAt clues cell n
run_from clues cell zero count sum empty = (
  count,
  record {
    few = omega arith;
    empty = empty;
    stops = λ less. absurd (omega arith);
  },
)
run_from clues cell (suc rest) count sum empty =
    elim (cell_cases clues (cell + count)) [
      | inl here ↦ run_from clues cell rest (suc count) (omega arith) (λ k below.
          elim (cases_lt k count) [
            | inl less ↦ empty k less
            | inr last ↦ let same : k ≡ count = omega arith in subst (λ j. IsEmpty clues (cell + j)) (sym same) here.0
          ])
      | inr (inl full) ↦ (count, record { few = omega arith; empty = empty; stops = λ _. full.1 })
      | inr (inr past) ↦ (count, record { few = omega arith; empty = empty; stops = λ _. past.0 })
    ]

takes_some : (clues : List Clue) (cell : ℕ) → (count : ℕ) × Takes clues cell count
takes_some clues cell =
    elim (cell_cases clues (cell + 1)) [
      | inr (inl full) ↦ (0, inl (full.0, refl))
      | inl empty ↦ after empty.1
      | inr (inr past) ↦ after past.1
    ]
  where
    after : (IsFull clues (cell + 1) → ⊥) → (count : ℕ) × Takes clues cell count
    after first =
        elim (cell_cases clues (cell + 2)) [
          | inr (inl full) ↦ (1, inr (inl (first, full.0, refl)))
          | inl empty ↦ (2, inr (inr (first, empty.1, refl)))
          | inr (inr past) ↦ (2, inr (inr (first, past.1, refl)))
        ]

abbrev given_of : Option Clue → ℕ → Given
given_of clue blanks = record { clue = clue; blanks = blanks }

-- at each cell there is a form to choose
number_choice : (board : Board) (kind : Kind) (cell n : ℕ)
    → board.kind ≡ kind
    → slice_get board.clues cell ≡ Some (Number n)
    → (given : Given) × IsChoice board cell given
number_choice board Sudoku cell n e shown = (given_of (Some (Number n)) 0, rw e (shown, refl))
number_choice board Slither cell n e shown =
    let takes = takes_some board.clues cell in (given_of (Some (Number n)) takes.0, rw e (shown, takes.1))
number_choice board Nurikabe cell n e shown = (given_of (Some (Number n)) 0, rw e (shown, refl))

choice : (board : Board) (cell : ℕ) → cell < length board.clues → (given : Given) × IsChoice board cell given
choice board cell within =
    elim (slice_get_cases board.clues cell).1 [
      | inl (Blank, _, e, _) ↦ let r = run_from board.clues cell 20 0 refl (λ k below. absurd (omega arith)) in
          (given_of None r.0, (e, r.1))
      | inl (Unknown, _, e, _) ↦ (given_of (Some Unknown) 0, (e, refl))
      | inl (Number n, _, e, _) ↦ number_choice board board.kind cell n refl e
      | inr (past, _) ↦ absurd (omega arith)
    ]

-- with so many cells left at most
write_on : (n : ℕ) (board : Board) (text : List ℕ) (cell : ℕ)
    → IsBoard board
    → cells board.size - cell ≤ n
    → IsWritten board [] text cell
    → (body : List ℕ) × AppendsBody board [] body
write_on zero board text cell is_board few so_far =
    (text, AppendsBody-from_IsWritten board [] text cell is_board so_far (omega arith))
write_on (suc n) board text cell is_board few so_far =
    elim (cases_lt cell (cells board.size)) [
      | inr all ↦ (text, AppendsBody-from_IsWritten board [] text cell is_board so_far all)
      | inl room ↦
          let c = choice board cell (omega (arith, is_board.clues)) in
          let covers = choice_covers board.kind board.clues cell c.0.clue c.0.blanks c.1 in
          write_on n board (text ++ written board.kind c.0) (cell + length (given_clues c.0)) is_board (omega arith)
          (IsWritten-more board [] text (text ++ written board.kind c.0) cell c.0 is_board so_far room c.1 refl)
    ]

-- each puzzle has a canonical text
pub has_canonical_text : (board : Board) → IsBoard board → (text : List ℕ) × CanonicalText text board
has_canonical_text board is_board =
    let adds = (write_on (cells board.size) board [] 0 is_board (omega arith) (IsWritten-start board [])).1 in
    (head_of board.kind board.size ++ adds.body, record { body = adds.body; canonical = adds.canonical; whole = refl })
