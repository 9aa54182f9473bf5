-- Worked texts, against the definitions.
use Rattle.std.proofs.Common.{◌≡◌, ◌+◌, ◌<◌, ◌≤◌, ℕ, zero, suc, List, [], ◌∷◌, length, get_or, replicate, Some, None}
use Rattle.std.proofs.Common.{refl, ap, inl, inr, arith}
use Rattle.std.specs.Prelude.{codes, All}
use Rattle.std.proofs.lemmas.Fmt.{decimal_digit}
use Rattle.std.proofs.lemmas.List.Elements.{All-cons, All-head, All-replicate}
use Rattle.hall_grid.specs.declared.board.Size.{Size}
use Rattle.hall_grid.specs.declared.board.Kind.{Kind}
use Rattle.hall_grid.specs.declared.board.Kind.TheVariants.{Sudoku, Slither, Nurikabe}
use Rattle.hall_grid.specs.declared.board.Clue.{Clue}
use Rattle.hall_grid.specs.declared.board.Clue.TheVariants.{Blank, Number}
use Rattle.hall_grid.specs.declared.fault.TextFault.{TextFault}
use Rattle.hall_grid.specs.declared.fault.TextFault.TheVariants as faults
use Rattle.hall_grid.specs.Board.{Board, IsBoard, IsClue, HasSize, of_parts}
use Rattle.hall_grid.specs.Body.{Piece, IsPiece, Form, one, alone, before_two, run, FaultAt, HasPlace, IsWrong}
use Rattle.hall_grid.specs.FormReading.{number16_form, cell4_form}
use Rattle.hall_grid.specs.Text.{bare, word_of, word_field, cols_field, rows_field, body_of, SpellsText, FaultOf}
use Rattle.hall_grid.specs.Canonical.{IsFull, CanonicalText}
use Rattle.hall_grid.proofs.FormAt.{is_strange, is_cut}
use Rattle.hall_grid.proofs.Bodies.{IsBoard-from_Spells}
use Rattle.hall_grid.proofs.Spells.{some_bytes}
use Rattle.hall_grid.proofs.HasOneCanonicalText.{one_canonical_text}

abbrev square : ℕ → Size
square n = record { cols = n; rows = n }

abbrev piece : List ℕ → List Clue → Piece
piece bytes clues = record { bytes = bytes; clues = clues }

-- the clues of a number and empty cells are in range
ranges : (kind : Kind) (size : Size) (n blanks : ℕ)
    → IsClue kind size (Number n)
    → IsClue kind size Blank
    → All (IsClue kind size) (Number n ∷ replicate blanks Blank)
ranges kind size n blanks h empty =
    All-cons (IsClue kind size) (Number n) (replicate blanks Blank) h
    (All-replicate (IsClue kind size) blanks Blank empty)

-- four cells that each want two lines
abbrev twos : Board
twos = of_parts Slither (square 2) (Number 2 ∷ Number 2 ∷ Number 2 ∷ Number 2 ∷ [])

small : HasSize Slither (square 2)
small = record {
  some_cols = omega arith;
  few_cols = omega arith;
  some_rows = omega arith;
  few_rows = omega arith;
  few_cells = omega arith;
}

two_alone : IsPiece Slither (square 2) (piece (50 ∷ []) (Number 2 ∷ []))
two_alone = (alone (omega arith) refl, ranges Slither (square 2) 2 0 (omega arith) tt)

two_last : IsPiece Slither (square 2) (piece (99 ∷ []) (Number 2 ∷ Blank ∷ Blank ∷ []))
two_last = (before_two (omega arith) refl, ranges Slither (square 2) 2 2 (omega arith) tt)

row_short : SpellsText (codes "slither/2/2/2222") twos
row_short =
    record {
      start = codes "slither/2/2/2222";
      heads = record { bare = refl; word = refl; cols = (omega arith, refl); rows = (omega arith, refl) };
      size = small;
      body = record {
        pieces =
            piece (50 ∷ []) (Number 2 ∷ []) ∷ piece (50 ∷ []) (Number 2 ∷ []) ∷ piece (50 ∷ []) (Number 2 ∷ []) ∷ piece
            (50 ∷ []) (Number 2 ∷ []) ∷ [];
        chain =
            (omega arith, two_alone, (omega arith, two_alone, (omega arith, two_alone, (omega arith, two_alone, tt))));
        whole = refl;
        gives = refl;
      };
    }

-- the same puzzle behind an address, with a last number that reaches past the end and a final slash
row_address : SpellsText (codes "https://puzz.link/p?slither/2/2/222c/") twos
row_address =
    record {
      start = codes "slither/2/2/222c/";
      heads = record { bare = refl; word = refl; cols = (omega arith, refl); rows = (omega arith, refl) };
      size = small;
      body = record {
        pieces =
            piece (50 ∷ []) (Number 2 ∷ []) ∷ piece (50 ∷ []) (Number 2 ∷ []) ∷ piece (50 ∷ []) (Number 2 ∷ []) ∷ piece
            (99 ∷ []) (Number 2 ∷ Blank ∷ Blank ∷ []) ∷ [];
        chain =
            (omega arith, two_alone, (omega arith, two_alone, (omega arith, two_alone, (omega arith, two_last, tt))));
        whole = refl;
        gives = refl;
      };
    }

-- a form of one byte is as short as any
one_byte : (kind : Kind) (clues : List Clue) (bytes : List ℕ) → Form kind bytes clues → 1 ≤ length bytes
one_byte kind clues bytes f = some_bytes kind bytes clues f

full : (cell : ℕ) → (cell < 4) → IsFull twos.clues cell
full zero h = (Number 2, (λ e. cc), refl)
full (suc zero) h = (Number 2, (λ e. cc), refl)
full (suc (suc zero)) h = (Number 2, (λ e. cc), refl)
full (suc (suc (suc zero))) h = (Number 2, (λ e. cc), refl)
full (suc (suc (suc (suc n)))) h = absurd (omega arith)

row_canonical : CanonicalText (codes "slither/2/2/222c") twos
row_canonical =
    record {
      body = codes "222c";
      canonical = record {
        pieces =
            piece (50 ∷ []) (Number 2 ∷ []) ∷ piece (50 ∷ []) (Number 2 ∷ []) ∷ piece (50 ∷ []) (Number 2 ∷ []) ∷ piece
            (99 ∷ []) (Number 2 ∷ Blank ∷ Blank ∷ []) ∷ [];
        chain =
            (omega arith, two_alone, (omega arith, two_alone, (omega arith, two_alone, (omega arith, two_last, tt))));
        whole = refl;
        gives = refl;
        covers = omega arith;
        chosen = (
          inl (full 1 (omega arith), refl),
          one_byte Slither _,
          (
            inl (full 2 (omega arith), refl),
            one_byte Slither _,
            (
              inl (full 3 (omega arith), refl),
              one_byte Slither _,
              (inr (inr ((λ e. let none = e.2 in cc), (λ e. let none = e.2 in cc), refl)), one_byte Slither _, tt),
            ),
          ),
        );
      };
      whole = rw (decimal_digit 2 (omega arith)) refl;
    }

-- the short form of the last number isn't canonical
row_short_last : CanonicalText (codes "slither/2/2/2222") twos → ⊥
row_short_last other =
    let board : IsBoard twos = IsBoard-from_Spells Slither (square 2) _ twos.clues row_short.size row_short.body in
    let e = one_canonical_text (codes "slither/2/2/2222") (codes "slither/2/2/222c") twos board other row_canonical in
    omega (arith, ap (λ s. get_or s 15 0) e)

-- the empty board
abbrev empty_nine : Board
empty_nine = of_parts Sudoku (square 9) (replicate 81 Blank)

row_empty : SpellsText (codes "sudoku/9/9/") empty_nine
row_empty =
    record {
      start = codes "sudoku/9/9/";
      heads = record { bare = refl; word = refl; cols = (omega arith, refl); rows = (omega arith, refl) };
      size = (refl, inr (inr (inl refl)));
      body = record { pieces = []; chain = tt; whole = refl; gives = refl };
    }

empty_run : (n : ℕ) → 1 ≤ n → n ≤ 20 → IsPiece Sudoku (square 9) (piece ((102 + n) ∷ []) (replicate n Blank))
empty_run n some few = (run (some, few, refl), All-replicate (IsClue Sudoku (square 9)) n Blank tt)

row_written_empty : CanonicalText (codes "sudoku/9/9/zzzzg") empty_nine
row_written_empty =
    record {
      body = codes "zzzzg";
      canonical = record {
        pieces =
            piece (122 ∷ []) (replicate 20 Blank) ∷ piece (122 ∷ []) (replicate 20 Blank) ∷ piece (122 ∷ [])
            (replicate 20 Blank) ∷ piece (122 ∷ []) (replicate 20 Blank) ∷ piece (103 ∷ [])
            (replicate 1 Blank) ∷ [];
        chain = (
          omega arith,
          empty_run 20 (omega arith) (omega arith),
          (
            omega arith,
            empty_run 20 (omega arith) (omega arith),
            (
              omega arith,
              empty_run 20 (omega arith) (omega arith),
              (
                omega arith,
                empty_run 20 (omega arith) (omega arith),
                (omega arith, empty_run 1 (omega arith) (omega arith), tt),
              ),
            ),
          ),
        );
        whole = refl;
        gives = refl;
        covers = omega arith;
        chosen = (
          record { within = omega arith; stops = inl refl },
          one_byte Sudoku _,
          (
            record { within = omega arith; stops = inl refl },
            one_byte Sudoku _,
            (
              record { within = omega arith; stops = inl refl },
              one_byte Sudoku _,
              (
                record { within = omega arith; stops = inl refl },
                one_byte Sudoku _,
                (record { within = omega arith; stops = inr (λ e. cc) }, one_byte Sudoku _, tt),
              ),
            ),
          ),
        );
      };
      whole = rw (decimal_digit 9 (omega arith)) refl;
    }

-- a fault of the body's first byte
first_fault : (kind : Kind) (size : Size) (body : List ℕ) (fault : TextFault)
    → 0 < length body
    → HasPlace fault 0
    → IsWrong kind size 0 body fault
    → FaultAt kind size body fault
first_fault kind size body fault some place wrong =
    record { pieces = []; rest = body; chain = tt; whole = refl; place = place; follows = some; wrong = wrong }

row_strange : FaultOf (codes "slither/2/2/f") (faults.Strange 0)
unfolding cell4_form
row_strange =
    record {
      start = codes "slither/2/2/f";
      kind = Slither;
      size = square 2;
      heads = record { bare = refl; word = refl; cols = (omega arith, refl); rows = (omega arith, refl) };
      limit = small;
      body =
          first_fault Slither (square 2) (codes "f") (faults.Strange 0) (omega arith) refl
          (omega arith, is_strange Slither (codes "f") (omega arith) refl);
    }

row_cut : FaultOf (codes "nurikabe/2/2/-0") (faults.Cut 0)
unfolding number16_form
row_cut =
    let cut = is_cut Nurikabe (codes "-0") (omega arith) refl in
    record {
      start = codes "nurikabe/2/2/-0";
      kind = Nurikabe;
      size = square 2;
      heads = record { bare = refl; word = refl; cols = (omega arith, refl); rows = (omega arith, refl) };
      limit = small;
      body =
          first_fault Nurikabe (square 2) (codes "-0") (faults.Cut 0) (omega arith) refl
          (omega arith, cut.0, cut.1, cut.2);
    }

-- a sign in Slitherlink begins no form
row_sign : FaultOf (codes "slither/2/2/-02") (faults.Strange 0)
unfolding cell4_form
row_sign =
    record {
      start = codes "slither/2/2/-02";
      kind = Slither;
      size = square 2;
      heads = record { bare = refl; word = refl; cols = (omega arith, refl); rows = (omega arith, refl) };
      limit = small;
      body =
          first_fault Slither (square 2) (codes "-02") (faults.Strange 0) (omega arith) refl
          (omega arith, is_strange Slither (codes "-02") (omega arith) refl);
    }

five : Form Sudoku (53 ∷ []) (Number 5 ∷ [])
five = one tt (inl (omega arith, refl))

row_range : FaultOf (codes "sudoku/4/4/5u") (faults.Range 0)
row_range =
    record {
      start = codes "sudoku/4/4/5u";
      kind = Sudoku;
      size = square 4;
      heads = record { bare = refl; word = refl; cols = (omega arith, refl); rows = (omega arith, refl) };
      limit = (refl, inl refl);
      body = first_fault Sudoku (square 4) (codes "5u") (faults.Range 0) (omega arith) refl (
        omega arith,
        record {
          piece = piece (53 ∷ []) (Number 5 ∷ []);
          after = 117 ∷ [];
          front = refl;
          form = five;
          wrong = λ all. let high = All-head (IsClue Sudoku (square 4)) (Number 5) [] all in omega arith;
        },
      );
    }

-- a byte after the last cell
row_after : FaultOf (codes "slither/1/1/00") (faults.After 1)
row_after =
    record {
      start = codes "slither/1/1/00";
      kind = Slither;
      size = square 1;
      heads = record { bare = refl; word = refl; cols = (omega arith, refl); rows = (omega arith, refl) };
      limit = record {
        some_cols = omega arith;
        few_cols = omega arith;
        some_rows = omega arith;
        few_rows = omega arith;
        few_cells = omega arith;
      };
      body = record {
        pieces = piece (48 ∷ []) (Number 0 ∷ []) ∷ [];
        rest = 48 ∷ [];
        chain = (omega arith, (alone (omega arith) refl, ranges Slither (square 1) 0 0 (omega arith) tt), tt);
        whole = refl;
        place = refl;
        follows = omega arith;
        wrong = omega arith;
      };
    }

row_limit : FaultOf (codes "sudoku/9/8/g") faults.SizeLimit
row_limit =
    record {
      start = codes "sudoku/9/8/g";
      kind = Sudoku;
      size = record { cols = 9; rows = 8 };
      heads = record { bare = refl; word = refl; cols = (omega arith, refl); rows = (omega arith, refl) };
      limit = λ h. let same = h.0 in omega arith;
    }

row_side : FaultOf (codes "sudoku/9") faults.SizeField
row_side = record { start = codes "sudoku/9"; kind = Sudoku; bare = refl; word = refl; side = inr (λ n h. h) }

row_kind : FaultOf (codes "kakuro/4/4/") faults.Kind
row_kind = inr (codes "kakuro/4/4/", refl, other)
  where
    other : (kind : Kind) → word_field (codes "kakuro/4/4/") ≡ word_of kind → ⊥
    other Sudoku e = omega (arith, ap (λ s. get_or s 0 0) e)
    other Slither e = omega (arith, ap (λ s. get_or s 0 0) e)
    other Nurikabe e = omega (arith, ap (λ s. get_or s 0 0) e)

row_no_question_mark : FaultOf (codes "https://puzz.link/p") faults.Kind
row_no_question_mark = inl refl

row_bare : bare (codes "https://puzz.link/p?sudoku/4/4/12g/") ≡ Some (codes "sudoku/4/4/12g/")
row_bare = refl

row_bare_missing : bare (codes "https://puzz.link/p") ≡ None
row_bare_missing = refl

row_cols : cols_field (codes "sudoku/9") ≡ codes "9"
row_cols = refl

row_rows : rows_field (codes "sudoku/9") ≡ []
row_rows = refl

row_body : body_of (codes "sudoku/4/4/12g/") ≡ codes "12g"
row_body = refl

row_bare_body : body_of (codes "sudoku/4/4/") ≡ []
row_bare_body = refl
