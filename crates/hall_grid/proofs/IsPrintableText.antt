-- What is written is short, in printable ASCII.
use Rattle.std.proofs.Common.{◌≡◌, ℕ, zero, suc, ◌+◌, ◌-◌, ◌*◌, ◌/◌, ◌%◌, ◌<◌, ◌≤◌, List, [], ◌∷◌, ◌++◌, length, map}
use Rattle.std.proofs.Common.{take, drop, refl, sym, ap, ◌∙◌, inl, inr, arith, decimal, true, nat_le}
use Rattle.std.specs.Prelude.{All, IsTrue}
use Rattle.std.specs.List.{list_all}
use Rattle.std.proofs.lemmas.Bool.{cases_lt, and_parts, and_from, le-leb, lt-ltb, le-ltb}
use Rattle.std.proofs.lemmas.List.{length-append, length-map, length-replicate, take-append-drop}
use Rattle.std.proofs.lemmas.List.Elements.{All-nil, All-cons, All-append, All-same, All-map, All-weaker, All-take}
use Rattle.std.proofs.lemmas.List.Elements.{All-drop}
use Rattle.std.proofs.lemmas.Fmt.{decimal_digit, decimal_step}
use Rattle.hall_grid.specs.declared.board.Size.{Size}
use Rattle.hall_grid.specs.declared.board.Kind.{Kind}
use Rattle.hall_grid.specs.declared.board.Kind.TheVariants.{Sudoku, Slither, Nurikabe}
use Rattle.hall_grid.specs.declared.board.Clue.{Clue}
use Rattle.hall_grid.specs.declared.board.Clue.TheVariants.{Blank}
use Rattle.hall_grid.specs.Answer.{values_of, value_byte, sudoku_byte, slither_byte, nurikabe_byte, text_of, IsFilling}
use Rattle.hall_grid.specs.Answer.{AnswerText}
use Rattle.hall_grid.specs.Board.{Board, cells, HasSize, of_parts}
use Rattle.hall_grid.specs.Body.{IsHexDigit, Form, one, two, three, some_number, alone, before_one, before_two}
use Rattle.hall_grid.specs.Body.{some_count, run, Piece, IsChain, bytes_of}
use Rattle.hall_grid.specs.Canonical.{CanonicalText, head_of}
use Rattle.hall_grid.specs.Printable.{is_printable, IsPrintableText}
use Rattle.hall_grid.specs.Slither.{flat_sides}
use Rattle.hall_grid.specs.Text.{word_of}
use Rattle.hall_grid.proofs.CanonicalSpells.{small_sides}

abbrev IsPrintable : ℕ → Type 0
IsPrintable byte = IsTrue (is_printable byte)

abbrev ArePrintable : List ℕ → Type 0
ArePrintable bytes = All IsPrintable bytes

printable : (b : ℕ) → 32 ≤ b → b ≤ 126 → IsPrintable b
printable b low high = and_from (nat_le 32 b) (nat_le b 126) (le-leb 32 b low) (le-leb b 126 high)

last_byte : (b : ℕ) → IsPrintable b → ArePrintable (b ∷ [])
last_byte b h = All-cons IsPrintable b [] h (All-nil IsPrintable)

next_byte : (b : ℕ) (bytes : List ℕ) → IsPrintable b → ArePrintable bytes → ArePrintable (b ∷ bytes)
next_byte b bytes h all = All-cons IsPrintable b bytes h all

digit_printable : (b n : ℕ) → IsHexDigit b n → IsPrintable b
digit_printable b n (inl h) = printable b (omega arith) (omega arith)
digit_printable b n (inr h) = printable b (omega arith) (omega arith)

last_digit : (b n : ℕ) → IsHexDigit b n → ArePrintable (b ∷ [])
last_digit b n d = last_byte b (digit_printable b n d)

-- a form is at most four bytes of printable ASCII, and gives a clue at least
record IsPrintableForm (bytes : List ℕ) (clues : List Clue) : Type 0 where
  printable : ArePrintable bytes
  few : length bytes ≤ 4
  some : 1 ≤ length clues

form_of_byte : (byte : ℕ) (clues : List Clue)
    → 32 ≤ byte
    → byte ≤ 126
    → 1 ≤ length clues
    → IsPrintableForm (byte ∷ []) clues
form_of_byte byte clues low high some =
    record { printable = last_byte byte (printable byte low high); few = omega arith; some = some }

form_printable : (kind : Kind) (bytes : List ℕ) (clues : List Clue)
    → Form kind bytes clues
    → IsPrintableForm bytes clues
form_printable kind bytes clues (one {a = a} {m = m} _ d) =
    record { printable = last_digit a m d; few = omega arith; some = omega arith }
form_printable kind bytes clues (two {a = a} {b = b} {m = m} {n = n} _ d e) =
    let digits = next_byte a (b ∷ []) (digit_printable a m d) (last_digit b n e) in
    record { printable = next_byte 45 (a ∷ b ∷ []) refl digits; few = omega arith; some = omega arith }
form_printable kind bytes clues (three {a = a} {b = b} {c = c} {l = l} {m = m} {n = n} _ d e f) =
    let last_two = next_byte b (c ∷ []) (digit_printable b m e) (last_digit c n f) in
    let digits = next_byte a (b ∷ c ∷ []) (digit_printable a l d) last_two in
    record { printable = next_byte 43 (a ∷ b ∷ c ∷ []) refl digits; few = omega arith; some = omega arith }
form_printable kind bytes clues some_number = form_of_byte 46 clues (omega arith) (omega arith) (omega arith)
form_printable kind bytes clues (alone {a = a} few e) = form_of_byte a clues (omega arith) (omega arith) (omega arith)
form_printable kind bytes clues (before_one {a = a} few e) =
    form_of_byte a clues (omega arith) (omega arith) (omega arith)
form_printable kind bytes clues (before_two {a = a} few e) =
    form_of_byte a clues (omega arith) (omega arith) (omega arith)
form_printable kind bytes clues some_count = form_of_byte 46 clues (omega arith) (omega arith) (omega arith)
form_printable kind bytes clues (run {a = a} {n = n} r) =
    let byte = r.2 in
    let most = r.1 in
    form_of_byte a clues (omega arith) (omega arith) (omega (arith, r.0, length-replicate {A = Clue} n Blank))

body_printable : (kind : Kind) (size : Size) (given : ℕ) (pieces : List Piece)
    → IsChain kind size given pieces
    → ArePrintable (bytes_of pieces)
body_printable kind size given [] chain = All-nil IsPrintable
body_printable kind size given (p ∷ pieces) chain =
    All-append IsPrintable p.bytes (bytes_of pieces) (form_printable kind p.bytes p.clues chain.1.0).printable
    (body_printable kind size (given + length p.clues) pieces chain.2)

body_few : (kind : Kind) (size : Size) (given : ℕ) (pieces : List Piece)
    → IsChain kind size given pieces
    → length (bytes_of pieces) ≤ 4 * (cells size - given)
body_few kind size given [] chain = omega arith
body_few kind size given (p ∷ pieces) chain =
    let form = form_printable kind p.bytes p.clues chain.1.0 in
    let rest = body_few kind size (given + length p.clues) pieces chain.2 in
    let room = chain.0 in
    omega (arith, form.few, form.some, length-append p.bytes (bytes_of pieces))

-- a number of one or two digits
record IsPrintableNumber (bytes : List ℕ) : Type 0 where
  printable : ArePrintable bytes
  few : length bytes ≤ 2

digit_byte : (n : ℕ) → n < 10 → IsPrintable (48 + n)
digit_byte n small = printable (48 + n) (omega arith) (omega arith)

side_printable : (n : ℕ) → n ≤ 50 → IsPrintableNumber (decimal n)
side_printable n few =
    elim (cases_lt n 10) [
      | inl small ↦
          rw (decimal_digit n small)
          (record { printable = last_byte (48 + n) (digit_byte n small); few = omega arith })
      | inr large ↦
          let tens = digit_byte (n / 10) (omega arith) in
          let ones = digit_byte (n % 10) (omega arith) in
          rw (decimal_step n large (omega arith), decimal_digit (n / 10) (omega arith))
          (record {
            printable = next_byte (48 + n / 10) ((48 + n % 10) ∷ []) tens (last_byte (48 + n % 10) ones);
            few = omega arith;
          })
    ]

record IsPrintableWord (bytes : List ℕ) : Type 0 where
  printable : ArePrintable bytes
  some : 1 ≤ length bytes
  few : length bytes ≤ 8

letters : (bytes : List ℕ) → list_all is_printable bytes ≡ true → ArePrintable bytes
letters [] e = All-nil IsPrintable
letters (b ∷ bytes) e =
    let p = and_parts (is_printable b) (list_all is_printable bytes) e in next_byte b bytes p.0 (letters bytes p.1)

word_printable : (kind : Kind) → IsPrintableWord (word_of kind)
word_printable Sudoku =
    record { printable = letters (word_of Sudoku) refl; some = omega arith; few = omega arith }
word_printable Slither =
    record { printable = letters (word_of Slither) refl; some = omega arith; few = omega arith }
word_printable Nurikabe =
    record { printable = letters (word_of Nurikabe) refl; some = omega arith; few = omega arith }

square : (size : Size) (n : ℕ) → size.rows ≡ n → size.cols ≡ n → n * n ≤ 1000 → cells size ≤ 1000
square size n e f few = rw (e, f) few

few_cells : (kind : Kind) (size : Size) → HasSize kind size → cells size ≤ 1000
few_cells Sudoku size (e, inl side) = square size 4 (sym e ∙ side) side (omega arith)
few_cells Sudoku size (e, inr (inl side)) = square size 6 (sym e ∙ side) side (omega arith)
few_cells Sudoku size (e, inr (inr (inl side))) = square size 9 (sym e ∙ side) side (omega arith)
few_cells Sudoku size (e, inr (inr (inr (inl side)))) = square size 16 (sym e ∙ side) side (omega arith)
few_cells Sudoku size (e, inr (inr (inr (inr side)))) = square size 25 (sym e ∙ side) side (omega arith)
few_cells Slither size h = h.few_cells
few_cells Nurikabe size h = h.few_cells

slash_then : (bytes : List ℕ) → ArePrintable bytes → ArePrintable (47 ∷ bytes)
slash_then bytes h = next_byte 47 bytes refl h

-- what stands before the body is short
record IsPrintableHead (bytes : List ℕ) : Type 0 where
  printable : ArePrintable bytes
  some : 1 ≤ length bytes
  few : length bytes ≤ 15

head_printable : (kind : Kind) (size : Size) → HasSize kind size → IsPrintableHead (head_of kind size)
head_printable kind size fits =
    let word = word_printable kind in
    let cols = side_printable size.cols (small_sides kind size fits).few_cols in
    let rows = side_printable size.rows (small_sides kind size fits).few_rows in
    let after_rows : List ℕ = decimal size.rows ++ (47 ∷ []) in
    let after_cols : List ℕ = decimal size.cols ++ (47 ∷ after_rows) in
    let rows_end : ArePrintable after_rows =
    All-append IsPrintable (decimal size.rows) (47 ∷ []) rows.printable (last_byte 47 refl) in
    let cols_end : ArePrintable after_cols =
    All-append IsPrintable (decimal size.cols) (47 ∷ after_rows) cols.printable (slash_then after_rows rows_end) in
    let rows_length = length-append (decimal size.rows) (47 ∷ []) in
    let cols_length = length-append (decimal size.cols) (47 ∷ after_rows) in
    let whole_length = length-append (word_of kind) (47 ∷ after_cols) in
    record {
      printable =
          All-append IsPrintable (word_of kind) (47 ∷ after_cols) word.printable (slash_then after_cols cols_end);
      some = omega (arith, word.some, whole_length);
      few = omega (arith, word.few, cols.few, rows.few, rows_length, cols_length, whole_length);
    }

-- a canonical text is short, in printable ASCII
pub IsPrintableText-from_CanonicalText : (text : List ℕ) (board : Board)
    → HasSize board.kind board.size
    → CanonicalText text board
    → IsPrintableText 1 4015 text
IsPrintableText-from_CanonicalText text board fits c =
    let before : List ℕ = head_of board.kind board.size in
    let head = head_printable board.kind board.size fits in
    let pieces = c.canonical.pieces in
    let chain = c.canonical.chain in
    let pieces_printable = body_printable board.kind board.size 0 pieces chain in
    let body : ArePrintable c.body = All-same IsPrintable c.body _ c.canonical.whole pieces_printable in
    let few = body_few board.kind board.size 0 pieces chain in
    let len : length text ≡ length before + length c.body = ap length c.whole ∙ length-append before c.body in
    let body_len : length c.body ≡ length (bytes_of pieces) = ap length c.canonical.whole in
    let most = few_cells board.kind board.size fits in
    record {
      some = omega (arith, head.some);
      few = omega (arith, head.few);
      printable = All-same IsPrintable text _ c.whole (All-append IsPrintable before c.body head.printable body);
    }

sudoku_printable : (v : ℕ) → v < 25 → IsPrintable (sudoku_byte v)
sudoku_printable v few =
    elim (cases_lt v 9) [
      | inl low ↦ rw (lt-ltb v 9 low) (printable (49 + v) (omega arith) (omega arith))
      | inr high ↦ rw (le-ltb v 9 high) (printable (88 + v) (omega arith) (omega arith))
    ]

nurikabe_printable : (v : ℕ) → v < 2 → IsPrintable (nurikabe_byte v)
nurikabe_printable zero few = refl
nurikabe_printable (suc zero) few = refl
nurikabe_printable (suc (suc v)) few = absurd (omega arith)

value_printable : (kind : Kind) (size : Size) (v : ℕ)
    → HasSize kind size
    → v < values_of kind size
    → IsPrintable (value_byte kind v)
value_printable Sudoku size v (e, side) few = sudoku_printable v (omega arith)
value_printable Slither size v fits few = printable (48 + v) (omega arith) (omega arith)
value_printable Nurikabe size v fits few = nurikabe_printable v few

values_printable : (kind : Kind) (size : Size) (vs : List ℕ)
    → HasSize kind size
    → All (λ v. v < values_of kind size) vs
    → ArePrintable (map (value_byte kind) vs)
values_printable kind size vs fits ranges =
    All-map IsPrintable (value_byte kind) vs
    (All-weaker (λ v. v < values_of kind size) (λ v. IsPrintable (value_byte kind v))
    (λ v few. value_printable kind size v fits few) vs ranges)

filling_printable : (kind : Kind) (size : Size) (clues : List Clue) (f : List ℕ)
    → HasSize kind size
    → IsFilling (of_parts kind size clues) f
    → IsPrintableText 0 2101 (text_of kind size f)
filling_printable Sudoku size clues f fits filling =
    record {
      some = omega arith;
      few = omega (arith, few_cells Sudoku size fits, filling.exact, length-map f sudoku_byte);
      printable = values_printable Sudoku size f fits filling.ranges;
    }
filling_printable Slither size clues f fits filling =
    let IsLine : ℕ → Type 0 = λ v. v < 2 in
    let flat : List ℕ = take (flat_sides size) f in
    let upright : List ℕ = drop (flat_sides size) f in
    let before = values_printable Slither size flat fits (All-take IsLine (flat_sides size) f filling.ranges) in
    let after = values_printable Slither size upright fits (All-drop IsLine (flat_sides size) f filling.ranges) in
    let whole = length-append (map slither_byte flat) (47 ∷ map slither_byte upright) in
    let parts : length flat + length upright ≡ length f =
    sym (length-append flat upright) ∙ ap length (take-append-drop (flat_sides size) f) in
    record {
      some = omega arith;
      few =
          omega (
            arith,
            fits.few_cells,
            filling.exact,
            whole,
            length-map flat slither_byte,
            length-map upright slither_byte,
          );
      printable = All-append IsPrintable (map slither_byte flat) _ before (slash_then _ after);
    }
filling_printable Nurikabe size clues f fits filling =
    record {
      some = omega arith;
      few = omega (arith, few_cells Nurikabe size fits, filling.exact, length-map f nurikabe_byte);
      printable = values_printable Nurikabe size f fits filling.ranges;
    }

-- an answer text is short, in printable ASCII
pub IsPrintableText-from_AnswerText : (board : Board) (text f : List ℕ)
    → HasSize board.kind board.size
    → AnswerText board text f
    → IsPrintableText 0 2101 text
IsPrintableText-from_AnswerText board text f fits a =
    rw a.written (filling_printable board.kind board.size board.clues f fits a.filling)
