-- Each text spells a puzzle or has a fault.
use Rattle.std.proofs.Common.{◌≡◌, ℕ, zero, suc, ◌+◌, ◌-◌, ◌*◌, ◌<◌, ◌≤◌, ◌⊎◌, List, [], ◌∷◌, ◌++◌, length, Option}
use Rattle.std.proofs.Common.{Some, None, Result, Ok, Err, refl, ap, ◌∙◌, subst, inl, inr, arith}
use Rattle.std.specs.Prelude.{All}
use Rattle.std.proofs.lemmas.Bool.{cases_lt, cases_eq}
use Rattle.std.proofs.lemmas.List.{append-nil, length-append}
use Rattle.std.proofs.lemmas.List.Elements.{All-nil, All-cons, All-head, All-tail}
use Rattle.hall_grid.specs.declared.board.Size.{Size}
use Rattle.hall_grid.specs.declared.board.Kind.{Kind}
use Rattle.hall_grid.specs.declared.board.Kind.TheVariants.{Sudoku, Slither, Nurikabe}
use Rattle.hall_grid.specs.declared.board.Clue.{Clue}
use Rattle.hall_grid.specs.declared.board.Clue.TheVariants.{Blank, Unknown, Number}
use Rattle.hall_grid.specs.declared.form.FormFault.{FormFault}
use Rattle.hall_grid.specs.declared.form.FormFault.TheVariants.{Strange, Cut}
use Rattle.hall_grid.specs.declared.fault.TextFault.{TextFault}
use Rattle.hall_grid.specs.declared.fault.TextFault.TheVariants as faults
use Rattle.hall_grid.specs.Board.{Board, IsSize, IsSudokuSide, HasSize, IsClue, cells, of_parts}
use Rattle.hall_grid.specs.Body.{IsDigit, bytes_of, clues_of, fitted, Spells, FaultAt, IsWrong, HasPlace}
use Rattle.hall_grid.specs.FormReading.{form_at}
use Rattle.hall_grid.specs.Text.{bare, IsBare, IsSide, IsNoSide, word_of, word_field, cols_field, rows_field, body_of}
use Rattle.hall_grid.specs.Text.{Heads, SpellsText, HasBodyFault, FaultOf}
use Rattle.hall_grid.proofs.FormAt.{form_is, is_cut, is_strange, takes_form, has_wrong}
use Rattle.hall_grid.proofs.Bodies.{IsRead, IsRead-start, IsRead-more}
use Rattle.hall_grid.proofs.Spells.{some_bytes}

abbrev Decided : Type 0 → Type 0
Decided P = P ⊎ (P → ⊥)

both : (P Q : Type 0) → Decided P → Decided Q → Decided (P × Q)
both P Q (inl p) (inl q) = inl (p, q)
both P Q (inl p) (inr q) = inr (λ h. q h.1)
both P Q (inr p) q = inr (λ h. p h.0)

either : (P Q : Type 0) → Decided P → Decided Q → Decided (P ⊎ Q)
either P Q (inl p) q = inl (inl p)
either P Q (inr p) (inl q) = inl (inr q)
either P Q (inr p) (inr q) = inr (λ h. elim h [ inl x ↦ p x | inr y ↦ q y ])

at_most : (a b : ℕ) → Decided (a ≤ b)
at_most a b = elim (cases_lt b a) [ inl less ↦ inr (λ h. omega arith) | inr more ↦ inl more ]

clue_decided : (kind : Kind) (size : Size) (clue : Clue) → Decided (IsClue kind size clue)
clue_decided Sudoku size Blank = inl tt
clue_decided Slither size Blank = inl tt
clue_decided Nurikabe size Blank = inl tt
clue_decided Sudoku size Unknown = inr (λ h. h)
clue_decided Slither size Unknown = inl tt
clue_decided Nurikabe size Unknown = inl tt
clue_decided Sudoku size (Number n) = both (1 ≤ n) (n ≤ size.cols) (at_most 1 n) (at_most n size.cols)
clue_decided Slither size (Number n) = at_most n 4
clue_decided Nurikabe size (Number n) = both (1 ≤ n) (n ≤ 4095) (at_most 1 n) (at_most n 4095)

clues_decided : (kind : Kind) (size : Size) (clues : List Clue) → Decided (All (IsClue kind size) clues)
clues_decided kind size [] = inl (All-nil (IsClue kind size))
clues_decided kind size (c ∷ clues) =
    elim (clue_decided kind size c) [
      | inl fits ↦ elim (clues_decided kind size clues) [
        | inl all ↦ inl (All-cons (IsClue kind size) c clues fits all)
        | inr wrong ↦ inr (λ h. wrong (All-tail (IsClue kind size) c clues h))
      ]
      | inr wrong ↦ inr (λ h. wrong (All-head (IsClue kind size) c clues h))
    ]

-- the body spells clues, or has a fault
abbrev BodyOutcome : Kind → Size → List ℕ → Type 0
BodyOutcome kind size body =
    ((clues : List Clue) × Spells kind size body clues) ⊎ ((fault : TextFault) × FaultAt kind size body fault)

fault_here : (kind : Kind) (size : Size) (body rest : List ℕ) (clues : List Clue) (make : ℕ → TextFault)
    → ((place : ℕ) → HasPlace (make place) place)
    → IsRead kind size body rest clues
    → 0 < length rest
    → ((place : ℕ) → IsWrong kind size (length clues) rest (make place))
    → BodyOutcome kind size body
fault_here kind size body rest clues make places read some wrong =
    let place : ℕ = length (bytes_of read.pieces) in
    inr (
      make place,
      record {
        pieces = read.pieces;
        rest = rest;
        chain = read.chain;
        whole = read.whole;
        place = places place;
        follows = some;
        wrong = subst (λ cs. IsWrong kind size (length cs) rest (make place)) read.gives (wrong place);
      },
    )

spelled : (kind : Kind) (size : Size) (body : List ℕ) (clues : List Clue)
    → IsRead kind size body [] clues
    → BodyOutcome kind size body
spelled kind size body clues read =
    inl (
      fitted (cells size) (clues_of read.pieces),
      record {
        pieces = read.pieces;
        chain = read.chain;
        whole = read.whole ∙ append-nil (bytes_of read.pieces);
        gives = refl;
      },
    )

-- one form more is read, and fewer bytes are left
record ReadsOn (kind : Kind) (size : Size) (body rest : List ℕ) : Type 0 where
  after : List ℕ
  clues : List Clue
  read : IsRead kind size body after clues
  fewer : length after < length rest

read_form : (kind : Kind) (size : Size) (body rest : List ℕ) (clues : List Clue)
    (form : Result (List Clue × List ℕ) FormFault)
    → form_at kind rest ≡ form
    → 0 < length rest
    → IsRead kind size body rest clues
    → length clues < cells size
    → BodyOutcome kind size body ⊎ ReadsOn kind size body rest
read_form kind size body rest clues (Err Strange) e some read room =
    inl (fault_here kind size body rest clues faults.Strange (λ place. refl) read some
    (λ place. (room, is_strange kind rest some e)))
read_form kind size body rest clues (Err Cut) e some read room =
    let cut = is_cut kind rest some e in
    inl (fault_here kind size body rest clues faults.Cut (λ place. refl) read some
    (λ place. (room, cut.0, cut.1, cut.2)))
read_form kind size body rest clues (Ok (more, after)) e some read room =
    elim (clues_decided kind size more) [
      | inl ranges ↦
          let r = form_is kind rest (more, after) e in
          inr (record {
            after = after;
            clues = clues ++ more;
            read =
                IsRead-more kind size body rest after clues (clues ++ more) read room
                (takes_form kind size rest clues (clues ++ more) more after e ranges refl);
            fewer = omega (arith, ap length r.front, length-append r.form after, some_bytes kind r.form more r.is_form);
          })
      | inr wrong ↦
          inl (fault_here kind size body rest clues faults.Range (λ place. refl) read some
          (λ place. (room, has_wrong kind size rest more after e wrong)))
    ]

-- with so many bytes left at most
read_on : (n : ℕ) (kind : Kind) (size : Size) (body rest : List ℕ) (clues : List Clue)
    → length rest ≤ n
    → IsRead kind size body rest clues
    → BodyOutcome kind size body
read_on n kind size body [] clues few read = spelled kind size body clues read
read_on zero kind size body (b ∷ rest) clues few read = absurd (omega arith)
read_on (suc n) kind size body (b ∷ rest) clues few read =
    elim (cases_lt (length clues) (cells size)) [
      | inl room ↦
          elim (read_form kind size body (b ∷ rest) clues (form_at kind (b ∷ rest)) refl (omega arith) read room) [
            | inl outcome ↦ outcome
            | inr next ↦ read_on n kind size body next.after next.clues (omega (arith, next.fewer)) next.read
          ]
      | inr full ↦
          fault_here kind size body (b ∷ rest) clues faults.After (λ place. refl) read (omega arith) (λ place. full)
    ]

body_outcome : (kind : Kind) (size : Size) (body : List ℕ) → BodyOutcome kind size body
body_outcome kind size body = read_on (length body) kind size body body [] (omega arith) (IsRead-start kind size body)

same_bytes : (xs ys : List ℕ) → Decided (xs ≡ ys)
same_bytes [] [] = inl refl
same_bytes [] (y ∷ ys) = inr (λ e. cc)
same_bytes (x ∷ xs) [] = inr (λ e. cc)
same_bytes (x ∷ xs) (y ∷ ys) =
    elim (cases_eq x y) [
      | inl head ↦ elim (same_bytes xs ys) [ inl tail ↦ inl (λ i. head i ∷ tail i) | inr other ↦ inr (λ e. other (cc)) ]
      | inr other ↦ inr (λ e. other (cc))
    ]

-- a word is that of a kind, or of none
kind_outcome : (word : List ℕ) → ((kind : Kind) × (word ≡ word_of kind)) ⊎ ((kind : Kind) → word ≡ word_of kind → ⊥)
kind_outcome word =
    elim (same_bytes word (word_of Sudoku)) [
      | inl e ↦ inl (Sudoku, e)
      | inr not_sudoku ↦ elim (same_bytes word (word_of Slither)) [
        | inl e ↦ inl (Slither, e)
        | inr not_slither ↦ elim (same_bytes word (word_of Nurikabe)) [
          | inl e ↦ inl (Nurikabe, e)
          | inr not_nurikabe ↦ inr (none not_sudoku not_slither not_nurikabe)
        ]
      ]
    ]
  where
    none : (word ≡ word_of Sudoku → ⊥)
        → (word ≡ word_of Slither → ⊥)
        → (word ≡ word_of Nurikabe → ⊥)
        → (kind : Kind)
        → word ≡ word_of kind
        → ⊥
    none a b c Sudoku e = a e
    none a b c Slither e = b e
    none a b c Nurikabe e = c e

digit_outcome : (b : ℕ) → ((n : ℕ) × IsDigit b n) ⊎ ((n : ℕ) → IsDigit b n → ⊥)
digit_outcome b =
    elim (cases_lt b 48) [
      | inl low ↦ inr (λ n h. omega (arith, h.0, h.1))
      | inr least ↦ elim (cases_lt b 58) [
        | inl most ↦ inl (b - 48, (omega arith, omega arith))
        | inr high ↦ inr (λ n h. omega (arith, h.0, h.1))
      ]
    ]

side_outcome : (field : List ℕ) → ((n : ℕ) × IsSide field n) ⊎ IsNoSide field
side_outcome [] = inr (λ n h. h)
side_outcome (a ∷ []) = digit_outcome a
side_outcome (a ∷ b ∷ []) =
    elim (digit_outcome a) [
      | inl (x, h) ↦ elim (digit_outcome b) [
        | inl (y, k) ↦ inl (10 * x + y, (x, y, h, k, refl))
        | inr other ↦ inr (λ n s. other s.1 s.3)
      ]
      | inr other ↦ inr (λ n s. other s.0 s.2)
    ]
side_outcome (a ∷ b ∷ c ∷ rest) = inr (λ n h. h)

size_decided : (size : Size) → Decided (IsSize size)
size_decided size =
    elim (both (1 ≤ size.cols) (size.cols ≤ 50) (at_most 1 size.cols) (at_most size.cols 50)) [
      | inl cols ↦ elim (both (1 ≤ size.rows) (size.rows ≤ 50) (at_most 1 size.rows) (at_most size.rows 50)) [
        | inl rows ↦ elim (at_most (cells size) 1000) [
          | inl few ↦ inl (record {
            some_cols = cols.0;
            few_cols = cols.1;
            some_rows = rows.0;
            few_rows = rows.1;
            few_cells = few;
          })
          | inr many ↦ inr (λ h. many h.few_cells)
        ]
        | inr wrong ↦ inr (λ h. wrong (h.some_rows, h.few_rows))
      ]
      | inr wrong ↦ inr (λ h. wrong (h.some_cols, h.few_cols))
    ]

limit_decided : (kind : Kind) (size : Size) → Decided (HasSize kind size)
limit_decided Sudoku size =
    let c = size.cols in
    both (size.cols ≡ size.rows) (IsSudokuSide size.cols) (cases_eq size.cols size.rows)
    (either (c ≡ 4) ((c ≡ 6) ⊎ ((c ≡ 9) ⊎ ((c ≡ 16) ⊎ (c ≡ 25)))) (cases_eq c 4)
    (either (c ≡ 6) ((c ≡ 9) ⊎ ((c ≡ 16) ⊎ (c ≡ 25))) (cases_eq c 6)
    (either (c ≡ 9) ((c ≡ 16) ⊎ (c ≡ 25)) (cases_eq c 9) (either (c ≡ 16) (c ≡ 25) (cases_eq c 16) (cases_eq c 25)))))
limit_decided Slither size = size_decided size
limit_decided Nurikabe size = size_decided size

-- the text spells a puzzle, or has a fault
abbrev TextOutcome : List ℕ → Type 0
TextOutcome text = ((board : Board) × SpellsText text board) ⊎ ((fault : TextFault) × FaultOf text fault)

has_body_fault : (text start : List ℕ) (kind : Kind) (size : Size) (fault : TextFault)
    → Heads text start kind size
    → HasSize kind size
    → FaultAt kind size (body_of start) fault
    → HasBodyFault text fault
has_body_fault text start kind size fault heads fits f =
    record { start = start; kind = kind; size = size; heads = heads; limit = fits; body = f }

is_body_fault : (text start : List ℕ) (kind : Kind) (size : Size) (fault : TextFault)
    → Heads text start kind size
    → HasSize kind size
    → FaultAt kind size (body_of start) fault → FaultOf text fault
is_body_fault text start kind size faults.Memory heads fits f = absurd f.wrong
is_body_fault text start kind size faults.Kind heads fits f = absurd f.wrong
is_body_fault text start kind size faults.SizeField heads fits f = absurd f.wrong
is_body_fault text start kind size faults.SizeLimit heads fits f = absurd f.wrong
is_body_fault text start kind size (faults.Strange at) heads fits f =
    has_body_fault text start kind size (faults.Strange at) heads fits f
is_body_fault text start kind size (faults.Cut at) heads fits f =
    has_body_fault text start kind size (faults.Cut at) heads fits f
is_body_fault text start kind size (faults.Range at) heads fits f =
    has_body_fault text start kind size (faults.Range at) heads fits f
is_body_fault text start kind size (faults.After at) heads fits f =
    has_body_fault text start kind size (faults.After at) heads fits f

headed : (text start : List ℕ) (kind : Kind) (size : Size) → Heads text start kind size → TextOutcome text
headed text start kind size heads =
    elim (limit_decided kind size) [
      | inl fits ↦ elim (body_outcome kind size (body_of start)) [
        | inl (clues, s) ↦ inl (
          of_parts kind size clues,
          record {
            start = start;
            heads = heads;
            size = fits;
            body = s;
          },
        )
        | inr (fault, f) ↦ inr (fault, is_body_fault text start kind size fault heads fits f)
      ]
      | inr out ↦ inr (faults.SizeLimit, record { start = start; kind = kind; size = size; heads = heads; limit = out })
    ]

worded : (text start : List ℕ) (kind : Kind) → IsBare text start → word_field start ≡ word_of kind → TextOutcome text
worded text start kind h w =
    elim (side_outcome (cols_field start)) [
      | inl (cols, c) ↦ elim (side_outcome (rows_field start)) [
        | inl (rows, r) ↦
            headed text start kind (record { cols = cols; rows = rows })
            (record { bare = h; word = w; cols = c; rows = r })
        | inr missing ↦ inr (
          faults.SizeField,
          record {
            start = start;
            kind = kind;
            bare = h;
            word = w;
            side = inr missing;
          },
        )
      ]
      | inr missing ↦ inr (
        faults.SizeField,
        record {
          start = start;
          kind = kind;
          bare = h;
          word = w;
          side = inl missing;
        },
      )
    ]

from_bare : (text : List ℕ) (start : Option (List ℕ)) → bare text ≡ start → TextOutcome text
from_bare text None e = inr (faults.Kind, inl e)
from_bare text (Some start) e =
    elim (kind_outcome (word_field start)) [
      | inl (kind, w) ↦ worded text start kind e w
      | inr none ↦ inr (faults.Kind, inr (start, e, none))
    ]

-- each text spells a puzzle or has a fault
pub spells_or_fault : (text : List ℕ)
    → ((board : Board) × SpellsText text board) ⊎ ((fault : TextFault) × FaultOf text fault)
spells_or_fault text = from_bare text (bare text) refl
