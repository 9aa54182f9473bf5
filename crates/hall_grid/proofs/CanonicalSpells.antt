-- What is canonical spells its puzzle.
use Rattle.std.proofs.Common.{◌≡◌, ℕ, ◌+◌, ◌-◌, ◌/◌, ◌%◌, ◌<◌, ◌≤◌, false, List, [], ◌∷◌, ◌++◌, length, get_or, drop}
use Rattle.std.proofs.Common.{refl, sym, ap, ◌∙◌, subst, inl, inr, arith, nat_eq, append_assoc, decimal}
use Rattle.std.specs.Prelude.{All}
use Rattle.std.specs.List.{position_or_len, before_first, after_first, ends_with}
use Rattle.std.specs.Cmp.Lexicographic.{pointwise}
use Rattle.std.proofs.lemmas.Bool.{cases_lt, ne_eqb, eqb-false, cond-false}
use Rattle.std.proofs.lemmas.List.{length-append, get_or_append_left, get_or_at, take_at, drop_at, drop_more, drop_all}
use Rattle.std.proofs.lemmas.List.Elements.{All-nil, All-cons, All-append, All-get_or, All-same}
use Rattle.std.proofs.lemmas.List.Sums.{position_or_len_is}
use Rattle.std.proofs.lemmas.Fmt.{decimal_digit, decimal_step}
use Rattle.hall_grid.specs.declared.board.Size.{Size}
use Rattle.hall_grid.specs.declared.board.Kind.{Kind}
use Rattle.hall_grid.specs.declared.board.Kind.TheVariants.{Sudoku, Slither, Nurikabe}
use Rattle.hall_grid.specs.declared.board.Clue.{Clue}
use Rattle.hall_grid.specs.Board.{Board, IsSize, IsSudokuSide, HasSize}
use Rattle.hall_grid.specs.Body.{IsHexDigit, Form, one, two, three, some_number, alone, before_one, before_two}
use Rattle.hall_grid.specs.Body.{some_count, run, Piece, IsChain, bytes_of, Spells}
use Rattle.hall_grid.specs.Text.{is_slash, word_of, rest_field, without_final_slash, body_of, IsSide, IsBare, Heads}
use Rattle.hall_grid.specs.Text.{SpellsText}
use Rattle.hall_grid.specs.Canonical.{Canonical, CanonicalText, head_of}

-- no byte is a slash
abbrev pub HasNoSlash : List ℕ → Type 0
HasNoSlash bytes = All (λ b. is_slash b ≡ false) bytes

byte_alone : (b : ℕ) → (b ≡ 47 → ⊥) → HasNoSlash (b ∷ [])
byte_alone b other = All-cons (λ b. is_slash b ≡ false) b [] (ne_eqb b 47 other) (All-nil (λ b. is_slash b ≡ false))

byte_before : (b : ℕ) (bytes : List ℕ) → (b ≡ 47 → ⊥) → HasNoSlash bytes → HasNoSlash (b ∷ bytes)
byte_before b bytes other h = All-cons (λ b. is_slash b ≡ false) b bytes (ne_eqb b 47 other) h

digit_no_slash : (b n : ℕ) → IsHexDigit b n → b ≡ 47 → ⊥
digit_no_slash b n (inl h) e = omega arith
digit_no_slash b n (inr h) e = omega arith

-- a form has no slash
form_no_slash : (kind : Kind) (form : List ℕ) (clues : List Clue) → Form kind form clues → HasNoSlash form
form_no_slash kind form clues (one {a = a} {m = m} _ d) = byte_alone a (digit_no_slash a m d)
form_no_slash kind form clues (two {a = a} {b = b} {m = m} {n = n} _ d e) =
    byte_before 45 (a ∷ b ∷ []) (λ h. omega arith)
    (byte_before a (b ∷ []) (digit_no_slash a m d) (byte_alone b (digit_no_slash b n e)))
form_no_slash kind form clues (three {a = a} {b = b} {c = c} {l = l} {m = m} {n = n} _ d e f) =
    byte_before 43 (a ∷ b ∷ c ∷ []) (λ h. omega arith)
    (byte_before a (b ∷ c ∷ []) (digit_no_slash a l d)
    (byte_before b (c ∷ []) (digit_no_slash b m e) (byte_alone c (digit_no_slash c n f))))
form_no_slash kind form clues some_number = byte_alone 46 (λ h. omega arith)
form_no_slash kind form clues (alone {a = a} few e) = byte_alone a (λ h. omega arith)
form_no_slash kind form clues (before_one {a = a} few e) = byte_alone a (λ h. omega arith)
form_no_slash kind form clues (before_two {a = a} few e) = byte_alone a (λ h. omega arith)
form_no_slash kind form clues some_count = byte_alone 46 (λ h. omega arith)
form_no_slash kind form clues (run {a = a} r) = byte_alone a (λ h. omega arith)

body_no_slash : (kind : Kind) (size : Size) (given : ℕ) (pieces : List Piece)
    → IsChain kind size given pieces
    → HasNoSlash (bytes_of pieces)
body_no_slash kind size given [] chain = All-nil (λ b. is_slash b ≡ false)
body_no_slash kind size given (p ∷ pieces) chain =
    All-append (λ b. is_slash b ≡ false) p.bytes (bytes_of pieces) (form_no_slash kind p.bytes p.clues chain.1.0)
    (body_no_slash kind size (given + length p.clues) pieces chain.2)

-- the first slash stands where the bytes without one end
slash_at : (bytes after : List ℕ) → HasNoSlash bytes → position_or_len is_slash (bytes ++ 47 ∷ after) ≡ length bytes
slash_at bytes after h =
    position_or_len_is is_slash (bytes ++ 47 ∷ after) (length bytes) 0 (omega (arith, length-append bytes (47 ∷ after)))
    (λ k below. ap is_slash (get_or_append_left bytes (47 ∷ after) 0 k below)
    ∙ All-get_or (λ b. is_slash b ≡ false) bytes k 0 below h)
    (λ _. ap is_slash (get_or_at bytes 47 after 0 (length bytes) refl))

pub field_before : (bytes after : List ℕ) → HasNoSlash bytes → before_first is_slash (bytes ++ 47 ∷ after) ≡ bytes
field_before bytes after h =
    take_at bytes (47 ∷ after) (position_or_len is_slash (bytes ++ 47 ∷ after)) (sym (slash_at bytes after h))

pub field_after : (bytes after : List ℕ) → HasNoSlash bytes → after_first is_slash (bytes ++ 47 ∷ after) ≡ after
field_after bytes after h =
    ap (λ s. drop (position_or_len is_slash (bytes ++ 47 ∷ after) + 1) s) (sym (append_assoc bytes (47 ∷ []) after))
    ∙ drop_at (bytes ++ 47 ∷ []) after (position_or_len is_slash (bytes ++ 47 ∷ after) + 1)
    (omega (arith, slash_at bytes after h, length-append bytes (47 ∷ [])))

-- bytes without a slash don't end in one
no_final_slash : (bytes : List ℕ) → HasNoSlash bytes → without_final_slash bytes ≡ bytes
no_final_slash [] h = refl
no_final_slash (b ∷ bytes) h =
    let last : ℕ = length (b ∷ bytes) - 1 in
    let within : last < length (b ∷ bytes) = omega arith in
    let rest : drop last (b ∷ bytes) ≡ get_or (b ∷ bytes) last 0 ∷ [] =
    drop_more (b ∷ bytes) last 0 within
    ∙ ap (λ s. get_or (b ∷ bytes) last 0 ∷ s) (drop_all (last + 1) (b ∷ bytes) (omega arith)) in
    let byte : is_slash (get_or (b ∷ bytes) last 0) ≡ false =
    All-get_or (λ b. is_slash b ≡ false) (b ∷ bytes) last 0 within h in
    let other : nat_eq 47 (get_or (b ∷ bytes) last 0) ≡ false = ne_eqb 47 _ (λ e. eqb-false _ 47 byte (sym e)) in
    let ends : ends_with nat_eq (b ∷ bytes) (47 ∷ []) ≡ false =
    ap (λ s. pointwise nat_eq (47 ∷ []) s) rest ∙ rw other refl in
    cond-false _ _ _ ends

-- a side is written in one or two digits
side_is : (n : ℕ) → 1 ≤ n → n ≤ 50 → IsSide (decimal n) n × HasNoSlash (decimal n)
side_is n some few =
    elim (cases_lt n 10) [
      | inl small ↦ rw (decimal_digit n small) ((omega arith, refl), byte_alone (48 + n) (λ e. omega arith))
      | inr large ↦
          rw (decimal_step n large (omega arith), decimal_digit (n / 10) (omega arith)) (
            (n / 10, n % 10, (omega arith, refl), (omega arith, refl), omega arith),
            byte_before (48 + n / 10) ((48 + n % 10) ∷ []) (λ e. omega arith)
                (byte_alone (48 + n % 10) (λ e. omega arith)),
          )
    ]

-- the sides of a board are small
pub record HasSmallSides (size : Size) : Type 0 where
  pub some_cols : 1 ≤ size.cols
  pub few_cols : size.cols ≤ 50
  pub some_rows : 1 ≤ size.rows
  pub few_rows : size.rows ≤ 50

few_side : (n : ℕ) → IsSudokuSide n → (1 ≤ n) × (n ≤ 50)
few_side n (inl side) = (omega arith, omega arith)
few_side n (inr (inl side)) = (omega arith, omega arith)
few_side n (inr (inr (inl side))) = (omega arith, omega arith)
few_side n (inr (inr (inr (inl side)))) = (omega arith, omega arith)
few_side n (inr (inr (inr (inr side)))) = (omega arith, omega arith)

sides_in : (size : Size) → IsSize size → HasSmallSides size
sides_in size h =
    record { some_cols = h.some_cols; few_cols = h.few_cols; some_rows = h.some_rows; few_rows = h.few_rows }

pub small_sides : (kind : Kind) (size : Size) → HasSize kind size → HasSmallSides size
small_sides Sudoku size (e, side) =
    let few = few_side size.cols side in
    record { some_cols = few.0; few_cols = few.1; some_rows = omega arith; few_rows = omega arith }
small_sides Slither size h = sides_in size h
small_sides Nurikabe size h = sides_in size h

-- the sides and the body, behind the kind word and its slash
abbrev sides_of : Size → List ℕ → List ℕ
sides_of size body = decimal size.cols ++ 47 ∷ (decimal size.rows ++ 47 ∷ body)

head_is : (kind : Kind) (size : Size) (body : List ℕ)
    → head_of kind size ++ body ≡ word_of kind ++ 47 ∷ sides_of size body
head_is kind size body = simp append_assoc

bare_is : (kind : Kind) (after : List ℕ) → IsBare (word_of kind ++ 47 ∷ after) (word_of kind ++ 47 ∷ after)
bare_is Sudoku after = refl
bare_is Slither after = refl
bare_is Nurikabe after = refl

word_is : (kind : Kind) (after : List ℕ)
    → (before_first is_slash (word_of kind ++ 47 ∷ after) ≡ word_of kind)
    × (after_first is_slash (word_of kind ++ 47 ∷ after) ≡ after)
word_is Sudoku after = (refl, refl)
word_is Slither after = (refl, refl)
word_is Nurikabe after = (refl, refl)

record ReadsHead (kind : Kind) (size : Size) (body : List ℕ) : Type 0 where
  heads : Heads (word_of kind ++ 47 ∷ sides_of size body) (word_of kind ++ 47 ∷ sides_of size body) kind size
  rest : rest_field (word_of kind ++ 47 ∷ sides_of size body) ≡ body

reads_head : (kind : Kind) (size : Size) (body : List ℕ) → HasSmallSides size → ReadsHead kind size body
reads_head kind size body small =
    let start : List ℕ = word_of kind ++ 47 ∷ sides_of size body in
    let cols = side_is size.cols small.some_cols small.few_cols in
    let rows = side_is size.rows small.some_rows small.few_rows in
    let after_word = (word_is kind (sides_of size body)).1 in
    let after_cols : after_first is_slash (after_first is_slash start) ≡ decimal size.rows ++ 47 ∷ body =
    ap (after_first is_slash) after_word ∙ field_after (decimal size.cols) (decimal size.rows ++ 47 ∷ body) cols.1 in
    record {
      heads = record {
        bare = bare_is kind (sides_of size body);
        word = (word_is kind (sides_of size body)).0;
        cols =
            subst (λ f. IsSide f size.cols)
            (sym (ap (before_first is_slash) after_word
            ∙ field_before (decimal size.cols) (decimal size.rows ++ 47 ∷ body) cols.1)) cols.0;
        rows =
            subst (λ f. IsSide f size.rows)
            (sym (ap (before_first is_slash) after_cols ∙ field_before (decimal size.rows) body rows.1)) rows.0;
      };
      rest = ap (after_first is_slash) after_cols ∙ field_after (decimal size.rows) body rows.1;
    }

-- a canonical body spells its clues
pub Spells-from_Canonical : (kind : Kind) (size : Size) (body : List ℕ) (clues : List Clue)
    → Canonical kind size body clues
    → Spells kind size body clues
Spells-from_Canonical kind size body clues c = record {
  pieces = c.pieces;
  chain = c.chain;
  whole = c.whole;
  gives = c.gives;
}

-- the canonical text spells its puzzle
pub SpellsText-from_CanonicalText : (text : List ℕ) (board : Board)
    → HasSize board.kind board.size
    → CanonicalText text board
    → SpellsText text board
SpellsText-from_CanonicalText text board fits c =
    let start : List ℕ = word_of board.kind ++ 47 ∷ sides_of board.size c.body in
    let same : text ≡ start = c.whole ∙ head_is board.kind board.size c.body in
    let read = reads_head board.kind board.size c.body (small_sides board.kind board.size fits) in
    let slashes : HasNoSlash c.body =
    All-same (λ b. is_slash b ≡ false) c.body _ c.canonical.whole
    (body_no_slash board.kind board.size 0 c.canonical.pieces c.canonical.chain) in
    let body : body_of start ≡ c.body = ap without_final_slash read.rest ∙ no_final_slash c.body slashes in
    record {
      start = start;
      heads = subst (λ t. Heads t start board.kind board.size) (sym same) read.heads;
      size = fits;
      body =
          subst (λ b. Spells board.kind board.size b board.clues) (sym body)
          (Spells-from_Canonical board.kind board.size c.body board.clues c.canonical);
    }
