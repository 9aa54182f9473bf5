-- A puzzle has one canonical text.
use Rattle.std.proofs.Common.{◌≡◌, ℕ, zero, suc, ◌+◌, ◌-◌, ◌*◌, ◌/◌, ◌%◌, ◌<◌, ◌≤◌, false, List, [], ◌∷◌, ◌++◌, length}
use Rattle.std.proofs.Common.{get_or, take, replicate, Some, refl, sym, ap, ◌∙◌, subst, inl, inr, arith}
use Rattle.std.specs.Fmt.{digit_glyph}
use Rattle.std.proofs.lemmas.Bool.{cases_order, lt-ltb, le-ltb}
use Rattle.std.proofs.lemmas.List.{length-append, length-replicate, get_or_append_left, get_or-append-add, get_or-take}
use Rattle.std.proofs.lemmas.List.{length-take-le}
use Rattle.std.proofs.lemmas.Option.{slice_get-get_or}
use Rattle.hall_grid.specs.declared.board.Size.{Size}
use Rattle.hall_grid.specs.declared.board.Kind.{Kind}
use Rattle.hall_grid.specs.declared.board.Kind.TheVariants.{Sudoku, Slither, Nurikabe}
use Rattle.hall_grid.specs.declared.board.Clue.{Clue}
use Rattle.hall_grid.specs.declared.board.Clue.TheVariants.{Blank, Unknown, Number}
use Rattle.hall_grid.specs.Board.{Board, IsBoard, cells}
use Rattle.hall_grid.specs.Body.{IsHexDigit, Form, one, two, three, some_number, alone, before_one, before_two}
use Rattle.hall_grid.specs.Body.{some_count, run, Piece, IsChain, bytes_of, clues_of, fitted}
use Rattle.hall_grid.specs.Canonical.{IsLongestRun, Takes, IsChosen, IsShortest, AreChosen, Canonical, CanonicalText}
use Rattle.hall_grid.specs.Canonical.{head_of}
use Rattle.hall_grid.specs.Writing.{cell4_first}
use Rattle.hall_grid.proofs.IsChoice.{get_or_blanks}

-- the digit of a number
glyph_of : (b n : ℕ) → IsHexDigit b n → b ≡ digit_glyph false n
glyph_of b n (inl h) = rw (lt-ltb n 10 h.0) h.1
glyph_of b n (inr h) = rw (le-ltb n 10 h.0) h.2

-- the bytes of a number in the scheme Number16, of so many bytes
number_by : ℕ → ℕ → List ℕ
number_by zero n = []
number_by (suc zero) n = digit_glyph false n ∷ []
number_by (suc (suc zero)) n = []
number_by (suc (suc (suc zero))) n = 45 ∷ digit_glyph false (n / 16) ∷ digit_glyph false (n % 16) ∷ []
number_by (suc (suc (suc (suc k)))) n =
    43 ∷ digit_glyph false (n / 256) ∷ digit_glyph false (n / 16 % 16) ∷ digit_glyph false (n % 16) ∷ []

-- the bytes of a form, of so many bytes, that gives these clues
bytes_by : Kind → ℕ → List Clue → List ℕ
bytes_by kind len [] = []
bytes_by kind len (Blank ∷ blanks) = (102 + length (Blank ∷ blanks)) ∷ []
bytes_by kind len (Unknown ∷ blanks) = 46 ∷ []
bytes_by Sudoku len (Number n ∷ blanks) = number_by len n
bytes_by Slither len (Number n ∷ blanks) = (cell4_first (length blanks) + n) ∷ []
bytes_by Nurikabe len (Number n ∷ blanks) = number_by len n

one_is : (a m : ℕ) → IsHexDigit a m → a ∷ [] ≡ number_by 1 m
unfolding number_by
one_is a m d = ap (λ x. x ∷ []) (glyph_of a m d)

hex_below : (b n : ℕ) → IsHexDigit b n → n < 16
hex_below b n (inl h) = omega arith
hex_below b n (inr h) = omega arith

two_is : (a b m n : ℕ) → IsHexDigit a m → IsHexDigit b n → 45 ∷ a ∷ b ∷ [] ≡ number_by 3 (16 * m + n)
unfolding number_by
two_is a b m n d e =
    let low = hex_below b n e in
    let first : (16 * m + n) / 16 ≡ m = omega arith in
    let second : (16 * m + n) % 16 ≡ n = omega arith in
    rw (first, second, glyph_of a m d, glyph_of b n e) refl

three_is : (a b c l m n : ℕ)
    → IsHexDigit a l
    → IsHexDigit b m
    → IsHexDigit c n
    → 43 ∷ a ∷ b ∷ c ∷ [] ≡ number_by 4 (256 * l + 16 * m + n)
unfolding number_by
three_is a b c l m n d e f =
    let middle = hex_below b m e in
    let low = hex_below c n f in
    let first : (256 * l + 16 * m + n) / 256 ≡ l = omega arith in
    let second : (256 * l + 16 * m + n) / 16 % 16 ≡ m = omega arith in
    let third : (256 * l + 16 * m + n) % 16 ≡ n = omega arith in
    rw (first, second, third, glyph_of a l d, glyph_of b m e, glyph_of c n f) refl

-- a form is told by its clues and how many bytes it has
bytes_is : (kind : Kind) (bytes : List ℕ) (clues : List Clue)
    → Form kind bytes clues
    → bytes ≡ bytes_by kind (length bytes) clues
unfolding bytes_by
bytes_is Sudoku bytes clues (one {a = a} {m = m} _ d) = one_is a m d
bytes_is Slither bytes clues (one h _) = absurd h
bytes_is Nurikabe bytes clues (one {a = a} {m = m} _ d) = one_is a m d
bytes_is Sudoku bytes clues (two {a = a} {b = b} {m = m} {n = n} _ d e) = two_is a b m n d e
bytes_is Slither bytes clues (two h _ _) = absurd h
bytes_is Nurikabe bytes clues (two {a = a} {b = b} {m = m} {n = n} _ d e) = two_is a b m n d e
bytes_is Sudoku bytes clues (three {a = a} {b = b} {c = c} {l = l} {m = m} {n = n} _ d e f) = three_is a b c l m n d e f
bytes_is Slither bytes clues (three h _ _ _) = absurd h
bytes_is Nurikabe bytes clues (three {a = a} {b = b} {c = c} {l = l} {m = m} {n = n} _ d e f) =
    three_is a b c l m n d e f
bytes_is kind bytes clues some_number = refl
bytes_is kind bytes clues (alone few e) = ap (λ x. x ∷ []) e
bytes_is kind bytes clues (before_one few e) = ap (λ x. x ∷ []) e
bytes_is kind bytes clues (before_two few e) = ap (λ x. x ∷ []) e
bytes_is kind bytes clues some_count = refl
bytes_is kind bytes clues (run {n = zero} r) = absurd (let least = r.0 in omega arith)
bytes_is kind bytes clues (run {n = suc k} r) = ap (λ x. x ∷ []) (omega (arith, r.2, length-replicate k Blank))

same_bytes : (kind : Kind) (a b : List ℕ) (clues : List Clue)
    → Form kind a clues
    → Form kind b clues
    → length a ≡ length b
    → a ≡ b
same_bytes kind a b clues f g e =
    bytes_is kind a clues f ∙ ap (λ n. bytes_by kind n clues) e ∙ sym (bytes_is kind b clues g)

-- how many empty cells may stand behind the first clue of a form
abbrev HasBlanks : Kind → Clue → ℕ → Type 0
HasBlanks kind Blank k = k < 20
HasBlanks kind Unknown k = k ≡ 0
HasBlanks Sudoku (Number n) k = k ≡ 0
HasBlanks Slither (Number n) k = Unit {0}
HasBlanks Nurikabe (Number n) k = k ≡ 0

-- the clues of a form are a clue and empty cells
record HasShape (kind : Kind) (clues : List Clue) : Type 0 where
  first : Clue
  blanks : ℕ
  is : clues ≡ first ∷ replicate blanks Blank
  limit : HasBlanks kind first blanks

shape_of : (kind : Kind) (bytes : List ℕ) (clues : List Clue) → Form kind bytes clues → HasShape kind clues
shape_of Sudoku bytes clues (one {m = m} _ _) = record { first = Number m; blanks = 0; is = refl; limit = refl }
shape_of Slither bytes clues (one h _) = absurd h
shape_of Nurikabe bytes clues (one {m = m} _ _) = record { first = Number m; blanks = 0; is = refl; limit = refl }
shape_of Sudoku bytes clues (two {m = m} {n = n} _ _ _) = record {
  first = Number (16 * m + n);
  blanks = 0;
  is = refl;
  limit = refl;
}
shape_of Slither bytes clues (two h _ _) = absurd h
shape_of Nurikabe bytes clues (two {m = m} {n = n} _ _ _) = record {
  first = Number (16 * m + n);
  blanks = 0;
  is = refl;
  limit = refl;
}
shape_of Sudoku bytes clues (three {l = l} {m = m} {n = n} _ _ _ _) = record {
  first = Number (256 * l + 16 * m + n);
  blanks = 0;
  is = refl;
  limit = refl;
}
shape_of Slither bytes clues (three h _ _ _) = absurd h
shape_of Nurikabe bytes clues (three {l = l} {m = m} {n = n} _ _ _ _) = record {
  first = Number (256 * l + 16 * m + n);
  blanks = 0;
  is = refl;
  limit = refl;
}
shape_of kind bytes clues some_number = record { first = Unknown; blanks = 0; is = refl; limit = refl }
shape_of kind bytes clues (alone {n = n} _ _) = record { first = Number n; blanks = 0; is = refl; limit = tt }
shape_of kind bytes clues (before_one {n = n} _ _) = record { first = Number n; blanks = 1; is = refl; limit = tt }
shape_of kind bytes clues (before_two {n = n} _ _) = record { first = Number n; blanks = 2; is = refl; limit = tt }
shape_of kind bytes clues some_count = record { first = Unknown; blanks = 0; is = refl; limit = refl }
shape_of kind bytes clues (run {n = zero} r) = absurd (let least = r.0 in omega arith)
shape_of kind bytes clues (run {n = suc k} r) = record {
  first = Blank;
  blanks = k;
  is = refl;
  limit = omega (arith, r.1);
}

takes_one : (clues : List Clue) (cell k l : ℕ) → Takes clues cell k → Takes clues cell l → k ≡ l
takes_one clues cell k l (inl a) (inl b) = a.1 ∙ sym b.1
takes_one clues cell k l (inl a) (inr (inl b)) = absurd (b.0 a.0)
takes_one clues cell k l (inl a) (inr (inr b)) = absurd (b.0 a.0)
takes_one clues cell k l (inr (inl a)) (inl b) = absurd (a.0 b.0)
takes_one clues cell k l (inr (inl a)) (inr (inl b)) = a.2 ∙ sym b.2
takes_one clues cell k l (inr (inl a)) (inr (inr b)) = absurd (b.1 a.1)
takes_one clues cell k l (inr (inr a)) (inl b) = absurd (a.0 b.0)
takes_one clues cell k l (inr (inr a)) (inr (inl b)) = absurd (a.1 b.1)
takes_one clues cell k l (inr (inr a)) (inr (inr b)) = a.2 ∙ sym b.2

-- the clues stand at the cell and after it, as far as the board goes
abbrev StandAt : List Clue → ℕ → List Clue → Type 0
StandAt all cell clues =
    (i : ℕ) → i < length clues → cell + i < length all → get_or clues i Blank ≡ get_or all (cell + i) Blank

-- a longest run isn't shorter than another run
not_shorter : (all : List Clue) (cell k l : ℕ)
    → IsLongestRun all cell (length (replicate k Blank) + 1)
    → IsLongestRun all cell (length (replicate l Blank) + 1)
    → l < 20 → StandAt all cell (Blank ∷ replicate l Blank) → k < l → ⊥
not_shorter all cell k l a b few stands less =
    let count : length (replicate k Blank) ≡ k = length-replicate k Blank in
    let count' : length (replicate l Blank) ≡ l = length-replicate l Blank in
    let within : cell + suc k < length all = omega (arith, b.within) in
    let blank : get_or all (cell + suc k) Blank ≡ Blank =
    sym (stands (suc k) (omega arith) within) ∙ get_or_blanks l k in
    elim a.stops [
      | inl twenty ↦ omega arith
      | inr full ↦
          let place : cell + (length (replicate k Blank) + 1) ≡ cell + suc k = omega arith in
          full (rw place (slice_get-get_or all (cell + suc k) Blank within ∙ ap (λ x. Some x) blank))
    ]

-- two choices behind one clue have as many empty cells
same_blanks : (kind : Kind) (all : List Clue) (cell : ℕ) (x : Clue) (k l : ℕ) → HasBlanks kind x k → HasBlanks kind x l
    → IsChosen kind all cell (x ∷ replicate k Blank) → IsChosen kind all cell (x ∷ replicate l Blank)
    → StandAt all cell (x ∷ replicate k Blank) → StandAt all cell (x ∷ replicate l Blank) → k ≡ l
same_blanks kind all cell Blank k l few few' a b stands stands' =
    elim (cases_order k l) [
      | inl same ↦ same
      | inr (inl less) ↦ absurd (not_shorter all cell k l a b few' stands' less)
      | inr (inr more) ↦ absurd (not_shorter all cell l k b a few stands more)
    ]
same_blanks kind all cell Unknown k l few few' a b stands stands' = few ∙ sym few'
same_blanks Sudoku all cell (Number n) k l few few' a b stands stands' = few ∙ sym few'
same_blanks Slither all cell (Number n) k l few few' a b stands stands' =
    sym (length-replicate k Blank) ∙ takes_one all cell _ _ a b ∙ length-replicate l Blank
same_blanks Nurikabe all cell (Number n) k l few few' a b stands stands' = few ∙ sym few'

same_shapes : (kind : Kind) (all : List Clue) (cell : ℕ) (x y : Clue) (k l : ℕ)
    → x ≡ y
    → HasBlanks kind x k
    → HasBlanks kind y l
    → IsChosen kind all cell (x ∷ replicate k Blank) → IsChosen kind all cell (y ∷ replicate l Blank)
    → StandAt all cell (x ∷ replicate k Blank)
    → StandAt all cell (y ∷ replicate l Blank)
    → x ∷ replicate k Blank ≡ y ∷ replicate l Blank
same_shapes kind all cell x y k l e few few' a b stands stands' =
    let few'' = subst (λ z. HasBlanks kind z l) (sym e) few' in
    let b' = subst (λ z. IsChosen kind all cell (z ∷ replicate l Blank)) (sym e) b in
    let stands'' = subst (λ z. StandAt all cell (z ∷ replicate l Blank)) (sym e) stands' in
    let same : k ≡ l = same_blanks kind all cell x k l few few'' a b' stands stands'' in
    ap (λ z. z ∷ replicate k Blank) e ∙ ap (λ n. y ∷ replicate n Blank) same

-- two choices at a cell give the same clues
same_choice : (kind : Kind) (all : List Clue) (cell : ℕ) (p q : Piece)
    → cell < length all
    → Form kind p.bytes p.clues
    → Form kind q.bytes q.clues
    → IsChosen kind all cell p.clues
    → IsChosen kind all cell q.clues
    → StandAt all cell p.clues
    → StandAt all cell q.clues
    → p.clues ≡ q.clues
same_choice kind all cell p q within f g a b stands stands' =
    let s = shape_of kind p.bytes p.clues f in
    let t = shape_of kind q.bytes q.clues g in
    let p_stands = subst (λ cs. StandAt all cell cs) s.is stands in
    let q_stands = subst (λ cs. StandAt all cell cs) t.is stands' in
    let here : cell + 0 < length all = omega arith in
    let head : s.first ≡ t.first = p_stands 0 (omega arith) here ∙ sym (q_stands 0 (omega arith) here) in
    s.is
    ∙ same_shapes kind all cell s.first t.first s.blanks t.blanks head s.limit t.limit
    (subst (λ cs. IsChosen kind all cell cs) s.is a)
    (subst (λ cs. IsChosen kind all cell cs) t.is b) p_stands q_stands
    ∙ sym t.is

-- the front and the rest of clues that stand on the board
stand_front : (all : List Clue) (cell : ℕ) (front rest : List Clue)
    → StandAt all cell (front ++ rest)
    → StandAt all cell front
stand_front all cell front rest stands i below within =
    sym (get_or_append_left front rest Blank i below) ∙ stands i (omega (arith, length-append front rest)) within

stand_rest : (all : List Clue) (cell : ℕ) (front rest : List Clue)
    → StandAt all cell (front ++ rest)
    → StandAt all (cell + length front) rest
stand_rest all cell front rest stands i below within =
    let place : cell + (length front + i) ≡ (cell + length front) + i = omega arith in
    sym (get_or-append-add front rest i Blank)
    ∙ stands (length front + i) (omega (arith, length-append front rest)) (omega arith)
    ∙ ap (λ n. get_or all n Blank) place

same_form : (kind : Kind) (p q : Piece)
    → Form kind p.bytes p.clues
    → Form kind q.bytes q.clues
    → IsShortest kind p
    → IsShortest kind q
    → p.clues ≡ q.clues
    → p.bytes ≡ q.bytes
same_form kind p q f g short short' e =
    let f' = subst (λ cs. Form kind p.bytes cs) e f in
    let g' = subst (λ cs. Form kind q.bytes cs) (sym e) g in
    let less = short q.bytes g' in
    let more = short' p.bytes f' in
    same_bytes kind p.bytes q.bytes q.clues f' g (omega arith)

-- two chains of chosen forms that cover the board are one
same_pieces : (kind : Kind) (size : Size) (all : List Clue) (cell : ℕ) (ps qs : List Piece)
    → length all ≡ cells size
    → IsChain kind size cell ps
    → IsChain kind size cell qs
    → AreChosen kind all cell ps
    → AreChosen kind all cell qs
    → StandAt all cell (clues_of ps)
    → StandAt all cell (clues_of qs)
    → cells size ≤ cell + length (clues_of ps) → cells size ≤ cell + length (clues_of qs) → bytes_of ps ≡ bytes_of qs
same_pieces kind size all cell [] [] len c d a b s t covers covers' = refl
same_pieces kind size all cell [] (q ∷ qs) len c d a b s t covers covers' = absurd (let room = d.0 in omega arith)
same_pieces kind size all cell (p ∷ ps) [] len c d a b s t covers covers' = absurd (let room = c.0 in omega arith)
same_pieces kind size all cell (p ∷ ps) (q ∷ qs) len c d a b s t covers covers' =
    let clues : p.clues ≡ q.clues =
    same_choice kind all cell p q (let room = c.0 in omega arith) c.1.0 d.1.0 a.0 b.0
    (stand_front all cell p.clues (clues_of ps) s) (stand_front all cell q.clues (clues_of qs) t) in
    let bytes : p.bytes ≡ q.bytes = same_form kind p q c.1.0 d.1.0 a.1 b.1 clues in
    let count : cell + length q.clues ≡ cell + length p.clues = ap (λ cs. cell + length cs) (sym clues) in
    let tail : bytes_of ps ≡ bytes_of qs =
    same_pieces kind size all (cell + length p.clues) ps qs len c.2 (subst (λ n. IsChain kind size n qs) count d.2) a.2
    (subst (λ n. AreChosen kind all n qs) count b.2)
    (stand_rest all cell p.clues (clues_of ps) s)
    (subst (λ n. StandAt all n (clues_of qs)) count (stand_rest all cell q.clues (clues_of qs) t))
    (omega (arith, length-append p.clues (clues_of ps))) (omega (arith, length-append q.clues (clues_of qs))) in
    ap (λ bs. bs ++ bytes_of ps) bytes ∙ ap (λ bs. q.bytes ++ bs) tail

-- the clues of the forms are those of the board, as far as it goes
stands_fitted : (n : ℕ) (all covering : List Clue)
    → length all ≡ n
    → n ≤ length covering
    → all ≡ fitted n covering
    → StandAt all 0 covering
stands_fitted n all covering len covers e i below within =
    let place : 0 + i ≡ i = omega arith in
    let short : i < length (take n covering) = omega (arith, length-take-le n covering covers) in
    sym (ap (λ cs. get_or cs (0 + i) Blank) e ∙ ap (λ j. get_or (fitted n covering) j Blank) place
    ∙ get_or_append_left (take n covering) (replicate (n - length covering) Blank) Blank i short
    ∙ get_or-take n covering i Blank (omega arith))

-- clues have one canonical body
pub one_canonical : (kind : Kind) (size : Size) (a b : List ℕ) (clues : List Clue)
    → length clues ≡ cells size
    → Canonical kind size a clues
    → Canonical kind size b clues
    → a ≡ b
one_canonical kind size a b clues len c d =
    c.whole
    ∙ same_pieces kind size clues 0 c.pieces d.pieces len c.chain d.chain c.chosen d.chosen
    (stands_fitted (cells size) clues (clues_of c.pieces) len c.covers c.gives)
    (stands_fitted (cells size) clues (clues_of d.pieces) len d.covers d.gives) (omega (arith, c.covers))
    (omega (arith, d.covers))
    ∙ sym d.whole

-- a puzzle has one canonical text
pub one_canonical_text : (a b : List ℕ) (board : Board)
    → IsBoard board
    → CanonicalText a board
    → CanonicalText b board
    → a ≡ b
one_canonical_text a b board is_board c d =
    c.whole
    ∙ ap (λ body. head_of board.kind board.size ++ body)
    (one_canonical board.kind board.size c.body d.body board.clues is_board.clues c.canonical d.canonical)
    ∙ sym d.whole
