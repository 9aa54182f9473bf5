-- Answer texts and the values in them.
use Rattle.std.proofs.Common.{◌≡◌, ℕ, ◌+◌, ◌-◌, ◌<◌, ◌≤◌, List, ◌∷◌, [], ◌++◌, length, map, take, drop, get_or, refl}
use Rattle.std.proofs.Common.{sym, ap, ◌∙◌, subst, append_assoc, arith}
use Rattle.std.specs.Prelude.{All}
use Rattle.std.proofs.lemmas.Bool.{lt-ltb, le-ltb}
use Rattle.std.proofs.lemmas.List.{get_or-map, length-map, length-append, length-take-le, length-drop, take-append-drop}
use Rattle.std.proofs.lemmas.List.{get_or_at, take_at, drop_at, drop_more}
use Rattle.std.proofs.lemmas.List.Elements.{All-get_or, All-weaker, All-take, All-drop, All-append}
use Rattle.hall_grid.specs.declared.board.Size.{Size}
use Rattle.hall_grid.specs.declared.board.Kind.{Kind}
use Rattle.hall_grid.specs.declared.board.Kind.TheVariants.{Sudoku, Slither, Nurikabe}
use Rattle.hall_grid.specs.Board.{Board, HasSize, IsBoard, cells}
use Rattle.hall_grid.specs.Answer.{places_of, values_of, value_byte, sudoku_byte, slither_byte, text_of, IsFilling}
use Rattle.hall_grid.specs.Answer.{AnswerText}
use Rattle.hall_grid.specs.Slither.{flat_sides, all_sides}
use Rattle.hall_grid.specs.Values.{SpellsValues, HasCellText}

-- each byte stands for a value
pub value_at : (kind : Kind) (size : Size) (bytes vs : List ℕ) (i : ℕ)
    → SpellsValues kind size bytes vs
    → i < length bytes
    → (get_or vs i 0 < values_of kind size) × (get_or bytes i 0 ≡ value_byte kind (get_or vs i 0))
value_at kind size bytes vs i s h =
    let few : i < length vs = let e = ap length s.written in omega (arith, length-map vs (value_byte kind)) in (
      All-get_or (λ v. v < values_of kind size) vs i 0 few s.ranges,
      ap (λ xs. get_or xs i 0) s.written ∙ get_or-map (value_byte kind) vs i 0 0 few,
    )

-- as many values as bytes
pub as_many : (kind : Kind) (size : Size) (bytes vs : List ℕ)
    → SpellsValues kind size bytes vs
    → length vs ≡ length bytes
as_many kind size bytes vs s = let e = ap length s.written in omega (arith, length-map vs (value_byte kind))

cells_text : (kind : Kind) (size : Size) (f : List ℕ)
    → HasCellText kind
    → (text_of kind size f ≡ map (value_byte kind) f) × (places_of kind size ≡ cells size)
cells_text Sudoku size f h = (refl, refl)
cells_text Slither size f h = absurd h
cells_text Nurikabe size f h = (refl, refl)

pub cells_answer : (board : Board) (text f : List ℕ)
    → HasCellText board.kind
    → length text ≡ cells board.size
    → SpellsValues board.kind board.size text f
    → AnswerText board text f
cells_answer board text f h e s =
    let t = cells_text board.kind board.size f h in
    record {
      filling = record { exact = as_many board.kind board.size text f s ∙ e ∙ sym t.1; ranges = s.ranges };
      written = s.written ∙ sym t.0;
    }

pub cells_length : (board : Board) (text f : List ℕ)
    → HasCellText board.kind
    → AnswerText board text f
    → length text ≡ cells board.size
cells_length board text f h a =
    let t = cells_text board.kind board.size f h in
    ap length (a.written ∙ t.0) ∙ length-map f (value_byte board.kind) ∙ a.filling.exact ∙ t.1

pub cells_values : (board : Board) (text f : List ℕ)
    → HasCellText board.kind
    → AnswerText board text f
    → SpellsValues board.kind board.size text f
cells_values board text f h a =
    let t = cells_text board.kind board.size f h in record { ranges = a.filling.ranges; written = a.written ∙ t.0 }

-- an answer of Slitherlink: its values, and its text
record HasSides (size : Size) (text f : List ℕ) : Type 0 where
  exact : length f ≡ all_sides size
  ranges : All (λ v. v < 2) f
  written : text ≡ text_of Slither size f

of_sides : (board : Board) (size : Size) (text f : List ℕ)
    → board.kind ≡ Slither
    → size ≡ board.size
    → AnswerText board text f
    → HasSides size text f
of_sides board size text f kind same a =
    rw same
    (record {
      exact = subst (λ k. length f ≡ places_of k board.size) kind a.filling.exact;
      ranges = subst (λ k. All (λ v. v < values_of k board.size) f) kind a.filling.ranges;
      written = subst (λ k. text ≡ text_of k board.size f) kind a.written;
    })

-- the parts of an answer of Slitherlink: the flat sides, a slash, and the upright sides
pub record HasParts (size : Size) (text f : List ℕ) : Type 0 where
  pub exact : length text ≡ all_sides size + 1
  pub slash : get_or text (flat_sides size) 0 ≡ 47
  pub flat : SpellsValues Slither size (take (flat_sides size) text) (take (flat_sides size) f)
  pub upright : SpellsValues Slither size (drop (flat_sides size + 1) text) (drop (flat_sides size) f)

pub sides_parts : (board : Board) (size : Size) (text f : List ℕ)
    → board.kind ≡ Slither
    → size ≡ board.size
    → AnswerText board text f
    → HasParts size text f
sides_parts board size text f kind same a =
    let sides = of_sides board size text f kind same a in
    let n : ℕ = flat_sides size in
    let before : List ℕ = map slither_byte (take n f) in
    let after : List ℕ = map slither_byte (drop n f) in
    let flat : length before ≡ n =
    omega (arith, sides.exact, length-map (take n f) slither_byte, length-take-le n f) in
    let upright = length-drop n f in
    let upright_bytes = length-map (drop n f) slither_byte in
    let whole = length-append before (47 ∷ after) in
    let one_on : length (before ++ 47 ∷ []) ≡ n + 1 = omega (arith, length-append before (47 ∷ [])) in
    rw sides.written
    (record {
      exact = omega (arith, sides.exact, whole, upright, upright_bytes);
      slash = get_or_at before 47 after 0 n flat;
      flat = record {
        ranges = All-take (λ v. v < 2) n f sides.ranges;
        written = take_at before (47 ∷ after) n flat;
      };
      upright = record {
        ranges = All-drop (λ v. v < 2) n f sides.ranges;
        written = rw (← append_assoc before (47 ∷ []) after) (drop_at (before ++ 47 ∷ []) after (n + 1) one_on);
      };
    })

pub sides_answer : (board : Board) (size : Size) (text flat upright : List ℕ)
    → board.kind ≡ Slither
    → size ≡ board.size
    → length text ≡ all_sides size + 1
    → get_or text (flat_sides size) 0 ≡ 47
    → SpellsValues Slither size (take (flat_sides size) text) flat
    → SpellsValues Slither size (drop (flat_sides size + 1) text) upright
    → AnswerText board text (flat ++ upright)
sides_answer board size text flat upright kind same exact slash before after =
    let n : ℕ = flat_sides size in
    let flat_length : length flat ≡ n =
    omega (arith, as_many Slither size (take n text) flat before, length-take-le n text) in
    let upright_length = as_many Slither size (drop (n + 1) text) upright after in
    let rest = length-drop (n + 1) text in
    let both = length-append flat upright in
    let tail : drop n text ≡ 47 ∷ drop (n + 1) text =
    drop_more text n 0 (omega (arith, exact)) ∙ ap (λ b. b ∷ drop (n + 1) text) slash in
    let parts : text ≡ map slither_byte flat ++ 47 ∷ map slither_byte upright =
    sym (take-append-drop n text) ∙ ap (λ s. take n text ++ s) tail
    ∙ ap (λ s. s ++ 47 ∷ drop (n + 1) text) before.written
    ∙ ap (λ s. map slither_byte flat ++ 47 ∷ s) after.written in
    let front : take n (flat ++ upright) ≡ flat = take_at flat upright n flat_length in
    let back : drop n (flat ++ upright) ≡ upright = drop_at flat upright n flat_length in
    let written : text ≡ text_of Slither size (flat ++ upright) = rw (front, back) parts in
    record {
      filling = record {
        exact = rw (kind, ← same) (omega (arith, exact));
        ranges = rw kind (All-append (λ v. v < 2) flat upright before.ranges after.ranges);
      };
      written = rw (kind, ← same) written;
    }

few_values : (kind : Kind) (size : Size) → HasSize kind size → values_of kind size ≤ 25
few_values Sudoku size h = let sides = h.1 in omega arith
few_values Slither size h = omega arith
few_values Nurikabe size h = omega arith

-- a value of a filling is small
pub small_values : (board : Board) (f : List ℕ) → IsBoard board → IsFilling board f → All (λ v. v < 35) f
small_values board f b filling =
    let few = few_values board.kind board.size b.size in
    All-weaker (λ v. v < values_of board.kind board.size) (λ v. v < 35) (λ v h. omega arith) f filling.ranges

-- how a number less 1 is written, up to 9 and above
pub low_number : (v : ℕ) → v < 9 → 49 + v ≡ sudoku_byte v
low_number v low = rw (lt-ltb v 9 low) refl

pub high_number : (v : ℕ) → 9 ≤ v → 97 + (v - 9) ≡ sudoku_byte v
high_number v high = rw (le-ltb v 9 high) (omega arith)
