-- Where a search starts: the givens, and nothing else.
use Rattle.std.proofs.Common.{◌≡◌, ◌≢◌, ℕ, ◌+◌, ◌-◌, ◌<◌, ◌≤◌, List, Option, Some, None, length, get_or, set, refl, sym}
use Rattle.std.proofs.Common.{◌∙◌, ap, subst, inl, inr, arith}
use Rattle.std.specs.Prelude.{slice_get}
use Rattle.std.proofs.lemmas.Bool.{cases_eq, cases_lt}
use Rattle.std.proofs.lemmas.List.{get_or-map, get_or_past, get_or-set_same, get_or-set_other, length-map, same_lists}
use Rattle.std.proofs.lemmas.List.{get_or_default}
use Rattle.std.proofs.lemmas.Option.{slice_get_within, slice_get-get_or, get_or_from_slice_get}
use Rattle.hall_grid.specs.declared.board.Clue.{Clue}
use Rattle.hall_grid.specs.declared.board.Clue.TheVariants.{Blank, Unknown, Number}
use Rattle.hall_grid.specs.declared.board.Kind.TheVariants.{Sudoku}
use Rattle.hall_grid.specs.declared.rule.Rule.TheVariants.{U4}
use Rattle.hall_grid.specs.Board.{Board, IsBoard, IsClue, cells}
use Rattle.hall_solve.specs.Question.{IsPartial, Extends}
use Rattle.hall_solve.specs.Puzzle.{IsRight, question_of, given_of, start_of}
use Rattle.hall_sudoku.proofs.UnitsQuestion.{breaks_not}

start_size : (board : Board) → IsBoard board → length (start_of Sudoku board) ≡ cells board.size
start_size board whole = length-map board.clues (given_of Sudoku) ∙ whole.clues

-- a cell begins with what its clue gives
start_at : (board : Board) (c : ℕ) (clue : Clue) → slice_get board.clues c ≡ Some clue
    → get_or (start_of Sudoku board) c None ≡ given_of Sudoku clue
start_at board c clue at =
    get_or-map (given_of Sudoku) board.clues c clue None (slice_get_within board.clues c clue at)
    ∙ ap (given_of Sudoku) (get_or_from_slice_get board.clues c clue clue at)

-- a clue that is no number gives nothing
gives_none : (clue : Clue) → ((given : ℕ) → clue ≢ Number given) → given_of Sudoku clue ≡ None
gives_none Blank other = refl
gives_none Unknown other = refl
gives_none (Number n) other = absurd (other n refl)

-- the first n cells are as they begin
abbrev pub BeginBelow : Board → ℕ → List (Option ℕ) → Type 0
BeginBelow board n p = (c : ℕ) → c < n → get_or p c None ≡ get_or (start_of Sudoku board) c None

pub begin_skip : (board : Board) (n : ℕ) (p : List (Option ℕ)) (clue : Clue) → BeginBelow board n p
    → get_or p n None ≡ None → slice_get board.clues n ≡ Some clue → ((given : ℕ) → clue ≢ Number given)
    → BeginBelow board (n + 1) p
begin_skip board n p clue below unset at_n other c lt =
    elim (cases_eq c n) [
      | inl e ↦ subst (λ k. get_or p k None ≡ get_or (start_of Sudoku board) k None) (sym e)
          (unset ∙ sym (gives_none clue other) ∙ sym (start_at board n clue at_n))
      | inr ne ↦ below c (omega arith)
    ]

pub begin_more : (board : Board) (n given : ℕ) (p : List (Option ℕ)) → BeginBelow board n p → n < length p
    → slice_get board.clues n ≡ Some (Number given) → BeginBelow board (n + 1) (set p n (Some (given - 1)))
begin_more board n given p below within at_n c lt =
    elim (cases_eq c n) [
      | inl e ↦ subst (λ k. get_or (set p n (Some (given - 1))) k None ≡ get_or (start_of Sudoku board) k None) (sym e)
          (get_or-set_same p n (Some (given - 1)) None within ∙ sym (start_at board n (Number given) at_n))
      | inr ne ↦ get_or-set_other p n c (Some (given - 1)) None ne ∙ below c (omega arith)
    ]

-- all cells are as they begin
pub begins : (board : Board) (p : List (Option ℕ)) (n : ℕ) → IsBoard board → length p ≡ cells board.size
    → cells board.size ≤ n → BeginBelow board n p → p ≡ start_of Sudoku board
begins board p n whole exact all below =
    same_lists p (start_of Sudoku board) (exact ∙ sym (start_size board whole))
    (λ k d h. get_or_default p k d None h ∙ below k (omega (arith, exact))
    ∙ get_or_default (start_of Sudoku board) k None d (omega (arith, exact, start_size board whole)))

-- a given is from 1 to the side
pub given_small : (board : Board) (c given : ℕ) → board.kind ≡ Sudoku → IsBoard board
    → slice_get board.clues c ≡ Some (Number given) → (1 ≤ given) × (given ≤ board.size.cols)
given_small board c given e whole at_c =
    let clue : IsClue board.kind board.size (get_or board.clues c Blank) = whole.ranges c Blank
    (slice_get_within board.clues c (Number given) at_c) in
    let number : IsClue board.kind board.size (Number given) = subst (λ x. IsClue board.kind board.size x)
    (get_or_from_slice_get board.clues c (Number given) Blank at_c) clue in
    subst (λ k. IsClue k board.size (Number given)) e number

number_of : (clue : Clue) (v : ℕ) → ((n : ℕ) → clue ≡ Number n → 1 ≤ n) → given_of Sudoku clue ≡ Some v
    → clue ≡ Number (v + 1)
number_of Blank v some h = cc
number_of Unknown v some h = cc
number_of (Number n) v some h =
    let positive : 1 ≤ n = some n refl in
    let less : n - 1 ≡ v = cc in
    ap Number (omega arith)

-- a cell that is set where a search starts has a given
given_is : (board : Board) (c v : ℕ) → board.kind ≡ Sudoku → IsBoard board
    → get_or (start_of Sudoku board) c None ≡ Some v → slice_get board.clues c ≡ Some (Number (v + 1))
given_is board c v k whole h =
    elim (cases_lt c (length board.clues)) [
      | inl few ↦
          let at = slice_get-get_or board.clues c Blank few in
          at ∙ ap Some (number_of (get_or board.clues c Blank) v
          (λ n e. (given_small board c n k whole (at ∙ ap Some e)).0)
          (sym (start_at board c (get_or board.clues c Blank) at) ∙ h))
      | inr past ↦ (let none : get_or (start_of Sudoku board) c None ≡ None = get_or_past (start_of Sudoku board) c None
          (omega (arith, length-map board.clues (given_of Sudoku))) in let clash : None ≡ Some v = sym none ∙ h in cc)
    ]

pub start_partial : (board : Board) → board.kind ≡ Sudoku → IsBoard board
    → IsPartial (question_of Sudoku board) (start_of Sudoku board)
start_partial board k whole = record {
  size = start_size board whole;
  in_range = λ c v h. let small = given_small board c (v + 1) k whole (given_is board c v k whole h) in omega
      (arith, small.1);
}

-- a right filling has each given
pub start_extends : (board : Board) (f : List ℕ) → board.kind ≡ Sudoku → IsBoard board → IsRight board f
    → Extends f (start_of Sudoku board)
start_extends board f k whole right c v h =
    elim (cases_eq (get_or f c 0) v) [
      | inl same ↦ same
      | inr ne ↦ absurd (breaks_not board f U4 k right (c, v + 1, given_is board c v k whole h, λ eq. ne (omega arith)))
    ]
