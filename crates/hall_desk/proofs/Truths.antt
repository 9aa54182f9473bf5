-- What a search finds is true of all fillings that break no rule.
use Rattle.std.proofs.Common.{◌≡◌, ◌≢◌, ◌+◌, ◌-◌, ◌<◌, ◌⊎◌, inl, inr, ℕ, zero, suc, List, [], ◌∷◌, Option, Some, None}
use Rattle.std.proofs.Common.{length, map, replicate, refl, ap, ◌∙◌, arith, slice_get, slice_index, slice_index_or, All}
use Rattle.std.proofs.lemmas.Bool.{cases_order}
use Rattle.std.proofs.lemmas.List.{get_or_past}
use Rattle.std.proofs.lemmas.List.Elements.{All-from_get_or}
use Rattle.hall_grid.specs.declared.board.Kind.{Kind}
use Rattle.hall_grid.specs.declared.board.Kind.TheVariants.{Sudoku, Slither, Nurikabe}
use Rattle.hall_grid.specs.declared.board.Size.{Size}
use Rattle.hall_grid.specs.declared.board.Clue.{Clue}
use Rattle.hall_grid.specs.declared.board.Clue.TheVariants.{Blank, Unknown, Number}
use Rattle.hall_grid.specs.declared.rule.Rule.TheVariants.{U4, N1}
use Rattle.hall_grid.specs.Board.{Board, IsBoard, of_parts, cells}
use Rattle.hall_grid.specs.Answer as grid
use Rattle.hall_grid.proofs.IsPrintableText.{IsPrintableText-from_AnswerText}
use Rattle.hall_solve.specs.Question as question
use Rattle.hall_solve.specs.Puzzle.{question_of, start_of, given_of}
use Rattle.hall_policy.specs.Ranges.{IsState}
use Rattle.hall_policy.specs.declared.record.PuzzleState.{PuzzleState}
use Rattle.hall_policy.specs.declared.record.PuzzleState.TheVariants as state
use Rattle.hall_desk.specs.Step.{IsFound}
use Rattle.hall_desk.specs.Sane.{SolvesPuzzle, IsTrueState}

-- what a list of givens has set comes from a clue
clue_of : {C : Type 0} (g : C → Option ℕ) (cs : List C) (i v : ℕ) → slice_index_or (map g cs) i None ≡ Some v → (c : C)
    × (slice_get cs i ≡ Some c) × (g c ≡ Some v)
clue_of g [] i v h = let no : None ≡ Some v = h in absurd (cc)
clue_of g (c ∷ cs) zero v h = (c, refl, h)
clue_of g (c ∷ cs) (suc i) v h = clue_of g cs i v h

-- a list of nothing has nothing set
nothing_set : (n i v : ℕ) → slice_index_or (replicate n None) i None ≡ Some v → ⊥
nothing_set zero i v h = let no : None ≡ Some v = h in cc
nothing_set (suc n) zero v h = let no : None ≡ Some v = h in cc
nothing_set (suc n) (suc i) v h = nothing_set n i v h

-- two numbers are one unless they differ
equal_unless : (m n : ℕ) → ¬ (m ≢ n) → m ≡ n
equal_unless m n h = elim (cases_order m n) [
  | inl e ↦ e
  | inr (inl lt) ↦ absurd (h (λ e. omega arith))
  | inr (inr gt) ↦ absurd (h (λ e. omega arith))
]

-- a number that a clue gives stands in the filling, where no given is changed
given_kept : (f : List ℕ) (i v : ℕ) (clue : Clue) → ((n : ℕ) → clue ≡ Number n → slice_index f i + 1 ≡ n)
    → given_of Sudoku clue ≡ Some v → slice_index f i ≡ v
given_kept f i v Blank kept h = let no : None ≡ Some v = h in absurd (cc)
given_kept f i v Unknown kept h = let no : None ≡ Some v = h in absurd (cc)
given_kept f i v (Number n) kept h = let at : Some (n - 1) ≡ Some v = h in let e : n - 1 ≡ v = cc in let k = kept n
    refl in omega arith

-- a cell with a clue is white, where no numbered cell is wall
white_kept : (x v : ℕ) (clue : Clue) → (((n : ℕ) × (clue ≡ Number n)) ⊎ (clue ≡ Unknown) → x ≡ 0)
    → given_of Nurikabe clue ≡ Some v → x ≡ v
white_kept x v Blank kept h = let no : None ≡ Some v = h in absurd (cc)
white_kept x v Unknown kept h = let at : Some 0 ≡ Some v = h in let e : 0 ≡ v = cc in kept (inr refl) ∙ e
white_kept x v (Number n) kept h = let at : Some 0 ≡ Some v = h in let e : 0 ≡ v = cc in kept (inl (n, refl)) ∙ e

-- a value below two that is not 1 is 0, and so is what is read past the end
value_zero : (f : List ℕ) (n i : ℕ) → length f ≡ n → All (λ v. v < 2) f → (i < n → slice_index f i ≢ 1)
    → slice_index f i ≡ 0
value_zero f n i exact ranges never = elim (cases_order i n) [
  | inl e ↦ get_or_past f i 0 (omega arith)
  | inr (inl lt) ↦ let low : slice_index f i < 2 = ranges i 0 (omega arith) in elim (cases_order (slice_index f i) 1) [
    | inl e ↦ absurd (never lt e)
    | inr (inl less) ↦ omega arith
    | inr (inr more) ↦ absurd (omega arith)
  ]
  | inr (inr gt) ↦ get_or_past f i 0 (omega arith)
]

-- a filling that breaks no rule extends the start: it changes no given, no numbered cell is wall, and nothing else is
-- set
extends_start : (kind : Kind) (size : Size) (clues : List Clue) (f : List ℕ) → SolvesPuzzle (of_parts kind size clues) f
    → question.Extends f (start_of kind (of_parts kind size clues))
extends_start Sudoku size clues f s i v h =
    let at = clue_of (given_of Sudoku) clues i v h in
    given_kept f i v at.0 (λ n e. equal_unless (slice_index f i + 1) n
    (λ differ. s.right U4 (i, n, at.1 ∙ ap Some e, differ))) at.2
extends_start Slither size clues f s i v h = absurd (nothing_set _ i v h)
extends_start Nurikabe size clues f s i v h =
    let at = clue_of (given_of Nurikabe) clues i v h in
    white_kept (slice_index f i) v at.0
    (λ clued. value_zero f (cells size) i s.filling.exact s.filling.ranges
    (λ lt wall. s.right N1 (
      i,
      elim clued [
        | inl w ↦ inl (w.0, at.1 ∙ ap Some w.1)
        | inr e ↦ inr
            (at.1 ∙ ap Some e)
      ],
      (lt, wall),
    )))
    at.2

-- what solves the search's question breaks no rule: both ask for the same values in as many places
pub right_from_search : (board : Board) (f : List ℕ) → question.Solves (question_of board.kind board)
    (start_of board.kind board) f → SolvesPuzzle board f
right_from_search board f s = record {
  filling = record {
    exact = s.filling.size;
    ranges = All-from_get_or (λ v. v < grid.values_of board.kind board.size) f 0
        (λ i lt. s.filling.in_range i (omega (arith, s.filling.size)));
  };
  right = s.right;
}

-- what breaks no rule solves the search's question, since it extends the start
pub search_from_right : (board : Board) (f : List ℕ) → SolvesPuzzle board f
    → question.Solves (question_of board.kind board) (start_of board.kind board) f
search_from_right board f s = record {
  filling = record { size = s.filling.exact; in_range = λ i lt. s.filling.ranges i 0 (omega (arith, s.filling.exact)) };
  extends = extends_start board.kind board.size board.clues f s;
  right = s.right;
}

-- what a search finds is true of the puzzle, since the fillings that it speaks of are all that break no rule
pub found_true : (board : Board) (budget : ℕ) (found : PuzzleState) → IsFound board budget found
    → IsTrueState board found
found_true board budget state.New h = absurd h
found_true board budget (state.One text) (solution, outcome, written) = (
  solution,
  written,
  right_from_search board solution outcome.answer.0,
  λ other s. outcome.answer.1 other
      (search_from_right board other s),
)
found_true board budget state.NoSolution outcome = λ f s. outcome.answer f (search_from_right board f s)
found_true board budget state.More (a, b, outcome) = (
  a,
  b,
  right_from_search board a outcome.answer.0,
  right_from_search board b outcome.answer.1,
  outcome.answer.2,
)
found_true board budget state.GaveUp outcome = tt

-- what a search finds is in the ranges of its type: a solution's text is short, in printable ASCII
pub found_typed : (board : Board) (budget : ℕ) (found : PuzzleState) → IsBoard board → IsFound board budget found
    → IsState found
found_typed board budget state.New is h = absurd h
found_typed board budget (state.One text) is (solution, outcome, written) =
    let text_is = IsPrintableText-from_AnswerText board text solution is.size written in
    record { long_enough = omega arith; short_enough = omega (arith, text_is.few); allowed = text_is.printable }
found_typed board budget state.NoSolution is h = tt
found_typed board budget state.More is h = tt
found_typed board budget state.GaveUp is h = tt
