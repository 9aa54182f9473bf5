-- Solutions of a Nurikabe: what a partial filling says of them.
use Rattle.std.proofs.Common.{◌≡◌, ℕ, ◌<◌, ◌↔◌, List, Option, Some, None, length, get_or, sym, ◌∙◌, subst, inl, inr}
use Rattle.std.proofs.Common.{arith}
use Rattle.std.specs.Prelude.{Bool, IsTrue}
use Rattle.std.proofs.lemmas.Bool.{cases_eq, cases_lt}
use Rattle.std.proofs.lemmas.List.{get_or_past}
use Rattle.hall_grid.specs.declared.board.Kind.TheVariants.{Nurikabe}
use Rattle.hall_grid.specs.declared.rule.Rule.{Rule}
use Rattle.hall_grid.specs.declared.rule.Rule.TheVariants.{N1}
use Rattle.hall_grid.specs.Rule.{Names}
use Rattle.hall_grid.specs.Answer.{Breaks, BreaksNurikabe, AreBroken}
use Rattle.hall_grid.specs.Board.{Board, cells}
use Rattle.hall_grid.specs.Nurikabe.{IsNumbered, IsWall, IsWhite}
use Rattle.hall_solve.specs.Question.{IsQuestionFilling, IsPartial, Solves}
use Rattle.hall_solve.specs.Puzzle.{IsRight, question_of}
use Rattle.hall_nurikabe.proofs.Marks.{numbered_below}

-- a right filling breaks no rule of Nurikabe
pub no_rule_broken : (board : Board) (f : List ℕ) → board.kind ≡ Nurikabe → IsRight board f → (rule : Rule)
    → BreaksNurikabe board f rule → ⊥
no_rule_broken board f kind right rule h = right rule (subst (λ k. Breaks k board f rule) (sym kind) h)

-- a value of a filling is white or wall
pub white_or_wall : (board : Board) (f : List ℕ) (cell : ℕ) → IsQuestionFilling (question_of Nurikabe board) f
    → cell < cells board.size → (IsWall board.size f cell → ⊥)
    → get_or f cell 0 ≡ 0
white_or_wall board f cell filling low not_wall =
    let small = filling.in_range cell low in
    elim (cases_eq (get_or f cell 0) 1) [ inl e ↦ absurd (not_wall (low, e)) | inr ne ↦ omega arith ]

pub wall_or_white : (board : Board) (f : List ℕ) (cell : ℕ) → IsQuestionFilling (question_of Nurikabe board) f
    → cell < cells board.size → (IsWhite board.size f cell → ⊥)
    → get_or f cell 0 ≡ 1
wall_or_white board f cell filling low not_white =
    let small = filling.in_range cell low in
    elim (cases_eq (get_or f cell 0) 0) [ inl e ↦ absurd (not_white (low, e)) | inr ne ↦ omega arith ]

-- a cell with a number is white in each right filling
pub number_is_white : (board : Board) → board.kind ≡ Nurikabe → (f : List ℕ) (cell : ℕ)
    → length board.clues ≡ cells board.size → IsQuestionFilling (question_of Nurikabe board) f → IsRight board f
    → IsNumbered board cell → get_or f cell 0 ≡ 0
number_is_white board kind f cell whole filling right numbered =
    white_or_wall board f cell filling (let low = numbered_below board cell numbered in omega arith)
    (λ w. no_rule_broken board f kind right N1 (cell, numbered, w))

pub set_below : (p : List (Option ℕ)) (i v : ℕ) → get_or p i None ≡ Some v → i < length p
set_below p i v h = elim (cases_lt i (length p)) [
  | inl low ↦ low
  | inr past ↦ absurd (let n : get_or p i None ≡ None = get_or_past p i None past in let m : None ≡ Some v = sym n
      ∙ h in cc)
]

module _ (board : Board) (p : List (Option ℕ)) (f : List ℕ) (part : IsPartial (question_of Nurikabe board) p)
    (s : Solves (question_of Nurikabe board) p f) where
  pub set_wall : (cell : ℕ) → get_or p cell None ≡ Some 1 → IsWall board.size f cell
  set_wall cell h = (let low = set_below p cell 1 h in let size = part.size in omega arith, s.extends cell 1 h)

  pub set_white : (cell : ℕ) → get_or p cell None ≡ Some 0 → IsWhite board.size f cell
  set_white cell h = (let low = set_below p cell 0 h in let size = part.size in omega arith, s.extends cell 0 h)

-- an empty set of broken rules is a right filling
pub right_is : (board : Board) (f : List ℕ) (names : ℕ) (b : Bool) → AreBroken board f names
    → (IsTrue b ↔ ((rule : Rule) → Names names rule → ⊥))
    → IsTrue b ↔ IsRight board f
right_is board f names b broken empty = (
  (λ yes rule h. empty.0 yes rule ((broken.each rule).1 h)),
  (λ right. empty.1 (λ rule h. right rule ((broken.each rule).0 h))),
)
