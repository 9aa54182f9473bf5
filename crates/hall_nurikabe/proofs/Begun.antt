-- Where a search of a Nurikabe starts.
use Rattle.std.proofs.Common.{◌≡◌, ℕ, zero, suc, ◌+◌, ◌<◌, ◌≤◌, List, [], ◌∷◌, Option, Some, None, length, map, get_or}
use Rattle.std.proofs.Common.{set, refl, sym, ap, ◌∙◌, subst, inl, inr, arith}
use Rattle.std.specs.Prelude.{slice_get}
use Rattle.std.proofs.lemmas.Bool.{cases_eq}
use Rattle.std.proofs.lemmas.List.{get_or-set_same, get_or-set_other, get_or-map, get_or_default, length-set}
use Rattle.std.proofs.lemmas.List.{length-map, same_lists}
use Rattle.std.proofs.lemmas.Option.{slice_get-get_or}
use Rattle.hall_grid.specs.declared.board.Clue.{Clue}
use Rattle.hall_grid.specs.declared.board.Clue.TheVariants.{Blank, Unknown, Number}
use Rattle.hall_grid.specs.declared.board.Kind.TheVariants.{Nurikabe}
use Rattle.hall_grid.specs.Board.{Board, cells}
use Rattle.hall_solve.specs.Question.{IsPartial}
use Rattle.hall_solve.specs.Puzzle.{question_of, given_of, start_of, AllExtend}
use Rattle.hall_nurikabe.specs.Marks.{IsNumber}
use Rattle.hall_nurikabe.proofs.Marks.{numbered_clue}
use Rattle.hall_nurikabe.proofs.Solves.{number_is_white}

-- the cells below an end have their givens, and no other is set
pub record Begun (board : Board) (p : List (Option ℕ)) (end : ℕ) : Type 0 where
  pub size : length p ≡ cells board.size
  pub later : (c : ℕ) → end ≤ c → get_or p c None ≡ None
  pub givens : (c : ℕ) (clue : Clue) → c < end → slice_get board.clues c ≡ Some clue
      → get_or p c None ≡ given_of Nurikabe clue

given_none : (clue : Clue) → (IsNumber clue → ⊥) → None ≡ given_of Nurikabe clue
given_none Blank none = refl
given_none Unknown none = absurd (none (inr refl))
given_none (Number n) none = absurd (none (inl (n, refl)))

given_white : (clue : Clue) → IsNumber clue → Some 0 ≡ given_of Nurikabe clue
given_white Blank (inl n) = let e = n.1 in absurd (cc)
given_white Blank (inr e) = absurd (cc)
given_white Unknown h = refl
given_white (Number n) h = refl

pub Begun-skip : (board : Board) (p : List (Option ℕ)) (cell : ℕ) (clue : Clue) → slice_get board.clues cell ≡ Some clue
    → (IsNumber clue → ⊥)
    → Begun board p cell → Begun board p (cell + 1)
Begun-skip board p cell clue at none b = record {
  size = b.size;
  later = λ c h. b.later c (omega arith);
  givens = λ c other h there. elim (cases_eq c cell) [
    | inl e ↦
        let here : slice_get board.clues cell ≡ Some other = subst (λ x. slice_get board.clues x ≡ Some other) e
        there in
        let same : clue ≡ other = cc in
        b.later c (omega arith) ∙ given_none clue none ∙ ap (given_of Nurikabe) same
    | inr ne ↦ b.givens c other (omega arith) there
  ];
}

pub Begun-set : (board : Board) (p : List (Option ℕ)) (cell : ℕ) (clue : Clue) → slice_get board.clues cell ≡ Some clue
    → IsNumber clue → cell < length p
    → Begun board p cell → Begun board (set p cell (Some 0)) (cell + 1)
Begun-set board p cell clue at number low b = record {
  size = length-set p cell (Some 0) ∙ b.size;
  later = λ c h. get_or-set_other p cell c (Some 0) None (λ e. absurd (omega arith)) ∙ b.later c (omega arith);
  givens = λ c other h there. elim (cases_eq c cell) [
    | inl e ↦
        let here : slice_get board.clues cell ≡ Some other = subst (λ x. slice_get board.clues x ≡ Some other) e
        there in
        let same : clue ≡ other = cc in
        subst (λ x. get_or (set p cell (Some 0)) x None ≡ given_of Nurikabe other) (sym e)
        (get_or-set_same p cell (Some 0) None low ∙ given_white clue number ∙ ap (given_of Nurikabe) same)
    | inr ne ↦ get_or-set_other p cell c (Some 0) None ne ∙ b.givens c other (omega arith) there
  ];
}

pub start_is : (board : Board) (p : List (Option ℕ)) (end : ℕ) → length board.clues ≡ cells board.size
    → cells board.size ≤ end → Begun board p end
    → p ≡ start_of Nurikabe board
start_is board p end whole all b =
    same_lists p (map (given_of Nurikabe) board.clues) (b.size ∙ sym whole
    ∙ sym (length-map board.clues (given_of Nurikabe)))
    (λ i d h.
    let size = b.size in
    let few : i < length board.clues = omega arith in
    get_or_default p i d None h
    ∙ b.givens i (get_or board.clues i Blank) (omega arith) (slice_get-get_or board.clues i Blank few)
    ∙ sym (get_or-map (given_of Nurikabe) board.clues i Blank d few))

-- what a start has set is white, in a cell with a number
set_at_start : (clues : List Clue) (i v : ℕ) → get_or (map (given_of Nurikabe) clues) i None ≡ Some v
    → (clue : Clue) × (slice_get clues i ≡ Some clue) × IsNumber clue × (v ≡ 0)
set_at_start [] i v h = absurd (cc)
set_at_start (Blank ∷ clues) zero v h = absurd (cc)
set_at_start (Unknown ∷ clues) zero v h = (Unknown, refl, inr refl, cc)
set_at_start (Number n ∷ clues) zero v h = (Number n, refl, inl (n, refl), cc)
set_at_start (clue ∷ clues) (suc i) v h = set_at_start clues i v h

pub IsPartial-start : (board : Board) → length board.clues ≡ cells board.size
    → IsPartial (question_of Nurikabe board) (start_of Nurikabe board)
IsPartial-start board whole = record {
  size = length-map board.clues (given_of Nurikabe) ∙ whole;
  in_range = λ i v h. let s = set_at_start board.clues i v h in let e = s.3 in omega arith;
}

pub AllExtend-start : (board : Board) → board.kind ≡ Nurikabe → length board.clues ≡ cells board.size
    → AllExtend Nurikabe board (start_of Nurikabe board)
AllExtend-start board kind whole = λ f filling right i v h.
    let s = set_at_start board.clues i v h in
    number_is_white board kind f i whole filling right ((numbered_clue board i s.0 s.1).0 s.2) ∙ sym s.3
