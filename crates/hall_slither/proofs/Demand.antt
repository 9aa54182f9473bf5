-- How many lines a solution has at a dot and round a cell with a number.
use Rattle.std.proofs.Common.{◌≡◌, ℕ, zero, suc, ◌<◌, ◌≤◌, ◌⊎◌, Bool, true, false, cond, List, [], ◌∷◌, Option, Some}
use Rattle.std.proofs.Common.{None, refl, sym, ◌∙◌, subst, inl, inr, arith}
use Rattle.std.specs.Prelude.{All, IfSome, slice_get, count_by}
use Rattle.std.proofs.lemmas.Bool.{cases_eq}
use Rattle.std.proofs.lemmas.List.Elements.{All-nil, All-cons}
use Rattle.hall_grid.specs.declared.board.Size.{Size}
use Rattle.hall_grid.specs.declared.board.Kind.TheVariants.{Slither}
use Rattle.hall_grid.specs.declared.board.Clue.TheVariants.{Number}
use Rattle.hall_grid.specs.declared.rule.Rule.{Rule}
use Rattle.hall_grid.specs.declared.rule.Rule.TheVariants.{S2, S3, S4}
use Rattle.hall_grid.specs.Board.{Board}
use Rattle.hall_grid.specs.Slither.{dots, all_sides, sides_of, is_line, degree}
use Rattle.hall_grid.specs.Answer.{Breaks, BreaksSlither}
use Rattle.hall_slither.specs.Dot.{sides_at, count_at, dot_row, dot_col, side_up, side_left, side_right, side_down}
use Rattle.hall_slither.specs.Dot.{AreBelow}
use Rattle.hall_slither.specs.Count.{count_sides}
use Rattle.hall_solve.specs.Puzzle.{IsRight}
use Rattle.hall_slither.proofs.Degree.{all_held, degree_is, sides_below}

All_four : (P : Option ℕ → Type 0) (a b c d : Option ℕ) → P a → P b → P c → P d → All P (a ∷ b ∷ c ∷ d ∷ [])
All_four P a b c d pa pb pc pd =
    All-cons P a (b ∷ c ∷ d ∷ []) pa (All-cons P b (c ∷ d ∷ []) pb
    (All-cons P c (d ∷ []) pc (All-cons P d [] pd (All-nil P))))

-- the sides at a dot are on the board
pub AreBelow-dot : (size : Size) (d : ℕ) → 0 < size.cols → d < dots size → AreBelow (all_sides size) (sides_at size d)
AreBelow-dot size d some low =
    let P : ℕ → Type 0 = λ s. s < all_sides size in
    All_four (λ o. IfSome o (λ s. s < all_sides size)) (side_up size (dot_row size d) (dot_col size d))
    (side_left size (dot_row size d) (dot_col size d))
    (side_right size (dot_row size d) (dot_col size d)) (side_down size (dot_row size d) (dot_col size d))
    (all_held _ P (λ s h. sides_below size d s some low (inl (inl h))))
    (all_held _ P (λ s h. sides_below size d s some low (inl (inr h))))
    (all_held _ P (λ s h. sides_below size d s some low (inr (inl h))))
    (all_held _ P (λ s h. sides_below size d s some low (inr (inr h))))

-- a right filling breaks no rule of Slitherlink
pub keeps_rules : (board : Board) (f : List ℕ) → board.kind ≡ Slither → IsRight board f → (rule : Rule)
    → BreaksSlither board f rule → ⊥
keeps_rules board f kind right rule broken = right rule (subst (λ k. Breaks k board f rule) (sym kind) broken)

pub count_at_most : (p : ℕ → Bool) (o : Option ℕ) → count_at p o ≤ 1
count_at_most p None = omega arith
count_at_most p (Some s) = elim (p s) as (λ b. cond b 1 0 ≤ 1) [ true ↦ omega arith | false ↦ omega arith ]

pub degree_count : (size : Size) (f : List ℕ) (d : ℕ) → 0 < size.cols → d < dots size
    → degree size f d ≡ count_sides (is_line f) (sides_at size d)
degree_count size f d some low = degree_is size f d some low ∙ omega arith

pub degree_at_most : (size : Size) (f : List ℕ) (d : ℕ) → 0 < size.cols → d < dots size → degree size f d ≤ 4
degree_at_most size f d some low =
    let u = count_at_most (is_line f) (side_up size (dot_row size d) (dot_col size d)) in
    let l = count_at_most (is_line f) (side_left size (dot_row size d) (dot_col size d)) in
    let r = count_at_most (is_line f) (side_right size (dot_row size d) (dot_col size d)) in
    let w = count_at_most (is_line f) (side_down size (dot_row size d) (dot_col size d)) in
    let e = degree_is size f d some low in
    omega arith

zero_or_two : (n : ℕ) → n ≤ 4 → (n ≡ 1 → ⊥) → ((n ≡ 3) ⊎ (n ≡ 4) → ⊥) → (n ≡ 0) ⊎ (n ≡ 2)
zero_or_two zero le one more = inl refl
zero_or_two (suc zero) le one more = absurd (one refl)
zero_or_two (suc (suc zero)) le one more = inr refl
zero_or_two (suc (suc (suc zero))) le one more = absurd (more (inl refl))
zero_or_two (suc (suc (suc (suc zero)))) le one more = absurd (more (inr refl))
zero_or_two (suc (suc (suc (suc (suc n))))) le one more = absurd (omega arith)

-- a solution passes a dot or doesn't
pub passes : (board : Board) (f : List ℕ) (d : ℕ) → board.kind ≡ Slither → 0 < board.size.cols → IsRight board f
    → d < dots board.size
    → (degree board.size f d ≡ 0) ⊎ (degree board.size f d ≡ 2)
passes board f d kind some right low =
    zero_or_two (degree board.size f d) (degree_at_most board.size f d some low)
    (λ e. keeps_rules board f kind right S2 (d, low, e))
    (λ e. keeps_rules board f kind right S3 (d, low, e))

pub passes_count : (board : Board) (f : List ℕ) (d : ℕ) → board.kind ≡ Slither → 0 < board.size.cols → IsRight board f
    → d < dots board.size
    → (count_sides (is_line f) (sides_at board.size d) ≡ 0) ⊎ (count_sides (is_line f) (sides_at board.size d) ≡ 2)
passes_count board f d kind some right low =
    let e = degree_count board.size f d some low in
    elim (passes board f d kind some right low) [ inl h ↦ inl (sym e ∙ h) | inr h ↦ inr (sym e ∙ h) ]

-- a solution has each number's count
pub counts : (board : Board) (f : List ℕ) (cell number : ℕ) → board.kind ≡ Slither → IsRight board f
    → slice_get board.clues cell ≡ Some (Number number)
    → count_by (is_line f) (sides_of board.size cell) ≡ number
counts board f cell number kind right e =
    elim (cases_eq (count_by (is_line f) (sides_of board.size cell)) number) [
      | inl h ↦ h
      | inr ne ↦ absurd (keeps_rules board f kind right S4 (cell, number, e, ne))
    ]
