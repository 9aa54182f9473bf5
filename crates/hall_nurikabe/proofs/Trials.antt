-- Trials of both values of a cell.
use Rattle.std.proofs.Common.{◌≡◌, ℕ, ◌<◌, ◌⊎◌, List, length, get_or, set, Option, Some, subst, inl, inr, arith}
use Rattle.hall_grid.specs.Board.{Board}
use Rattle.hall_grid.specs.declared.board.Kind.TheVariants.{Nurikabe}
use Rattle.hall_solve.specs.Question.{Solves, IsPartial, IsHopeless, IsOpen}
use Rattle.hall_solve.specs.Deduction.{IsForced}
use Rattle.hall_solve.specs.Puzzle.{question_of}
use Rattle.hall_solve.specs.Trail.{Trailed, IsTrailed, Grows, IsUndone}
use Rattle.hall_solve.proofs.Boards.{Solves-set}
use Rattle.hall_solve.proofs.Trails.{undone_same}

zero_or_one : (n : ℕ) → n < 2 → (n ≡ 0) ⊎ (n ≡ 1)
zero_or_one n h = grind arith

module _ (board : Board) (p : List (Option ℕ)) (cell : ℕ) (partial : IsPartial (question_of Nurikabe board) p)
    (bare : IsOpen p cell) where
  value_in : (f : List ℕ) → Solves (question_of Nurikabe board) p f → get_or f cell 0 < 2
  value_in f s = s.filling.in_range cell (let low = bare.0 in let e = partial.size in omega arith)

  pub wall_forced : IsHopeless (question_of Nurikabe board) (set p cell (Some 0))
      → IsForced (question_of Nurikabe board) p cell 1
  wall_forced hopeless = record {
    unset = bare;
    in_range = omega arith;
    forced = λ f s. elim (zero_or_one (get_or f cell 0) (value_in f s)) [
      | inl e ↦ absurd (hopeless f (subst (λ v. Solves (question_of Nurikabe board) (set p cell (Some v)) f) e
          (Solves-set (question_of Nurikabe board) p f cell s bare.0)))
      | inr e ↦ e
    ];
  }

  pub white_forced : IsHopeless (question_of Nurikabe board) (set p cell (Some 1))
      → IsForced (question_of Nurikabe board) p cell 0
  white_forced hopeless = record {
    unset = bare;
    in_range = omega arith;
    forced = λ f s. elim (zero_or_one (get_or f cell 0) (value_in f s)) [
      | inl e ↦ e
      | inr e ↦ absurd (hopeless f (subst (λ v. Solves (question_of Nurikabe board) (set p cell (Some v)) f) e
          (Solves-set (question_of Nurikabe board) p f cell s bare.0)))
    ];
  }

pub restored : (a b c : Trailed) (m : ℕ) → Grows a b → m ≡ length a.trail → IsUndone m b c → IsTrailed a → IsTrailed b
    → IsTrailed c → c ≡ a
restored a b c m grows mark undone oa ob oc = undone_same a b c oa ob oc grows
    (subst (λ (k : ℕ). IsUndone k b c) mark undone)
