-- What walls in two by two cells say.
use Rattle.std.proofs.Common.{◌≡◌, ℕ, ◌+◌, ◌<◌, List, Option, Some, None, length, get_or, arith}
use Rattle.hall_grid.specs.declared.board.Size.{Size}
use Rattle.hall_grid.specs.declared.rule.Rule.TheVariants.{N2}
use Rattle.hall_grid.specs.Board.{Board, cells, col}
use Rattle.hall_solve.specs.Question.{IsHopeless, Solves}
use Rattle.hall_solve.specs.Deduction.{IsForced}
use Rattle.hall_grid.specs.declared.board.Kind.TheVariants.{Nurikabe}
use Rattle.hall_solve.specs.Puzzle.{question_of}
use Rattle.hall_nurikabe.specs.Block.{MakePool}
use Rattle.hall_nurikabe.proofs.IsPoolAt.{HasPool-from_at}
use Rattle.hall_nurikabe.proofs.Solves.{no_rule_broken, white_or_wall}

pub MakePool-at : (size : Size) (cell : ℕ) → col size cell + 1 < size.cols → cell + size.cols + 1 < cells size
    → MakePool size cell (cell + 1) (cell + size.cols) (cell + size.cols + 1)
MakePool-at size cell inner low = record {
  a_within = omega arith;
  b_within = omega arith;
  c_within = omega arith;
  d_within = low;
  pool = λ f a b c d. HasPool-from_at size f cell (
    inner,
    (omega arith, a),
    (omega arith, b),
    (omega arith, c),
    (low, d),
  );
}

-- the first of the cells at the second place, at the third, at the fourth
pub MakePool-second : (size : Size) (a b c d : ℕ) → MakePool size a b c d → MakePool size b a c d
MakePool-second size a b c d m = record {
  a_within = m.b_within;
  b_within = m.a_within;
  c_within = m.c_within;
  d_within = m.d_within;
  pool = λ f w x y z. m.pool f x w y z;
}

pub MakePool-third : (size : Size) (a b c d : ℕ) → MakePool size a b c d → MakePool size c a b d
MakePool-third size a b c d m = record {
  a_within = m.c_within;
  b_within = m.a_within;
  c_within = m.b_within;
  d_within = m.d_within;
  pool = λ f w x y z. m.pool f x y w z;
}

pub MakePool-fourth : (size : Size) (a b c d : ℕ) → MakePool size a b c d → MakePool size d a b c
MakePool-fourth size a b c d m = record {
  a_within = m.d_within;
  b_within = m.a_within;
  c_within = m.b_within;
  d_within = m.c_within;
  pool = λ f w x y z. m.pool f x y z w;
}

module _ (board : Board) (kind : board.kind ≡ Nurikabe) (p : List (Option ℕ)) (a b c d : ℕ)
    (m : MakePool board.size a b c d)
    (wall_b : get_or p b None ≡ Some 1) (wall_c : get_or p c None ≡ Some 1) (wall_d : get_or p d None ≡ Some 1) where
  no_fourth : (f : List ℕ) → Solves (question_of Nurikabe board) p f → get_or f a 0 ≡ 1 → ⊥
  no_fourth f s e = no_rule_broken board f kind s.right N2 (m.pool f e (s.extends b 1 wall_b) (s.extends c 1 wall_c)
      (s.extends d 1 wall_d))

  pub four_hopeless : get_or p a None ≡ Some 1 → IsHopeless (question_of Nurikabe board) p
  four_hopeless wall_a = λ f s. no_fourth f s (s.extends a 1 wall_a)

  pub fourth_forced : length p ≡ cells board.size → get_or p a None ≡ None → IsForced (question_of Nurikabe board) p a 0
  fourth_forced size unset = record {
    unset = (let low = m.a_within in omega arith, unset);
    in_range = omega arith;
    forced = λ f s. white_or_wall board f a s.filling m.a_within (λ w. no_fourth f s w.1);
  }
