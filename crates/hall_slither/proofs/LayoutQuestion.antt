-- The question with the lines given, and the question of the puzzle.
use Rattle.std.proofs.Common.{ℕ, List, Option}
use Rattle.hall_solve.specs.Question.{Solves, Narrows}
use Rattle.hall_solve.specs.Deduction.{IsDeduced}
use Rattle.hall_solve.specs.declared.deduce.Pass.{Pass}
use Rattle.hall_solve.specs.declared.deduce.Pass.TheVariants.{Settled, Advanced, Dead}
use Rattle.hall_slither.specs.Chain.{AreLines}
use Rattle.hall_slither.specs.Close.{Layout, layout_question}
use Rattle.hall_grid.specs.declared.board.Kind.TheVariants.{Slither}
use Rattle.hall_solve.specs.Puzzle.{question_of}

-- old: a partial filling that has these lines
module _ (layout : Layout) (old : List (Option ℕ)) (are : AreLines old layout.lines) where
  pub Solves-layout : (f : List ℕ) → Solves (question_of Slither layout.board) old f
      → Solves (layout_question layout) old f
  Solves-layout f s = record {
    filling = record { size = s.filling.size; in_range = s.filling.in_range };
    extends = s.extends;
    right = (s.right, λ side line. s.extends side 1 ((are.each side).0 line));
  }

  Solves-puzzle : (p : List (Option ℕ)) (f : List ℕ) → Solves (layout_question layout) p f
      → Solves (question_of Slither layout.board) p f
  Solves-puzzle p f s = record {
    filling = record { size = s.filling.size; in_range = s.filling.in_range };
    extends = s.extends;
    right = s.right.0;
  }

  pub Narrows-puzzle : (new : List (Option ℕ)) → Narrows (layout_question layout) old new
      → Narrows (question_of Slither layout.board) old new
  Narrows-puzzle new n = record {
    partial = record { size = n.partial.size; in_range = n.partial.in_range };
    keeps = n.keeps;
    solutions = λ f s. Solves-puzzle new f (n.solutions f (Solves-layout f s));
  }

  pub IsDeduced-puzzle : (new : List (Option ℕ)) (pass : Pass) → IsDeduced (layout_question layout) old new pass
      → IsDeduced (question_of Slither layout.board) old new pass
  IsDeduced-puzzle new Settled h = h
  IsDeduced-puzzle new Advanced h = (Narrows-puzzle new h.0, h.1)
  IsDeduced-puzzle new Dead h = λ f s. h f (Solves-layout f s)
