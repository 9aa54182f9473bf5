-- Values that every solution has.
use Rattle.std.proofs.Common.{◌≡◌, ℕ, zero, suc, ◌<◌, List, Option, Some, None, get_or, set, replicate, sym, ◌∙◌, subst}
use Rattle.std.proofs.Common.{inl, inr, arith}
use Rattle.std.proofs.lemmas.Bool.{cases_eq}
use Rattle.std.proofs.lemmas.List.{get_or-set_same, get_or-set_other, length-set, length-replicate}
use Rattle.hall_grid.specs.Board.{Board, cells}
use Rattle.hall_solve.specs.Question.{Solves, Narrows}
use Rattle.hall_solve.specs.Deduction.{HasAlways, IsDeduced}
use Rattle.hall_solve.specs.declared.deduce.Pass.{Pass}
use Rattle.hall_solve.specs.declared.deduce.Pass.TheVariants.{Settled, Advanced, Dead}
use Rattle.hall_grid.specs.declared.board.Kind.TheVariants.{Nurikabe}
use Rattle.hall_solve.specs.Puzzle.{question_of}
use Rattle.hall_nurikabe.specs.Forced.{AreForced, with_forced}

-- one more value
pub AreForced-set : (board : Board) (p forced : List (Option ℕ)) (cell v : ℕ) → cell < cells board.size → v < 2
    → HasAlways (question_of Nurikabe board) p cell v → AreForced board p forced
    → AreForced board p (set forced cell (Some v))
AreForced-set board p forced cell v low small always a = record {
  exact = length-set forced cell (Some v) ∙ a.exact;
  always = λ other w h. elim (cases_eq other cell) [
    | inl e ↦
        let there : get_or (set forced cell (Some v)) cell None ≡ Some w = subst
        (λ x. get_or (set forced cell (Some v)) x None ≡ Some w) e h in
        let both : Some v ≡ Some w = sym (get_or-set_same forced cell (Some v) None (let x = a.exact in omega arith))
        ∙ there in
        let same : v ≡ w = cc in
        subst (λ x. (w < 2) × HasAlways (question_of Nurikabe board) p x w) (sym e)
        (subst (λ y. (y < 2) × HasAlways (question_of Nurikabe board) p cell y) same (small, always))
    | inr ne ↦ a.always other w (sym (get_or-set_other forced cell other (Some v) None ne) ∙ h)
  ];
}

module _ (board : Board) (p forced : List (Option ℕ)) (a : AreForced board p forced) where
  with_them : (f : List ℕ) → Solves (question_of Nurikabe board) p f → Solves (with_forced board forced) p f
  with_them f s = record {
    filling = record { size = s.filling.size; in_range = s.filling.in_range };
    extends = s.extends;
    right = (s.right, λ i v h. (a.always i v h).1 f s);
  }

  without_them : (q : List (Option ℕ)) (f : List ℕ) → Solves (with_forced board forced) q f
      → Solves (question_of Nurikabe board) q f
  without_them q f s = record {
    filling = record { size = s.filling.size; in_range = s.filling.in_range };
    extends = s.extends;
    right = s.right.0;
  }

  pub Narrows-from_forced : (new : List (Option ℕ)) → Narrows (with_forced board forced) p new
      → Narrows (question_of Nurikabe board) p new
  Narrows-from_forced new n = record {
    partial = record { size = n.partial.size; in_range = n.partial.in_range };
    keeps = n.keeps;
    solutions = λ f s. without_them new f (n.solutions f (with_them f s));
  }

  pub IsDeduced-from_forced : (new : List (Option ℕ)) (pass : Pass) → IsDeduced (with_forced board forced) p new pass
      → IsDeduced (question_of Nurikabe board) p new pass
  IsDeduced-from_forced new Settled h = h
  IsDeduced-from_forced new Advanced h = (Narrows-from_forced new h.0, h.1)
  IsDeduced-from_forced new Dead h = λ f s. h f (with_them f s)

no_value : (n i x : ℕ) → get_or (replicate n None) i None ≡ Some x → ⊥
no_value zero i x h = absurd (cc)
no_value (suc n) zero x h = absurd (cc)
no_value (suc n) (suc i) x h = no_value n i x h

pub AreForced-none : (board : Board) (p : List (Option ℕ)) (n : ℕ) → n ≡ cells board.size
    → AreForced board p (replicate n None)
AreForced-none board p n e = record {
  exact = length-replicate n None ∙ e;
  always = λ cell v h. absurd (no_value n cell v h);
}
