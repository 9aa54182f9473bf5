-- The laws of cells as a graph, which an `impl` of the trait `Graph` cites:
-- touching goes both ways, and marked cells are in range.
use Rattle.std.specs.Prelude.{◌≡◌, ℕ, ◌<◌, Bool, false, List, length}
use Rattle.std.proofs.Common.{sym, inl, inr, subst, ◌∙◌}
use Rattle.std.proofs.lemmas.Bool.{cases_lt, false≢true}
use Rattle.std.proofs.lemmas.List.{get_or_past}
use Rattle.hall_grid.specs.declared.board.Size.{Size}
use Rattle.hall_grid.specs.Board.{Touch, DifferByOne}
use Rattle.hall_grid.specs.Reached.{IsMarked}

DifferByOne-turn : (a b : ℕ) → DifferByOne a b → DifferByOne b a
DifferByOne-turn a b (inl e) = inr e
DifferByOne-turn a b (inr e) = inl e

-- touching goes both ways
pub Touch-turn : (size : Size) (a b : ℕ) → Touch size a b → Touch size b a
Touch-turn size a b (inl (r, c)) = inl (sym r, DifferByOne-turn _ _ c)
Touch-turn size a b (inr (r, c)) = inr (DifferByOne-turn _ _ r, sym c)

-- no cell past the end is marked
pub marked_below : (marks : List Bool) (i n : ℕ) → length marks ≡ n → IsMarked marks i → i < n
marked_below marks i n e h =
    elim (cases_lt i (length marks)) [
      | inl low ↦ subst (λ k. i < k) e low
      | inr high ↦ absurd (false≢true (sym (get_or_past marks i false high) ∙ h))
    ]
