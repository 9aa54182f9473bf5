-- Counts that say nothing.
use Rattle.std.proofs.Common.{◌≡◌, ℕ, List, Option, sym, subst}
use Rattle.std.specs.Prelude.{Result, Ok, Err, IfOk}
use Rattle.hall_grid.specs.Board.{Board}
use Rattle.hall_solve.specs.Question.{Question}
use Rattle.hall_solve.specs.Deduction.{IsDeduced}
use Rattle.hall_solve.specs.declared.deduce.Pass.{Pass}
use Rattle.hall_solve.specs.declared.deduce.Pass.TheVariants.{Settled}
use Rattle.hall_slither.specs.Count.{AreSilent}

-- they still say nothing after a pass that set nothing
pub silent_still : {E : Type 0} (q : Question) (board : Board) (old new : List (Option ℕ)) (r : Result Pass E)
    → AreSilent board old
    → IfOk r (IsDeduced q old new) → IfOk r (λ pass. pass ≡ Settled → AreSilent board new)
silent_still q board old new (Ok pass) silent deduced =
    λ settled. subst (λ p. AreSilent board p) (sym (subst (λ (x : Pass). IsDeduced q old new x) settled deduced)) silent
silent_still q board old new (Err x) silent deduced = tt
