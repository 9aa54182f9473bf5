-- What holds of each row that a loop has read.
use Rattle.std.proofs.Common.{◌≡◌, ◌+◌, ◌<◌, ◌≤◌, ℕ, List, Some, get_or, length, slice_get, below_more}
use Rattle.std.proofs.Common.{◌∙◌, subst, arith}
use Rattle.std.proofs.lemmas.Option.{get_or_from_slice_get, slice_get_within}
use Rattle.hall_store.proofs.Tests.{placed}
use Rattle.hall_check.specs.Finds.{EveryRow}

module _ {X : Type 0} (Says : X → Type 0) (rows : List X) where
  -- one row more
  pub each_step : (i : ℕ) (row : X) → ((k : ℕ) (other : X) → k < i → slice_get rows k ≡ Some other → Says other)
      → row ≡ get_or rows i row → Says row → (k : ℕ) (other : X) → k < i + 1 → slice_get rows k ≡ Some other
      → Says other
  each_step i row before is here k other less at =
      below_more (λ j. (x : X) → slice_get rows j ≡ Some x → Says x) i (λ j low x at_j. before j x low at_j)
      (λ x at_i. subst Says (is ∙ get_or_from_slice_get rows i x row at_i) here) k less other at

  -- all rows
  pub each_done : (i : ℕ) → ((k : ℕ) (other : X) → k < i → slice_get rows k ≡ Some other → Says other) → length rows ≤ i
      → EveryRow Says rows
  each_done i before all row among =
      let at = placed rows row among in
      let low = slice_get_within rows at.0 row at.1 in
      before at.0 row (omega (arith, low, all)) at.1
