use Rattle.std.proofs.Common.{◌≡◌, ℕ, ◌<◌, Some, None, get_or}
use Rattle.std.specs.Prelude.{Contains}
use Rattle.hall_grid.specs.Nurikabe.{IsNumbered}
use Rattle.hall_nurikabe.proofs.round.owner_of.Given as goal

abbrev pub invariant-loop-member : goal.invariant-loop-member
invariant-loop-member l = record {
  nobody : l.owner ≡ None → (i : ℕ) → i < l.member-index → IsNumbered l.puzzle (get_or l.members i 0) → ⊥;
  owner : (cell : ℕ) → l.owner ≡ Some cell → Contains l.members cell × IsNumbered l.puzzle cell;
}
