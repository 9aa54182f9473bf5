-- The nodes that a walk reaches.
use Rattle.std.specs.Prelude.{◌≡◌, ◌↔◌, ℕ, Bool, true, false, List, length, slice_index_or}
use Rattle.hall_grid.specs.Walk.{Walk}

-- the node is marked; none past the end is
abbrev pub IsMarked : List Bool → ℕ → Type 0
IsMarked marks node = slice_index_or marks node false ≡ true

-- exactly the nodes that a walk over members reaches are marked
pub record IsReach (nodes : ℕ) (IsNext : ℕ → ℕ → Type 0) (IsMember : ℕ → Type 0)
    (from : ℕ) (marks : List Bool) : Type 0 where
  pub exact : length marks ≡ nodes
  pub walks : (node : ℕ) → IsMarked marks node ↔ Walk IsNext IsMember from node
