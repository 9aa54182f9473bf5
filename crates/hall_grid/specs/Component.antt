-- Labels of nodes, and the labels that tell a graph's components apart.
use Rattle.std.specs.Prelude.{◌≡◌, ◌≢◌, ℕ, List, length, slice_index_or, Option, Some, None}
use Rattle.hall_grid.specs.Walk.{Walk}

-- the node has this label
abbrev pub IsLabelled : List (Option ℕ) → ℕ → ℕ → Type 0
IsLabelled labels node label = slice_index_or labels node None ≡ Some label

-- two nodes have different labels
abbrev pub LabelsDiffer : List (Option ℕ) → Type 0
LabelsDiffer labels = (a b x y : ℕ) × IsLabelled labels a x × IsLabelled labels b y × (x ≢ y)

-- labels of components: a member has one, it is the number of a member that a walk joins to it,
-- and members that a walk joins have the same
pub record AreComponents (nodes : ℕ) (IsNext : ℕ → ℕ → Type 0) (IsMember : ℕ → Type 0)
    (labels : List (Option ℕ)) : Type 0 where
  pub exact : length labels ≡ nodes
  pub labelled : (a : ℕ) → IsMember a → (label : ℕ) × IsLabelled labels a label
  pub joined : (a label : ℕ) → IsLabelled labels a label → Walk IsNext IsMember label a
  pub shared : (a b label : ℕ) → Walk IsNext IsMember a b → IsLabelled labels a label → IsLabelled labels b label
