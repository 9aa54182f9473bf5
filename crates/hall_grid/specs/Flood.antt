-- Floods of a graph: labels so far, and the nodes that a flood has still to look at.
use Rattle.std.specs.Prelude.{◌≡◌, ◌⊎◌, ℕ, ◌+◌, ◌*◌, ◌≤◌, List, [], ◌∷◌, length, Contains, Option, Some, None}
use Rattle.hall_grid.specs.Walk.{Walk}
use Rattle.hall_grid.specs.Component.{IsLabelled}

-- some components have their labels, and no other member has one
pub record HasComponents (nodes : ℕ) (IsNext : ℕ → ℕ → Type 0) (IsMember : ℕ → Type 0)
    (labels : List (Option ℕ)) : Type 0 where
  pub exact : length labels ≡ nodes
  pub joined : (a label : ℕ) → IsLabelled labels a label → Walk IsNext IsMember label a
  pub closed : (a b label : ℕ) → IsLabelled labels a label → IsNext a b → IsMember b → IsLabelled labels b label

-- the component of one more node has its label
pub record Floods (nodes : ℕ) (IsNext : ℕ → ℕ → Type 0) (IsMember : ℕ → Type 0)
    (root : ℕ) (old new : List (Option ℕ)) : Type 0 where
  pub components : HasComponents nodes IsNext IsMember new
  pub kept : (a label : ℕ) → IsLabelled old a label → IsLabelled new a label
  pub only : (a label : ℕ) → IsLabelled new a label → IsLabelled old a label ⊎ (label ≡ root)
  pub begun : IsMember root → (label : ℕ) × IsLabelled new root label

-- how many nodes have no label
abbrev pub unlabelled : List (Option ℕ) → ℕ
unlabelled [] = 0
unlabelled (None ∷ labels) = unlabelled labels + 1
unlabelled (Some _ ∷ labels) = unlabelled labels

-- the targets that are members have a label, and what newly has one has this label and was put onto the stack
pub record Labels (IsTarget IsMember : ℕ → Type 0) (root : ℕ)
    (old new : List (Option ℕ)) (before after : List ℕ) : Type 0 where
  pub exact : length new ≡ length old
  pub kept : (a label : ℕ) → IsLabelled old a label → IsLabelled new a label
  pub covered : (a : ℕ) → IsTarget a → IsMember a → (label : ℕ) × IsLabelled new a label
  pub only : (a label : ℕ) → IsLabelled new a label
      → IsLabelled old a label ⊎ ((label ≡ root) × IsTarget a × IsMember a × Contains after a)
  pub stacked : (a : ℕ) → Contains before a → Contains after a
  pub fresh : (a : ℕ) → Contains after a → Contains before a ⊎ IsLabelled new a root
  pub work : 2 * unlabelled new + length after ≤ 2 * unlabelled old + length before
