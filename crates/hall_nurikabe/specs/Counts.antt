-- Counts of cells by their labels.
use Rattle.std.specs.Prelude.{◌≡◌, ℕ, ◌<◌, Bool, List, length, slice_index, Option}
use Rattle.hall_grid.specs.Nurikabe.{Lists}
use Rattle.hall_grid.specs.Component.{IsLabelled}
use Rattle.hall_grid.specs.Reached.{IsMarked}

-- a set has so many members
abbrev pub HasCount : (ℕ → Type 0) → ℕ → Type 0
HasCount IsMember n = (members : List ℕ) × Lists members IsMember × (length members ≡ n)

-- the cells below an end that have the label and are marked
abbrev pub IsCounted : List (Option ℕ) → List Bool → ℕ → ℕ → ℕ → Type 0
IsCounted labels marks end label cell = (cell < end) × IsLabelled labels cell label × IsMarked marks cell

-- for each label the number of marked cells below an end that have it
pub record AreCounts (labels : List (Option ℕ)) (marks : List Bool) (end : ℕ) (counts : List ℕ) : Type 0 where
  pub exact : length counts ≡ length labels
  pub counted : (label : ℕ) → label < length labels
      → HasCount (IsCounted labels marks end label) (slice_index counts label)

-- the labels are numbers of cells
abbrev pub AreCells : List (Option ℕ) → Type 0
AreCells labels = (cell label : ℕ) → IsLabelled labels cell label → label < length labels
