-- Two cells of a unit that alone may have two of its values: they have no others.
use Rattle.std.specs.Prelude.{◌≡◌, ◌≢◌, ◌⊎◌, ℕ, ◌<◌, List, slice_index}
use Rattle.hall_sudoku.specs.Values.{Has}

-- each unit's set has what three of the first n cells may have there
abbrev pub HaveThrice : (ℕ → ℕ) → ℕ → List ℕ → List ℕ → Type 0
HaveThrice unit n candidates thrice = (a b c v : ℕ) → a < b → b < c → c < n → unit a ≡ unit b → unit a ≡ unit c
    → Has (slice_index candidates a) v → Has (slice_index candidates b) v → Has (slice_index candidates c) v
    → Has (slice_index thrice (unit a)) v

-- of the first n cells that are in the cell's unit, the cell and the other alone may have the value
abbrev pub IsTheirs : (ℕ → ℕ) → ℕ → List ℕ → ℕ → ℕ → ℕ → Type 0
IsTheirs unit n candidates cell other value =
    (c : ℕ) → c < n → unit c ≡ unit cell → Has (slice_index candidates c) value → (c ≡ cell) ⊎ (c ≡ other)

-- the cell and another alone may have two values of their unit, and the value is neither
pub record IsBesidePair (unit : ℕ → ℕ) (n : ℕ) (candidates : List ℕ) (cell value : ℕ) : Type 0 where
  pub other : ℕ
  pub first : ℕ
  pub second : ℕ
  pub differ : first ≢ second
  pub has_first : Has (slice_index candidates cell) first
  pub has_second : Has (slice_index candidates cell) second
  pub their_first : IsTheirs unit n candidates cell other first
  pub their_second : IsTheirs unit n candidates cell other second
  pub not_first : value ≢ first
  pub not_second : value ≢ second

-- each cell's set has only values that the cell has not, since it has one of a pair's
abbrev pub AreBesidePairs : (ℕ → ℕ) → ℕ → List ℕ → List ℕ → Type 0
AreBesidePairs unit n candidates out = (cell v : ℕ) → cell < n → Has (slice_index out cell) v
    → IsBesidePair unit n candidates cell v
