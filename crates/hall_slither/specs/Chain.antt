-- Chains of lines and their loose ends.
use Rattle.std.specs.Prelude.{◌≡◌, ◌↔◌, ◌⊎◌, ℕ, ◌<◌, ◌≤◌, true, List, Option, Some, None}
use Rattle.std.specs.Prelude.{length, slice_index, slice_index_or}
use Rattle.hall_grid.specs.declared.board.Size.{Size}
use Rattle.hall_grid.specs.Slither.{all_sides, is_end, degree, IsLine, ShareDot}
use Rattle.hall_grid.specs.Component.{IsLabelled, AreComponents}
use Rattle.hall_slither.specs.declared.chain.Ends.{Ends}
use Rattle.hall_slither.specs.declared.chain.Ends.TheVariants.{Closed, One, Two, Many}

-- the lines of a partial filling, as a filling that has no others
pub record AreLines (p : List (Option ℕ)) (lines : List ℕ) : Type 0 where
  pub exact : length lines ≡ length p
  pub each : (s : ℕ) → (slice_index lines s ≡ 1) ↔ (slice_index_or p s None ≡ Some 1)

-- a label for each line, the same for those of one chain
abbrev pub AreChains : Size → List ℕ → List (Option ℕ) → Type 0
AreChains size lines labels = AreComponents (all_sides size) (ShareDot size) (IsLine size lines) labels

-- the dot is one of these, or there are too many to say
abbrev pub IsEndOf : Ends → ℕ → Type 0
IsEndOf Closed d = ⊥
IsEndOf (One a) d = d ≡ a
IsEndOf (Two a b) d = (d ≡ a) ⊎ (d ≡ b)
IsEndOf Many d = Unit {0}

-- one end more
abbrev pub with_end : Ends → ℕ → Ends
with_end Closed d = One d
with_end (One a) d = Two a d
with_end (Two a b) d = Many
with_end Many d = Many

-- a line with this label is at the dot
abbrev pub Touches : Size → List (Option ℕ) → ℕ → ℕ → Type 0
Touches size labels label d = (side : ℕ) × IsLabelled labels side label × (is_end size d side ≡ true)

-- of the dots below n: for each label, the dots where its chain has one line
pub record HaveEnds (size : Size) (lines : List ℕ) (labels : List (Option ℕ)) (n : ℕ) (ends : List Ends) : Type 0 where
  pub exact : length ends ≡ length labels
  pub loose : (label d : ℕ) → d < n → Touches size labels label d
      → (2 ≤ degree size lines d) ⊎ IsEndOf (slice_index_or ends label Closed) d
  pub first : (label a : ℕ) → slice_index_or ends label Closed ≡ One a → Touches size labels label a
  pub both : (label a b : ℕ) → slice_index_or ends label Closed ≡ Two a b
      → Touches size labels label a × Touches size labels label b
