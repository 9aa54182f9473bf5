-- Lines along which a side leads back to itself.
use Rattle.std.specs.Prelude.{◌≡◌, ◌≢◌, ◌⊎◌, ℕ, true, List, Option, Some, None, Contains, slice_index_or}
use Rattle.hall_grid.specs.declared.board.Size.{Size}
use Rattle.hall_grid.specs.Slither.{is_end}

-- one of the sides is a line, and not the last one passed
pub record IsOnward (p sides : List (Option ℕ)) (last s : ℕ) : Type 0 where
  pub among : Contains sides (Some s)
  pub line : slice_index_or p s None ≡ Some 1
  pub other : s ≢ last

-- two of the sides have the dot as an end
abbrev pub MeetAt : Size → List ℕ → ℕ → Type 0
MeetAt size sides d =
    (a b : ℕ) × Contains sides a × Contains sides b × (a ≢ b) × (is_end size d a ≡ true) × (is_end size d b ≡ true)

-- the side and lines, of which two meet at each dot that one has as an end, but for some dots
pub record IsTrack (size : Size) (p : List (Option ℕ)) (side : ℕ) (loose : ℕ → Type 0) (passed : List ℕ) : Type 0 where
  pub begun : Contains passed side
  pub lines : (x : ℕ) → Contains passed x → (x ≡ side) ⊎ (slice_index_or p x None ≡ Some 1)
  pub met : (x d : ℕ) → Contains passed x → is_end size d x ≡ true → loose d ⊎ MeetAt size passed d

-- the same with no dot left out: with the side the lines are a loop
abbrev pub IsLoop : Size → List (Option ℕ) → ℕ → List ℕ → Type 0
IsLoop size p side passed = IsTrack size p side (λ d. ⊥) passed
