-- A partial filling with its trail, and what setting and clearing places make of it.
use Rattle.std.specs.Prelude.{◌≡◌, ◌≢◌, ℕ, ◌+◌, ◌<◌, List, Option, Some, None, length, take, drop, Contains, All}
use Rattle.std.specs.Prelude.{slice_index, slice_index_or}
use Rattle.hall_solve.specs.Question.{Keeps, open_places}

-- what the places have, and which places were set, in order
pub record Trailed : Type 0 where
  pub places : List (Option ℕ)
  pub trail : List ℕ

-- the trail has the places that are set, each once
pub record IsTrailed (b : Trailed) : Type 0 where
  pub set : (k : ℕ) → k < length b.trail → (v : ℕ) × (slice_index_or b.places (slice_index b.trail k) None ≡ Some v)
  pub listed : (i v : ℕ) → slice_index_or b.places i None ≡ Some v → Contains b.trail i
  pub once : (j k : ℕ) → j < k → k < length b.trail → slice_index b.trail j ≢ slice_index b.trail k
  pub counted : length b.trail + open_places b.places ≡ length b.places

-- more is set, after what was set before
pub record Grows (old new : Trailed) : Type 0 where
  pub size : length new.places ≡ length old.places
  pub trail : take (length old.trail) new.trail ≡ old.trail
  pub keeps : Keeps old.places new.places

-- the places beyond the first m of the trail are cleared, and no other
pub record IsUndone (m : ℕ) (old new : Trailed) : Type 0 where
  pub size : length new.places ≡ length old.places
  pub trail : new.trail ≡ take m old.trail
  pub cleared : All (λ i. slice_index_or new.places i None ≡ None) (drop m old.trail)
  pub others : (i : ℕ) → (Contains (drop m old.trail) i → ⊥) →
      slice_index_or new.places i None ≡ slice_index_or old.places i None
