-- The choices that a search made and has not yet exhausted, the newest last.
use Rattle.std.specs.Prelude.{◌≡◌, ℕ, ◌+◌, ◌-◌, ◌*◌, ◌<◌, ◌⊎◌, List, Some, None, length, All, Any, AllPairs, sum_by}
use Rattle.std.specs.Prelude.{slice_index, slice_index_or}
use Rattle.hall_solve.specs.declared.choice.Choice.{Choice}
use Rattle.hall_solve.specs.Trail.{Trailed}
use Rattle.hall_solve.specs.Question.{plain_tree, Extends}

-- the filling has what the first m places of the trail have
abbrev pub Agrees : Trailed → ℕ → List ℕ → Type 0
Agrees b m f =
    (k : ℕ) → k < m →
    slice_index_or b.places (slice_index b.trail k) None ≡ Some (slice_index f (slice_index b.trail k))

-- the choice was made when the trail had its length, and its value stands at its place
pub record IsMade (b : Trailed) (c : Choice) : Type 0 where
  pub within : c.mark < length b.trail
  pub place : slice_index b.trail c.mark ≡ c.place
  pub value : slice_index_or b.places c.place None ≡ Some c.value

-- each choice was made after those below it
pub record AreMade (b : Trailed) (stack : List Choice) : Type 0 where
  pub each : All (IsMade b) stack
  pub in_order : AllPairs (λ c d. c.mark < d.mark) stack

-- the filling stands under a later value of the choice
pub record IsLater (b : Trailed) (f : List ℕ) (c : Choice) : Type 0 where
  pub agrees : Agrees b c.mark f
  pub later : c.value < slice_index f c.place

-- the filling stands under a later value of some choice
abbrev pub AwaitsTurn : Trailed → List Choice → List ℕ → Type 0
AwaitsTurn b stack f = Any (IsLater b f) stack

-- the most visits that the later values of the choices can take, where a board has n places and each k values
abbrev pub visits_left : ℕ → ℕ → List Choice → ℕ
visits_left n k stack = sum_by (λ c. (k - 1 - c.value) * plain_tree k (n - 1 - c.mark)) stack

-- each place has one of the values
abbrev pub InRange : ℕ → ℕ → List ℕ → Type 0
InRange places values f = (i : ℕ) → i < places → slice_index f i < values

-- what the search still has to look at: the fillings below the board as it is, and those that await their turn
abbrev pub IsAhead : Trailed → List Choice → List ℕ → Type 0
IsAhead b stack f = Extends f b.places ⊎ AwaitsTurn b stack f

-- the most visits that are still to come
abbrev pub visits_ahead : ℕ → Trailed → List Choice → ℕ
visits_ahead k b stack = plain_tree k (length b.places - length b.trail) + visits_left (length b.places) k stack

-- the first m places of the trail are the same, and have the same values
pub record SameBelow (m : ℕ) (old new : Trailed) : Type 0 where
  pub trail : (k : ℕ) → k < m → slice_index new.trail k ≡ slice_index old.trail k
  pub values : (k : ℕ) → k < m →
      slice_index_or new.places (slice_index old.trail k) None
      ≡ slice_index_or old.places (slice_index old.trail k) None
