-- What a search is asked, and which fillings solve it.
use Rattle.std.specs.Prelude.{◌≡◌, ◌↔◌, ◌≢◌, ℕ, zero, suc, ◌+◌, ◌^◌, ◌<◌, List, Option, Some, None}
use Rattle.std.specs.Prelude.{length, slice_index, slice_index_or, is_none, count_by}

-- how many places there are, how many values a place may have, and which whole fillings are right
pub record Question : Type 1 where
  pub cells : ℕ
  pub values : ℕ
  pub right : List ℕ → Type 0

-- two questions ask the same
pub record IsSameQuestion (old new : Question) : Type 0 where
  pub cells : new.cells ≡ old.cells
  pub values : new.values ≡ old.values
  pub right : (f : List ℕ) → new.right f ↔ old.right f

-- a whole filling: a value at each place
pub record IsQuestionFilling (q : Question) (f : List ℕ) : Type 0 where
  pub size : length f ≡ q.cells
  pub in_range : (i : ℕ) → i < q.cells → slice_index f i < q.values

-- a partial filling: a value or nothing at each place
pub record IsPartial (q : Question) (p : List (Option ℕ)) : Type 0 where
  pub size : length p ≡ q.cells
  pub in_range : (i v : ℕ) → slice_index_or p i None ≡ Some v → v < q.values

-- the filling has what the partial filling has set
abbrev pub Extends : List ℕ → List (Option ℕ) → Type 0
Extends f p = (i v : ℕ) → slice_index_or p i None ≡ Some v → slice_index f i ≡ v

-- what is set stays as it is
abbrev pub Keeps : List (Option ℕ) → List (Option ℕ) → Type 0
Keeps old new = (i v : ℕ) → slice_index_or old i None ≡ Some v → slice_index_or new i None ≡ Some v

-- a filling that is right and has what the partial filling has set
pub record Solves (q : Question) (p : List (Option ℕ)) (f : List ℕ) : Type 0 where
  pub filling : IsQuestionFilling q f
  pub extends : Extends f p
  pub right : q.right f

-- no filling solves it
abbrev pub IsHopeless : Question → List (Option ℕ) → Type 0
IsHopeless q p = (f : List ℕ) → ¬ Solves q p f

-- more is set, and each solution stays one
pub record Narrows (q : Question) (old new : List (Option ℕ)) : Type 0 where
  pub partial : IsPartial q new
  pub keeps : Keeps old new
  pub solutions : (f : List ℕ) → Solves q old f → Solves q new f

-- a place of the board that is not set
abbrev pub IsOpen : List (Option ℕ) → ℕ → Type 0
IsOpen p place = (place < length p) × (slice_index_or p place None ≡ None)

-- every place is set
abbrev pub IsWhole : List (Option ℕ) → Type 0
IsWhole p = (i : ℕ) → i < length p → slice_index_or p i None ≢ None

-- how many places are not set
abbrev pub open_places : List (Option ℕ) → ℕ
open_places p = count_by is_none p

-- 1 + k + .. + k^n, the most nodes of a tree whose branches number k, n deep
abbrev pub plain_tree : ℕ → ℕ → ℕ
plain_tree k zero = 1
plain_tree k (suc n) = plain_tree k n + k ^ suc n
