-- What a deduction may say of a partial filling, and what a pass of deductions may make of it.
use Rattle.std.specs.Prelude.{◌≡◌, ℕ, ◌<◌, List, Option, slice_index}
use Rattle.hall_solve.specs.declared.deduce.Finding.{Finding}
use Rattle.hall_solve.specs.declared.deduce.Finding.TheVariants.{Nothing, Must, Impossible}
use Rattle.hall_solve.specs.declared.deduce.Pass.{Pass}
use Rattle.hall_solve.specs.declared.deduce.Pass.TheVariants.{Settled, Advanced, Dead}
use Rattle.hall_solve.specs.Question.{Question, Solves, IsHopeless, IsOpen, Narrows, open_places}

-- every solution has the value at the place
abbrev pub HasAlways : Question → List (Option ℕ) → ℕ → ℕ → Type 0
HasAlways q p place value = (f : List ℕ) → Solves q p f → slice_index f place ≡ value

-- the place is open, and every solution has the value there
pub record IsForced (q : Question) (p : List (Option ℕ)) (place value : ℕ) : Type 0 where
  pub unset : IsOpen p place
  pub in_range : value < q.values
  pub forced : HasAlways q p place value

-- the finding is true of each solution
abbrev pub IsSound : Question → List (Option ℕ) → Finding → Type 0
IsSound q p Nothing = Unit {0}
IsSound q p (Must place value) = IsForced q p place value
IsSound q p Impossible = IsHopeless q p

-- what a pass that ended so has made of the partial filling
abbrev pub IsDeduced : Question → List (Option ℕ) → List (Option ℕ) → Pass → Type 0
IsDeduced q old new Settled = new ≡ old
IsDeduced q old new Advanced = Narrows q old new × (open_places new < open_places old)
IsDeduced q old new Dead = IsHopeless q old
