-- What one visit may find.
use Rattle.std.specs.Prelude.{◌≡◌, ℕ, ◌<◌, List, Option}
use Rattle.hall_solve.specs.declared.visit.Visited.{Visited}
use Rattle.hall_solve.specs.declared.visit.Visited.TheVariants.{Closed, Whole, Open}
use Rattle.hall_solve.specs.Question.{Question, Solves, Narrows, IsHopeless, IsOpen}
use Rattle.hall_solve.specs.Trail.{Trailed, Grows}

-- what was found says of the partial filling: nothing solves it, this alone does, or a place is open
abbrev pub IsLook : Question → List (Option ℕ) → List (Option ℕ) → Visited → Type 0
IsLook q old new Closed = IsHopeless q old
IsLook q old new (Whole g) = Solves q old g × ((f : List ℕ) → Solves q old f → f ≡ g)
IsLook q old new (Open i) = Narrows q old new × IsOpen new i × (0 < q.values)

-- the same, and only where a place is open does the visit leave more set
abbrev pub IsVisit : Question → Trailed → Trailed → Visited → Type 0
IsVisit q old new Closed = IsHopeless q old.places × (new ≡ old)
IsVisit q old new (Whole g) = IsLook q old.places new.places (Whole g) × (new ≡ old)
IsVisit q old new (Open i) = IsLook q old.places new.places (Open i) × Grows old new
