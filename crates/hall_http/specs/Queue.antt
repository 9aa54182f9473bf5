-- Who waits for the same, in the order in which they came.
use Rattle.std.specs.Prelude.{◌≡◌, ◌⊎◌, ℕ, Bool, true, false, List, [], ◌∷◌, ◌++◌}
use Rattle.hall_http.specs.Line.{called_in, has}
use Rattle.hall_http.specs.declared.queue.Motion.{Motion}
use Rattle.hall_http.specs.declared.queue.Motion.TheVariants.{Comes}
use Rattle.hall_http.specs.declared.queue.Queue.{Queue}

-- whether the place waits
abbrev pub waits_in : Queue → ℕ → Bool
waits_in queue place = has queue.waiting.items place

-- those that were called, in order
abbrev pub called : Queue → List ℕ
called queue = called_in queue.motions.items

-- some may have come, behind those that wait, and nobody was called
abbrev pub ComeBehind : Queue → Queue → Type 0
ComeBehind old new =
    (called new ≡ called old) × (more : List ℕ) × (new.waiting.items ≡ old.waiting.items ++ more)

-- some may have come, behind those that wait, and then the place, the first of all, went
abbrev pub GoesAhead : Queue → ℕ → Queue → Type 0
GoesAhead old place new = (more : List ℕ) × (old.waiting.items ++ more ≡ place ∷ new.waiting.items)

-- the place that came first of those that wait
abbrev pub IsFirst : Queue → ℕ → Type 0
IsFirst queue place = (behind : List ℕ) × (queue.waiting.items ≡ place ∷ behind)

-- the place comes, and stands behind all others
abbrev pub ComesLast : Queue → ℕ → Queue → Type 0
ComesLast old place new =
    (new.motions.items ≡ old.motions.items ++ (place, Comes) ∷ [])
    × (new.waiting.items ≡ old.waiting.items ++ place ∷ [])

-- the place comes last, where it doesn't wait yet
abbrev pub HasCome : Queue → ℕ → Queue → Type 0
HasCome old place new =
    ((waits_in old place ≡ true) × (new ≡ old)) ⊎ ((waits_in old place ≡ false) × ComesLast old place new)

-- the first that waits is called or skipped, and the others wait still
abbrev pub HasGone : Queue → ℕ → Motion → Queue → Type 0
HasGone old place motion new =
    (new.motions.items ≡ old.motions.items ++ (place, motion) ∷ [])
    × (old.waiting.items ≡ place ∷ new.waiting.items)
