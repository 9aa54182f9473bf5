-- What a sink has taken.
use Rattle.std.specs.Prelude.{◌≡◌, List, [], ◌∷◌}

-- the sink took the rows, one after another
abbrev pub HasTaken : {K X : Type 0} → (K → X → K → Type 0) → K → List X → K → Type 0
HasTaken Takes before [] after = after ≡ before
HasTaken {K} Takes before (row ∷ rows) after = (next : K) × Takes before row next × HasTaken Takes next rows after
