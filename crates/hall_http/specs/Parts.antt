-- What the parameters took of a path, as the code holds it.
use Rattle.std.specs.Prelude.{ℕ, List, [], ◌∷◌}
use Rattle.std.specs.Str.{IsAscii}
use Rattle.hall_http.specs.Routes.{Parts}
use Rattle.hall_http.specs.declared.routes.Parts.{Parts as Lent}

-- the texts that the code lends
abbrev pub parts_seen : Lent → Parts
parts_seen p = record { first = p.first.now; second = p.second.now; third = p.third.now }

-- each parameter's text is ASCII
abbrev pub AllAscii : List (List ℕ × List ℕ) → Type 0
AllAscii [] = Unit {0}
AllAscii (p ∷ rest) = IsAscii p.1 × AllAscii rest
