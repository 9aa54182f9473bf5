-- What is known of the protests of each entrant.
use Rattle.std.specs.Prelude.{ℕ, ℤ, pos, List, Option, Some, None}
use Rattle.std.specs.Map.{lookup}
use Rattle.std.specs.BTreeMap.{is_at}
use Rattle.hall_policy.specs.Text.{text_cmp}
use Rattle.hall_score.specs.declared.entrant.Rulings.{Rulings}

-- what the list has of the entrant
abbrev pub rulings_at : List (List ℕ × Rulings) → List ℕ → Option Rulings
rulings_at rulings entrant = lookup (is_at (text_cmp entrant)) rulings

-- the points of an entrant's protests
abbrev pub points_ruled : Option Rulings → ℤ
points_ruled (Some rulings) = rulings.points
points_ruled None = pos 0

-- how many protests an entrant has: none where there is no entry
abbrev pub count_ruled : Option Rulings → ℕ
count_ruled (Some rulings) = rulings.count
count_ruled None = 0
