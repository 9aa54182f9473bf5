-- How many rows there are of each key.
use Rattle.std.specs.Prelude.{◌≡◌, ℕ, List, count_by, unwrap_or}
use Rattle.std.specs.Ordering.{is_eq}
use Rattle.std.specs.declared.cmp.Ordering.{Ordering}
use Rattle.std.specs.Map.{lookup}
use Rattle.std.specs.BTreeMap.{is_at}

-- how many rows were counted of the key
abbrev pub counted_of : {K : Type 0} → (K → K → Ordering) → List (K × ℕ) → K → ℕ
counted_of R counts key = unwrap_or (lookup (is_at (R key)) counts) 0

-- of each key so many rows were counted as there are
abbrev pub IsTally : {K X : Type 0} → (K → K → Ordering) → (X → K) → List X → List (K × ℕ) → Type 0
IsTally {K} {X} R key_of rows counts =
    (key : K) → counted_of R counts key ≡ count_by (λ row. is_eq (R key (key_of row))) rows
