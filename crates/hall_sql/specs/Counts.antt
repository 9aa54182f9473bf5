-- Rows that are counted.
use Rattle.std.specs.Prelude.{◌≡◌, ℕ, List, length, map, Option, Some}
use Rattle.sqlite.specs.Order.{Row}
use Rattle.sqlite.specs.State.{State}
use Rattle.hall_sql.specs.Cause.{AreRead}

-- there is something to read
abbrev pub IsRead : {X : Type 0} → Option X → Type 0
IsRead {X} found = (x : X) × (found ≡ Some x)

-- each of the rows is a record of this kind
abbrev pub AreReadAs : {X : Type 0} → (Row → Option X) → List Row → Type 0
AreReadAs {X} read rows = (records : List X) × (map read rows ≡ map Some records)

-- so many records are the query's answer, in a store that serves
pub record AreSoMany {X : Type 0} (read : Row → Option X) (sql : List ℕ) (params : Row) (old new : State) (count : ℕ)
    : Type 0 where
  pub records : List X
  pub many : count ≡ length records
  pub are : AreRead read sql params old new records
