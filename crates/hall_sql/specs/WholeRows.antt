-- All that a hall keeps but its testers, as lists of rows.
use Rattle.std.specs.Prelude.{◌≡◌, ◌+◌, ℕ, map, length, IsTrue}
use Rattle.std.specs.FinMap.{entries, empty}
use Rattle.sqlite.specs.State.{State, HasCleanDisk}
use Rattle.hall_policy.specs.World.{World}
use Rattle.hall_sql.specs.declared.whole.Whole.{Whole}
use Rattle.hall_sql.specs.Standing.{IsBareLike}
use Rattle.hall_sql.specs.Tables.{hall_schema}

-- the rows are all that the world keeps but its testers, each list in the order of its keys
pub record AreRowsOf (world : World) (rows : Whole) : Type 0 where
  pub people : entries world.people ≡ map (λ person. (person.name, person)) rows.people.items
  pub puzzles : entries world.puzzles ≡ map (λ row. (row.key, row)) rows.puzzles.items
  pub heads : entries world.rounds ≡ map (λ round. (round.id, round)) rows.heads.items
  pub places : entries world.places ≡ rows.places.items
  pub answers : entries world.answers ≡ map (λ row. (row.key, row)) rows.answers.items
  pub protests : entries world.protests ≡ map (λ row. (row.key, row)) rows.protests.items

-- the lists of the one are those of the other
pub record AreSameRows (one other : Whole) : Type 0 where
  pub people : one.people.items ≡ other.people.items
  pub puzzles : one.puzzles.items ≡ other.puzzles.items
  pub heads : one.heads.items ≡ other.heads.items
  pub places : one.places.items ≡ other.places.items
  pub answers : one.answers.items ≡ other.answers.items
  pub protests : one.protests.items ≡ other.protests.items

-- how many there are
abbrev pub count_of : Whole → ℕ
count_of rows =
    length rows.people.items + length rows.puzzles.items + length rows.heads.items + length rows.places.items
    + length rows.answers.items
    + length rows.protests.items

-- the world without its testers
abbrev pub without_testers : World → World
without_testers world = record world { testers = empty }

-- the tables have no row, where that can be told
abbrev pub IsEmptyIn : State → Type 0
IsEmptyIn s = HasCleanDisk s → IsTrue s.is_open → IsBareLike hall_schema s.now
