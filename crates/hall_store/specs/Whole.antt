-- What holds of each world that a store keeps row by row.
use Rattle.std.specs.Prelude.{◌≡◌, map}
use Rattle.std.specs.FinMap.{entries, values}
use Rattle.hall_policy.specs.World.{World}

-- each row stands under its own key
pub record AreUnderOwnKeys (world : World) : Type 0 where
  pub people : entries world.people ≡ map (λ person. (person.name, person)) (values world.people)
  pub puzzles : entries world.puzzles ≡ map (λ row. (row.key, row)) (values world.puzzles)
  pub rounds : entries world.rounds ≡ map (λ round. (round.id, round)) (values world.rounds)
  pub answers : entries world.answers ≡ map (λ row. (row.key, row)) (values world.answers)
  pub protests : entries world.protests ≡ map (λ row. (row.key, row)) (values world.protests)
