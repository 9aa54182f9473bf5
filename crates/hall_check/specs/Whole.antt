-- All that a hall keeps, as lists of rows.
use Rattle.std.specs.Prelude.{◌≡◌, map}
use Rattle.std.specs.FinMap.{entries, values, from_entries}
use Rattle.hall_policy.specs.World.{World}
use Rattle.hall_store.specs.Whole.{AreUnderOwnKeys}
use Rattle.hall_check.specs.declared.whole.Whole.{Whole}

-- the world that has these rows
abbrev pub world_of_whole : Whole → World
world_of_whole whole = record {
  people = from_entries (map (λ person. (person.name, person)) whole.people.items);
  puzzles = from_entries (map (λ row. (row.key, row)) whole.puzzles.items);
  rounds = from_entries (map (λ round. (round.id, round)) whole.rounds.items);
  places = from_entries whole.places.items;
  answers = from_entries (map (λ row. (row.key, row)) whole.answers.items);
  protests = from_entries (map (λ row. (row.key, row)) whole.protests.items);
  testers = from_entries whole.testers.items;
}

-- the rows stand in the order of their keys, and none twice: they are all that their world has
pub record IsInOrder (whole : Whole) : Type 0 where
  pub people : values (world_of_whole whole).people ≡ whole.people.items
  pub puzzles : values (world_of_whole whole).puzzles ≡ whole.puzzles.items
  pub rounds : values (world_of_whole whole).rounds ≡ whole.rounds.items
  pub places : entries (world_of_whole whole).places ≡ whole.places.items
  pub answers : values (world_of_whole whole).answers ≡ whole.answers.items
  pub protests : values (world_of_whole whole).protests ≡ whole.protests.items
  pub testers : entries (world_of_whole whole).testers ≡ whole.testers.items

-- the rows are all that the world has, each under its own key
pub record IsWholeOf (world : World) (whole : Whole) : Type 0 where
  pub own : AreUnderOwnKeys world
  pub people : whole.people.items ≡ values world.people
  pub puzzles : whole.puzzles.items ≡ values world.puzzles
  pub rounds : whole.rounds.items ≡ values world.rounds
  pub places : whole.places.items ≡ entries world.places
  pub answers : whole.answers.items ≡ values world.answers
  pub protests : whole.protests.items ≡ values world.protests
  pub testers : whole.testers.items ≡ entries world.testers
