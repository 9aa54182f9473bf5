-- How many people and rounds a hall knows.
use Rattle.std.specs.Prelude.{length}
use Rattle.std.specs.FinMap.{values}
use Rattle.hall_policy.specs.World.{World}
use Rattle.hall_desk.specs.declared.census.Census.{Census}

-- how many people and rounds the world holds
abbrev pub census_of : World → Census
census_of world = record { people = length (values world.people); rounds = length (values world.rounds) }
