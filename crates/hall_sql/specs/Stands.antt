-- The world for which a database stands, where a hall opens it.
use Rattle.std.specs.Prelude.{◌≡◌, ◌⊎◌, []}
use Rattle.std.specs.List.{AllByRecursion}
use Rattle.sqlite.specs.Schema.{Schema}
use Rattle.sqlite.specs.Tree.{Trees}
use Rattle.sqlite_catalog.specs.Listing.{IsSound}
use Rattle.hall_policy.specs.World.{World}
use Rattle.hall_store.specs.Maps.{empty_world}
use Rattle.hall_sql.specs.Rows.{world_of}
use Rattle.hall_sql.specs.Tables.{IsLike, no_schema, hall_schema}

-- the database lists tables like those of the schema
abbrev pub ListsLike : Schema → Trees → Type 0
ListsLike wanted db = (found : Schema) × IsLike wanted found × IsSound found db

-- The database lists the hall's tables, whose rows stand for the world; or it lists no table, and the world is empty.
abbrev pub StandsFor : Trees → World → Type 0
StandsFor db world =
    (ListsLike hall_schema db × (world ≡ world_of db))
    ⊎ (IsSound no_schema db × (world ≡ empty_world))

-- An open finds this world in the database, where it finds any. Of a database that stands for none it holds of each
-- world: so where a clause names the worlds that may be left, no such database is left.
abbrev pub OpensTo : (Trees → World → Type 0) → Trees → World → Type 0
OpensTo Stands db left = (world : World) → Stands db world → left ≡ world

-- the database lists the hall's tables, and they have no rows
abbrev pub IsBareHall : Trees → Type 0
IsBareHall db = IsSound hall_schema db × AllByRecursion (λ table. db table.tree ≡ []) hall_schema.tables

-- the database lists the hall's tables, whose rows are the world
abbrev pub HoldsHall : World → Trees → Type 0
HoldsHall world db = ListsLike hall_schema db × (world_of db ≡ world)
