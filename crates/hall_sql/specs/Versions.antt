-- The versions of the hall's tables: with the table of testers, and before it.
use Rattle.std.specs.Prelude.{◌⊎◌}
use Rattle.sqlite.specs.Schema.{Schema}
use Rattle.sqlite.specs.State.{State}
use Rattle.hall_sql.specs.declared.tables.HallTable.{HallTable}
use Rattle.hall_sql.specs.declared.tables.HallTable.TheVariants.{Testers}
use Rattle.hall_sql.specs.Tables.{IsHallSchema, IsOldSchema}
use Rattle.hall_sql.specs.Standing.{IsOver}

-- the schema is a hall's, or that of the version before, which has no testers
abbrev pub IsVersion : Schema → Type 0
IsVersion schema = IsOldSchema schema ⊎ IsHallSchema schema

-- the tables are those of a version
abbrev pub IsAnyHall : State → Type 0
IsAnyHall = IsOver IsVersion

-- the schema is of a version that has the table
abbrev pub HasTable : Schema → HallTable → Type 0
HasTable schema Testers = IsHallSchema schema
HasTable schema _ = IsVersion schema
