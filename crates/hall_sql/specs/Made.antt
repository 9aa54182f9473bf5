-- The hall's tables made one after another, on a database with none.
use Rattle.std.specs.Prelude.{◌≡◌, ◌⊎◌, ℕ, false, List, [], ◌∷◌, IsTrue}
use Rattle.std.specs.List.{AllByRecursion}
use Rattle.sqlite.specs.Table.{Table}
use Rattle.sqlite.specs.Schema.{Schema}
use Rattle.sqlite.specs.Change.{created}
use Rattle.sqlite.specs.Effect.{Database, IsDatabase}
use Rattle.sqlite.specs.State.{State}
use Rattle.hall_sql.specs.Standing.{IsBareDatabase}
use Rattle.hall_sql.specs.declared.tables.HallTable.{HallTable}
use Rattle.hall_sql.specs.declared.tables.HallTable.TheVariants.{People, Puzzles, Rounds, Places, Answers, Protests}
use Rattle.hall_sql.specs.declared.tables.HallTable.TheVariants.{Testers}
use Rattle.hall_sql.specs.declared.tables.TheConstants.{MAKE_PEOPLE, MAKE_PUZZLES, MAKE_ROUNDS, MAKE_PLACES}
use Rattle.hall_sql.specs.declared.tables.TheConstants.{MAKE_ANSWERS, MAKE_PROTESTS, MAKE_TESTERS}
use Rattle.hall_sql.specs.Tables.{shape_of, no_schema, schema_with_people, schema_with_puzzles, schema_with_rounds}
use Rattle.hall_sql.specs.Tables.{schema_with_round_puzzles, schema_with_answers, old_schema, hall_schema}

-- all seven, each after those to which it refers
abbrev pub all_tables : List HallTable
all_tables = People ∷ Puzzles ∷ Rounds ∷ Places ∷ Answers ∷ Protests ∷ Testers ∷ []

-- those of the version before
abbrev pub old_tables : List HallTable
old_tables = People ∷ Puzzles ∷ Rounds ∷ Places ∷ Answers ∷ Protests ∷ []

-- the statement that makes the table
abbrev pub table_text : HallTable → List ℕ
table_text People = MAKE_PEOPLE.now
table_text Puzzles = MAKE_PUZZLES.now
table_text Rounds = MAKE_ROUNDS.now
table_text Places = MAKE_PLACES.now
table_text Answers = MAKE_ANSWERS.now
table_text Protests = MAKE_PROTESTS.now
table_text Testers = MAKE_TESTERS.now

-- the schema to which the table is added
abbrev pub schema_before : HallTable → Schema
schema_before People = no_schema
schema_before Puzzles = schema_with_people
schema_before Rounds = schema_with_puzzles
schema_before Places = schema_with_rounds
schema_before Answers = schema_with_round_puzzles
schema_before Protests = schema_with_answers
schema_before Testers = old_schema

-- the schema is the hall's once these tables are made
abbrev pub Lacks : List HallTable → Schema → Type 0
Lacks [] schema = schema ≡ hall_schema
Lacks (table ∷ tables) schema = (schema ≡ schema_before table) × Lacks tables (created schema (shape_of table))

-- once these tables are made, it is the hall with no rows
pub record Awaits (tables : List HallTable) (held : Database) : Type 0 where
  pub schema : Schema
  pub bare : IsBareDatabase schema held
  pub uncounted : AllByRecursion (λ (table : Table). table.is_counted ≡ false) schema.tables
  pub lacks : Lacks tables schema

-- a statement inside a transaction made the table
pub record MakesHallTable (table : HallTable) (old new : State) : Type 0 where
  pub mode : IsTrue new.in_transaction
  pub made : (tables : List HallTable) → Awaits (table ∷ tables) old.now → Awaits tables new.now
  pub sound : (tables : List HallTable) → Awaits (table ∷ tables) old.now → IsDatabase new.now

-- of the tables that were to be made, these are still to be made; once one was made, it is a database
pub record HasGrown (tables rest : List HallTable) (old new : State) : Type 0 where
  pub mode : IsTrue new.in_transaction
  pub made : Awaits tables old.now → Awaits rest new.now
  pub sound : Awaits tables old.now → (rest ≡ tables) ⊎ IsDatabase new.now
