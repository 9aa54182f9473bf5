-- What the statements of the hall ask of its tables: of each text the command that it is.
-- Column 0 of a row is its rowid, and the columns of its CREATE TABLE follow from 1 on: `col 1 n` is column n of the
-- row, and `col 0 n` the parameter ?n+1. So `equals 2 0` says that column 2 equals ?1. The statements that make the
-- tables are not here.
use Rattle.std.specs.Prelude.{◌≡◌, ℕ, suc, true, List, [], ◌∷◌, length, map, codes}
use Rattle.sqlite.specs.Command.TheVariants.{Select, Insert, Update, Delete}
use Rattle.sqlite.specs.Given.{IsPlain}
use Rattle.sqlite.specs.Listing.{understood}
use Rattle.sqlite.specs.Schema.{Schema}
use Rattle.sqlite.specs.Source.TheVariants.{Values}
use Rattle.sqlite.specs.Term.{Term, lit, col}
use Rattle.sqlite.specs.declared.types.Value.TheVariants.{Null}
use Rattle.sqlite.proofs.Callers.{command_of}
use Rattle.sqlite_schema.specs.declared.command.Command.{Command}
use Rattle.sqlite_schema.specs.declared.schema.Column.{Column}
use Rattle.hall_store.specs.Store.{people_at_once}
use Rattle.hall_sql.specs.Asked.{is_whole}
use Rattle.hall_sql.specs.Scan.{tree_of}
use Rattle.hall_sql.specs.Statements.{above, equals, first_rows, rising, names_of, plain_query, rowids_text}
use Rattle.hall_sql.specs.Statements.{up_to}
use Rattle.hall_sql.specs.Tables.{IsHallSchema, table_at}
use Rattle.hall_sql.specs.Versions.{HasTable}
use Rattle.hall_sql.specs.declared.tables.HallTable.{HallTable}
use Rattle.hall_sql.specs.declared.tables.HallTable.TheVariants.{People, Puzzles, Rounds, Places, Answers, Protests}
use Rattle.hall_sql.specs.declared.tables.HallTable.TheVariants.{Testers}
use Rattle.hall_sql.specs.declared.people.TheConstants.{PERSON, PERSON_BY_KEY, ALL_PEOPLE, PEOPLE_AFTER, ADD_PERSON}
use Rattle.hall_sql.specs.declared.puzzles.TheConstants.{PUZZLE, PUZZLES_OF, ALL_PUZZLES}
use Rattle.hall_sql.specs.declared.puzzles.TheConstants.{LOOK_PUZZLE, ADD_PUZZLE, REPLACE_PUZZLE}
use Rattle.hall_sql.specs.declared.rounds.TheConstants.{HEAD, ALL_ROUNDS, PLACES_WITH, PLACES_OF, ALL_PLACES}
use Rattle.hall_sql.specs.declared.round_writes.TheConstants.{LOOK_HEAD, ADD_HEAD, REPLACE_HEAD, ADD_PLACE, DROP_PLACES}
use Rattle.hall_sql.specs.declared.testers.TheConstants.{TESTERS_OF, ALL_TESTERS, ADD_TESTER, DROP_TESTERS}
use Rattle.hall_sql.specs.declared.answers.TheConstants.{ANSWER, ANSWERS_OF, ANSWERS_IN, ANSWERS_GIVEN, NUMBER_TAKEN}
use Rattle.hall_sql.specs.declared.answers.TheConstants.{ALL_ANSWERS, ANSWERS_BETWEEN, ADD_ANSWER}
use Rattle.hall_sql.specs.declared.protests.TheConstants.{PROTEST, PROTESTS_OF, PROTESTS_IN, ALL_PROTESTS}
use Rattle.hall_sql.specs.declared.protests.TheConstants.{ADD_PROTEST, RULE_PROTEST}

-- ---- the commands

-- as many terms as these columns, the first with this number: columns of the row (1), or parameters (0)
abbrev pub terms_from : ℕ → ℕ → List Column → List Term
terms_from of number [] = []
terms_from of number (column ∷ columns) = col of number ∷ terms_from of (suc number) columns

-- All columns of the rows that meet all of the terms, ascending by the columns of these numbers, the first of them
-- first.
abbrev pub select : HallTable → List Term → List ℕ → Command
select table terms order = Select
    (record {
      lets = [];
      body = plain_query (tree_of table) terms (terms_from 1 1 (table_at table).columns)
          (map (λ number. (col 1 number, rising)) order);
    })
    (names_of table)

-- likewise the first of them, so many at most
abbrev pub select_first : ℕ → HallTable → List Term → List ℕ → Command
select_first count table terms order = Select
    (record {
      lets = [];
      body = first_rows count (plain_query (tree_of table) terms (terms_from 1 1 (table_at table).columns)
          (map (λ number. (col 1 number, rising)) order));
    })
    (names_of table)

-- likewise the one column of this number and name
abbrev pub select_column : HallTable → ℕ → List ℕ → List Term → List ℕ → Command
select_column table number name terms order = Select
    (record {
      lets = [];
      body = plain_query (tree_of table) terms (col 1 number ∷ []) (map (λ it. (col 1 it, rising)) order);
    })
    (name ∷ [])

-- the place of the table in the schema
abbrev pub place_in_schema : HallTable → ℕ
place_in_schema People = 0
place_in_schema Puzzles = 1
place_in_schema Rounds = 2
place_in_schema Places = 3
place_in_schema Answers = 4
place_in_schema Protests = 5
place_in_schema Testers = 6

-- a row of the parameters in their order, behind a rowid that the database chooses
abbrev pub insert : HallTable → Command
insert table = Insert (place_in_schema table)
    (Values (lit Null ∷ terms_from 0 0 (table_at table).columns) (suc (length (table_at table).columns)))

-- each row that meets all of the terms (it is found by its rowid, `col 1 0`) becomes the row of these values
abbrev pub update : HallTable → List Term → List Term → Command
update table terms becomes = Update (place_in_schema table)
    (record { lets = []; body = plain_query (tree_of table) terms (col 1 0 ∷ becomes) [] })

-- each row that meets all of the terms goes
abbrev pub delete : HallTable → List Term → Command
delete table terms = Delete (place_in_schema table)
    (record { lets = []; body = plain_query (tree_of table) terms (col 1 0 ∷ []) [] })

-- over the tables of the schema the text is this command and nothing else, of so many parameters; it returns no row
-- that it wrote, and reads no time
pub record IsCommand (schema : Schema) (sql : List ℕ) (parameters : ℕ) (command : Command) : Type 0 where
  pub is : command_of (understood schema sql) ≡ command
  pub plain : IsPlain (understood schema sql)
  pub whole : is_whole sql parameters (understood schema sql) ≡ true

-- over the tables of a hall, also where another made them, the text is this command
abbrev pub Is : List ℕ → ℕ → Command → Type 0
Is sql parameters command = (schema : Schema) → IsHallSchema schema → IsCommand schema sql parameters command

-- it asks for all rows of the table, in the order of these columns, over the tables of each version that has the table
abbrev pub IsTableListing : List ℕ → HallTable → List ℕ → Type 0
IsTableListing sql table order =
    (schema : Schema) → HasTable schema table → IsCommand schema sql 0 (select table [] order)

-- ---- the statements

-- what each text on people asks; the columns: 1 name, 2 pass (the key), 3 roles
pub record AskOfPeople : Type 0 where
  pub person : Is PERSON.now 1 (select People (equals 1 0 ∷ []) [])
  pub person_by_key : Is PERSON_BY_KEY.now 1 (select People (equals 2 0 ∷ []) [])
  pub all_people : IsTableListing ALL_PEOPLE.now People (1 ∷ [])
  pub people_after : Is PEOPLE_AFTER.now 1 (select_first people_at_once People (above 1 0 ∷ []) (1 ∷ []))
  pub add_person : Is ADD_PERSON.now 3 (insert People)

-- so on puzzles: 1 author, 2 label, 3 body, 4 state, 5 solution
pub record AskOfPuzzles : Type 0 where
  pub puzzle : Is PUZZLE.now 2 (select Puzzles (equals 1 0 ∷ equals 2 1 ∷ []) [])
  pub puzzles_of : Is PUZZLES_OF.now 1 (select Puzzles (equals 1 0 ∷ []) (1 ∷ 2 ∷ []))
  pub all_puzzles : IsTableListing ALL_PUZZLES.now Puzzles (1 ∷ 2 ∷ [])
  pub look_puzzle : Is LOOK_PUZZLE.now 2 (select_column Puzzles 1 (codes "author") (equals 1 0 ∷ equals 2 1 ∷ []) [])
  pub add_puzzle : Is ADD_PUZZLE.now 5 (insert Puzzles)
  pub replace_puzzle : Is REPLACE_PUZZLE.now 5 (update Puzzles (equals 1 0 ∷ equals 2 1 ∷ [])
      (col 1 0 ∷ col 1 1 ∷ col 1 2 ∷ col 0 2 ∷ col 0 3 ∷ col 0 4 ∷ []))

-- so on rounds: 1 id, 2 title, 3 start, 4 minutes, 5 protest_minutes, 6 mode, 7 penalty, 8 bonus, 9 released,
-- 10 published
pub record AskOfRounds : Type 0 where
  pub head : Is HEAD.now 1 (select Rounds (equals 1 0 ∷ []) [])
  pub all_rounds : IsTableListing ALL_ROUNDS.now Rounds (1 ∷ [])
  pub look_head : Is LOOK_HEAD.now 1 (select_column Rounds 1 (codes "id") (equals 1 0 ∷ []) [])
  pub add_head : Is ADD_HEAD.now 10 (insert Rounds)
  pub replace_head : Is REPLACE_HEAD.now 10 (update Rounds (equals 1 0 ∷ [])
      (col 1 0 ∷ col 1 1 ∷ col 0 1 ∷ col 0 2 ∷ col 0 3 ∷ col 0 4 ∷ col 0 5 ∷ col 0 6 ∷ col 0 7 ∷ col 0 8 ∷ col 0 9
      ∷ []))

-- so on round_puzzles: 1 round, 2 number, 3 author, 4 label, 5 points
pub record AskOfPlaces : Type 0 where
  pub places_of : Is PLACES_OF.now 1 (select Places (equals 1 0 ∷ []) (2 ∷ []))
  pub places_with : Is PLACES_WITH.now 2 (select Places (equals 3 0 ∷ equals 4 1 ∷ []) (1 ∷ []))
  pub all_places : IsTableListing ALL_PLACES.now Places (1 ∷ 2 ∷ [])
  pub add_place : Is ADD_PLACE.now 5 (insert Places)
  pub drop_places : Is DROP_PLACES.now 1 (delete Places (equals 1 0 ∷ []))

-- so on testers: 1 round, 2 name
pub record AskOfTesters : Type 0 where
  pub testers_of : Is TESTERS_OF.now 1 (select Testers (equals 1 0 ∷ []) (2 ∷ []))
  pub all_testers : IsTableListing ALL_TESTERS.now Testers (1 ∷ 2 ∷ [])
  pub add_tester : Is ADD_TESTER.now 2 (insert Testers)
  pub drop_testers : Is DROP_TESTERS.now 1 (delete Testers (equals 1 0 ∷ []))

-- so on answers: 1 entrant, 2 round, 3 number, 4 token, 5 n, 6 moment, 7 answer, 8 verdict
pub record AskOfAnswers : Type 0 where
  pub answer : Is ANSWER.now 4 (select Answers (equals 1 0 ∷ equals 2 1 ∷ equals 3 2 ∷ equals 4 3 ∷ []) [])
  pub answers_of : Is ANSWERS_OF.now 2 (select Answers (equals 2 1 ∷ equals 1 0 ∷ []) (1 ∷ 3 ∷ 5 ∷ 4 ∷ []))
  pub answers_in : Is ANSWERS_IN.now 1 (select Answers (equals 2 0 ∷ []) (1 ∷ 3 ∷ 5 ∷ 4 ∷ []))
  pub answers_between : Is ANSWERS_BETWEEN.now 3
      (select Answers (equals 2 0 ∷ above 1 1 ∷ up_to 1 2 ∷ []) (1 ∷ 3 ∷ 5 ∷ 4 ∷ []))
  pub answers_given : Is ANSWERS_GIVEN.now 3 (select Answers (equals 1 0 ∷ equals 2 1 ∷ equals 3 2 ∷ []) [])
  pub number_taken : Is NUMBER_TAKEN.now 4
      (select Answers (equals 1 0 ∷ equals 2 1 ∷ equals 3 2 ∷ equals 5 3 ∷ []) [])
  pub all_answers : IsTableListing ALL_ANSWERS.now Answers (1 ∷ 2 ∷ 3 ∷ 4 ∷ [])
  pub add_answer : Is ADD_ANSWER.now 8 (insert Answers)

-- so on protests: 1 entrant, 2 round, 3 token, 4 number, 5 body, 6 ruling, 7 points
pub record AskOfProtests : Type 0 where
  pub protest : Is PROTEST.now 3 (select Protests (equals 1 0 ∷ equals 2 1 ∷ equals 3 2 ∷ []) [])
  pub protests_of : Is PROTESTS_OF.now 2 (select Protests (equals 2 1 ∷ equals 1 0 ∷ []) (1 ∷ 2 ∷ 3 ∷ []))
  pub protests_in : Is PROTESTS_IN.now 1 (select Protests (equals 2 0 ∷ []) (1 ∷ 2 ∷ 3 ∷ []))
  pub all_protests : IsTableListing ALL_PROTESTS.now Protests (1 ∷ 2 ∷ 3 ∷ [])
  pub add_protest : Is ADD_PROTEST.now 7 (insert Protests)
  pub rule_protest : Is RULE_PROTEST.now 5 (update Protests (equals 1 0 ∷ equals 2 1 ∷ equals 3 2 ∷ [])
      (col 1 0 ∷ col 1 1 ∷ col 1 2 ∷ col 1 3 ∷ col 1 4 ∷ col 1 5 ∷ col 0 3 ∷ col 0 4 ∷ []))

-- the rowids of each table, ascending
abbrev pub AskForRowids : Type 0
AskForRowids =
    (schema : Schema) (table : HallTable) → HasTable schema table
    → IsCommand schema (rowids_text table) 0 (select_column table 0 (codes "rowid") [] (0 ∷ []))
