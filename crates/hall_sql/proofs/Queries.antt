-- A query of the rows of one table as a value, and what follows of what is computed of its text.
use Rattle.std.proofs.Common.{◌≡◌, ℕ, suc, List, [], ◌∷◌, map, length, is_some, Option, IsTrue, Bool, true}
use Rattle.std.proofs.Common.{false, ◌++◌, ◌∙◌, refl, ap, subst, sym}
use Rattle.std.specs.List.{AllByRecursion, list_all}
use Rattle.std.specs.declared.cmp.Ordering.{Ordering}
use Rattle.sqlite.specs.declared.types.Value.TheVariants.{Null}
use Rattle.sqlite.specs.Listing.{understood, reads_listing}
use Rattle.sqlite.specs.Order.{Row}
use Rattle.sqlite.specs.Program.{overlay}
use Rattle.sqlite.specs.Query.{Query, output, output_cmp}
use Rattle.sqlite.specs.Schema.{Schema}
use Rattle.sqlite.specs.State.{State, Begins, Shown}
use Rattle.sqlite.specs.Table.{Table}
use Rattle.sqlite.specs.Term.{Term, col, eval_all, holds}
use Rattle.sqlite.specs.Tree.{Trees}
use Rattle.sqlite.proofs.Callers.{IsPlain, command_of, begins_as}
use Rattle.sqlite_schema.specs.declared.schema.Column.{Column}
use Rattle.sqlite_trees.proofs.ListLemmas.{all_weaker}
use Rattle.sqlite_typing.specs.Types.{accepts_program}
use Rattle.sqlite_value.specs.Order.{column}
use Rattle.sqlite_value.specs.declared.keys.Key.{Key}
use Rattle.hall_policy.specs.declared.record.AnswerRow.{AnswerRow}
use Rattle.hall_policy.specs.declared.record.Entry.{Entry}
use Rattle.hall_policy.specs.declared.record.Person.{Person}
use Rattle.hall_policy.specs.declared.record.PlaceKey.{PlaceKey}
use Rattle.hall_policy.specs.declared.record.ProtestRow.{ProtestRow}
use Rattle.hall_policy.specs.declared.record.PuzzleRow.{PuzzleRow}
use Rattle.hall_policy.specs.declared.record.Round.{Round}
use Rattle.hall_policy.specs.declared.record.TesterKey.{TesterKey}
use Rattle.hall_sql.specs.AllRead.{AreAllRead, IsRead, is_record}
use Rattle.hall_sql.specs.Asked.{IsAsked, IsAskedIn, is_whole}
use Rattle.hall_sql.specs.Laws.{Is, IsCommand, select, terms_from}
use Rattle.hall_sql.specs.Rows.{answer_in, columns_from, person_in, place_in, protest_in, puzzle_row_in, round_in}
use Rattle.hall_sql.specs.Rows.{tester_in}
use Rattle.hall_sql.specs.Scan.{tree_of}
use Rattle.hall_sql.specs.Standing.{IsSelection}
use Rattle.hall_sql.specs.Statements.{names_of, plain_query, rising}
use Rattle.hall_sql.specs.Tables.{hall_schema, table_at}
use Rattle.hall_sql.specs.declared.tables.HallTable.{HallTable}
use Rattle.hall_sql.specs.declared.tables.HallTable.TheVariants.{People, Puzzles, Rounds, Places, Answers, Protests}
use Rattle.hall_sql.specs.declared.tables.HallTable.TheVariants.{Testers}
use Rattle.hall_sql.proofs.AskedLemmas.{asked as asked_as}
use Rattle.hall_sql.proofs.CallLemmas.{answers_selection}
use Rattle.hall_sql.proofs.Selections.{selected}
use Rattle.hall_sql.proofs.Wordings.{Wording, by_hall, hall_in}

-- ---- tables

-- what a row of the table is
abbrev pub RecordOf : HallTable → Type 0
RecordOf People = Person
RecordOf Puzzles = PuzzleRow
RecordOf Rounds = Round
RecordOf Places = PlaceKey × Entry
RecordOf Answers = AnswerRow
RecordOf Protests = ProtestRow
RecordOf Testers = TesterKey × Unit {0}

-- the record whose columns these are
abbrev pub record_in : (table : HallTable) → Row → Option (RecordOf table)
record_in People = person_in
record_in Puzzles = puzzle_row_in
record_in Rounds = round_in
record_in Places = place_in
record_in Answers = answer_in
record_in Protests = protest_in
record_in Testers = tester_in

-- how many columns it has, behind the rowid
abbrev pub width_of : HallTable → ℕ
width_of table = length (table_at table).columns

-- all of them
abbrev pub columns_of : HallTable → List Term
columns_of table = terms_from 1 1 (table_at table).columns

-- the record that a row of the table is
abbrev pub record_of : (table : HallTable) → Row → Option (RecordOf table)
record_of table row = record_in table (columns_from 1 (width_of table) row)

-- no table of a query's own hides it
pub apart : (table : HallTable) (db : Trees) → overlay db [] (tree_of table) ≡ db (tree_of table)
apart People db = refl
apart Puzzles db = refl
apart Rounds db = refl
apart Places db = refl
apart Answers db = refl
apart Protests db = refl
apart Testers db = refl

-- what holds of each tree of the hall's tables holds of this table's
pub in_table : (P : ℕ → Type 0) (table : HallTable) → AllByRecursion (λ (t : Table). P t.tree) hall_schema.tables
    → P (tree_of table)
in_table P People all = all.0
in_table P Puzzles all = all.1.0
in_table P Rounds all = all.1.1.0
in_table P Places all = all.1.1.1.0
in_table P Answers all = all.1.1.1.1.0
in_table P Protests all = all.1.1.1.1.1.0
in_table P Testers all = all.1.1.1.1.1.1.0

shown_from : (place : ℕ) (columns : List Column) (params row : Row)
    → eval_all (terms_from 1 place columns) (params ∷ row ∷ []) ≡ columns_from place (length columns) row
shown_from place [] params row = refl
shown_from place (one ∷ columns) params row =
    ap (λ values. column row place ∷ values) (shown_from (suc place) columns params row)

-- its terms show its columns
pub shows : (table : HallTable) (params row : Row)
    → eval_all (columns_of table) (params ∷ row ∷ []) ≡ columns_from 1 (width_of table) row
shows table = shown_from 1 (table_at table).columns

-- a row of the table is a record where it is read as one
pub is_read : (table : HallTable) (r : Row) → is_record (tree_of table) r ≡ is_some (record_of table r)
is_read People r = refl
is_read Puzzles r = refl
is_read Rounds r = refl
is_read Places r = refl
is_read Answers r = refl
is_read Protests r = refl
is_read Testers r = refl

-- where all of the hall's rows are records, those of the table are
pub are_read : (table : HallTable) (trees : Trees) → AreAllRead hall_schema trees
    → AllByRecursion (λ row. IsTrue (is_some (record_of table row))) (trees (tree_of table))
are_read table trees all =
    all_weaker (λ r. IsTrue (is_record (tree_of table) r)) (λ r. IsTrue (is_some (record_of table r)))
    (λ r is. sym (is_read table r) ∙ is) (trees (tree_of table)) (in_table (IsRead trees) table all)

-- ---- queries

-- a query of all columns of the table's rows that meet the terms, in the order of these columns
pub record TableQuery : Type 0 where
  pub table : HallTable
  pub text : List ℕ
  pub params : Row
  pub terms : List Term
  pub order : List ℕ

abbrev pub query : HallTable → List ℕ → Row → List Term → List ℕ → TableQuery
query table text params terms order =
    record { table = table; text = text; params = params; terms = terms; order = order }

abbrev pub order_of : TableQuery → List (Term × Key)
order_of q = map (λ number. (col 1 number, rising)) q.order

abbrev pub body_of : TableQuery → Query
body_of q = plain_query (tree_of q.table) q.terms (columns_of q.table) (order_of q)

-- WHERE: the row meets the terms
abbrev pub passes : TableQuery → Row → Bool
passes q row = list_all (holds (q.params ∷ row ∷ [])) q.terms

-- ORDER BY
abbrev pub by_order : TableQuery → Row → Row → Ordering
by_order q a b =
    output_cmp (body_of q) (output (body_of q) (q.params ∷ a ∷ [])) (output (body_of q) (q.params ∷ b ∷ []))

-- What is computed of its text over a schema: it is the query, and may be asked with these parameters. Each of these is
-- `refl` where the text and the shape of the parameters are known, and all else that is said of the query follows.
pub record Computes (q : TableQuery) (schema : Schema) : Type 0 where
  pub is : command_of (understood schema q.text) ≡ select q.table q.terms q.order
  pub unlisted : reads_listing schema q.text ≡ false
  pub plain : IsPlain (understood schema q.text)
  pub whole : is_whole q.text (length q.params) (understood schema q.text) ≡ true
  pub typed : accepts_program schema [] (body_of q) q.params ≡ true

module _ {q : TableQuery} {schema : Schema} (computes : Computes q schema) where
  -- it may be asked over the schema
  pub asked_in : IsAskedIn q.text q.params schema
  asked_in =
      asked_as q.text q.params (tree_of q.table) q.terms (columns_of q.table) (order_of q) (names_of q.table)
      computes.is computes.unlisted computes.plain computes.whole computes.typed

  -- and is the command that the law says
  pub command_in : IsCommand schema q.text (length q.params) (select q.table q.terms q.order)
  command_in = record { is = computes.is; plain = computes.plain; whole = computes.whole }

  -- what it answers is a selection of the table's rows
  pub selection : (old new : State) (rows : List Row) → old.now.schema ≡ schema → Shown q.text q.params old new rows
      → IsSelection (body_of q) (old.now.trees (tree_of q.table)) q.params rows
  selection old new rows has =
      answers_selection q.text q.params old new (tree_of q.table) q.terms (columns_of q.table) (order_of q)
      (names_of q.table) computes.is computes.unlisted computes.plain (apart q.table old.now.trees) has rows

  -- the rows with which its answer begins are the first of these
  pub begun : (at : State) (rows : List Row) → at.now.schema ≡ schema → Begins q.text q.params at rows
      → (left : List Row) × IsSelection (body_of q) (at.now.trees (tree_of q.table)) q.params (rows ++ left)
  begun at rows has begins =
      let it = begins_as q.text q.params at at schema has _ computes.is computes.plain computes.unlisted rows begins
      in (
        it.1.0,
        subst (λ t. IsSelection (body_of q) t q.params (rows ++ it.1.0)) (apart q.table at.now.trees)
            (selected (tree_of q.table) q.terms (columns_of q.table) (order_of q) (overlay at.now.trees []) q.params
            (rows ++ it.1.0) (it.1.1 Null)),
      )

-- so it is over a hall's tables in any words
module _ {q : TableQuery} (computes : (u : Wording) → Computes q (hall_in u)) where
  pub asked : IsAsked q.text q.params
  asked = by_hall (IsAskedIn q.text q.params) (λ u. asked_in (computes u))

  pub law : Is q.text (length q.params) (select q.table q.terms q.order)
  law =
      by_hall (λ schema. IsCommand schema q.text (length q.params) (select q.table q.terms q.order))
      (λ u. command_in (computes u))
