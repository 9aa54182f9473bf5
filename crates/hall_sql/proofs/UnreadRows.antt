-- Where a query of the hall's shows a row that is no record, a row of its table is none; and one by a key shows at most
-- one row.
use Rattle.std.proofs.Common.{◌≡◌, ◌≤◌, inr, ℕ, List, [], ◌∷◌, ◌++◌, map, filter, length, is_some, true}
use Rattle.std.proofs.Common.{false}
use Rattle.std.proofs.Common.{Option, Some, IsTrue, refl, sym, ap, subst, ◌∙◌, arith}
use Rattle.std.proofs.lemmas.List.{length-map}
use Rattle.std.proofs.lemmas.List.Sorted.{length_permutation}
use Rattle.std.proofs.lemmas.Option.{slice_get-get_or}
use Rattle.std.specs.List.{AllByRecursion}
use Rattle.sqlite_trees.proofs.ListLemmas.{all-filter, all-map, all-permutation, all-slice_get}
use Rattle.sqlite_trees.specs.declared.store.Store.{Ghosts}
use Rattle.sqlite_value.specs.Keys.{first_key}
use Rattle.sqlite.specs.declared.types.Value.TheVariants.{Text}
use Rattle.sqlite.specs.Effect.{Database, IsDatabase}
use Rattle.sqlite.specs.Held.{state}
use Rattle.sqlite.specs.Order.{Row}
use Rattle.sqlite.specs.Schema.{Schema}
use Rattle.sqlite.specs.State.{State, Begins, Shown}
use Rattle.sqlite.specs.Tree.{Trees}
use Rattle.hall_policy.specs.declared.record.AnswerKey.{AnswerKey}
use Rattle.hall_policy.specs.declared.record.ProtestKey.{ProtestKey}
use Rattle.hall_policy.specs.declared.record.PuzzleKey.{PuzzleKey}
use Rattle.hall_sql.specs.AllRead.{AreAllRead}
use Rattle.hall_sql.specs.Asked.{AsksOne}
use Rattle.hall_sql.specs.Cause.{IsAnyUnread}
use Rattle.hall_sql.specs.Inside.{IsHallData}
use Rattle.hall_sql.specs.Rows.{columns_from, person_in}
use Rattle.hall_sql.specs.Scan.{tree_of}
use Rattle.hall_sql.specs.Standing.{AreKeyed, IsSelection}
use Rattle.hall_sql.specs.Statements.{above}
use Rattle.hall_sql.specs.Tables.{IsHallSchema, hall_schema}
use Rattle.hall_sql.specs.declared.answers.TheConstants.{ANSWER}
use Rattle.hall_sql.specs.declared.people.TheConstants.{PEOPLE_AFTER, PERSON, PERSON_BY_KEY}
use Rattle.hall_sql.specs.declared.protests.TheConstants.{PROTEST}
use Rattle.hall_sql.specs.declared.puzzles.TheConstants.{PUZZLE}
use Rattle.hall_sql.specs.declared.rounds.TheConstants.{HEAD}
use Rattle.hall_sql.specs.declared.tables.HallTable.TheVariants.{Answers, People, Protests, Puzzles, Rounds}
use Rattle.hall_sql.proofs.AnswerTexts.{answer, answer_is}
use Rattle.hall_sql.proofs.HeadTexts.{head_is}
use Rattle.hall_sql.proofs.OneRow.{AreUnique, has_key, one_passes}
use Rattle.hall_sql.proofs.PeopleTexts.{name_order, people_after, people_after_is, person_by_key_is, person_columns}
use Rattle.hall_sql.proofs.PeopleTexts.{person_is}
use Rattle.hall_sql.proofs.FirstRows.{all_first, first_shown}
use Rattle.hall_store.specs.Store.{people_at_once}
use Rattle.hall_sql.proofs.ProtestTexts.{protest, protest_is}
use Rattle.hall_sql.proofs.PuzzleTexts.{puzzle, puzzle_is}
use Rattle.hall_sql.proofs.Queries.{Computes, TableQuery, are_read, begun, body_of, in_table, passes, record_in}
use Rattle.hall_sql.proofs.Queries.{record_of, selection, shows, width_of}
use Rattle.hall_sql.proofs.Versions.{own_keys, unique_in}
use Rattle.hall_sql.proofs.Wordings.{Wording, hall_in, hall_like, worded}
use Rattle.hall_sql.specs.Versions.{IsVersion}

-- over the tables of a hall, a row that the query shows and that is no record is one of theirs
abbrev pub TellsUnread : {X : Type 0} → (Row → Option X) → List ℕ → Row → Type 1
TellsUnread read sql params =
    (old new : State) (rows : List Row) → IsHallSchema old.now.schema → Shown sql params old new rows
    → IsAnyUnread read rows
    → ¬ (AreAllRead hall_schema old.now.trees)

-- so is one with which its answer begins
abbrev pub BeginsUnread : {X : Type 0} → (Row → Option X) → List ℕ → Row → Type 1
BeginsUnread read sql params =
    (old : State) (rows : List Row) → IsHallSchema old.now.schema → Begins sql params old rows → IsAnyUnread read rows
    → ¬ (AreAllRead hall_schema old.now.trees)

-- over tables of a hall that obey their rules, it shows one row at most
abbrev pub TellsOne : List ℕ → Row → Type 1
TellsOne sql params =
    (old new : State) (rows : List Row) → IsHallData old.now → IsDatabase old.now → Shown sql params old new rows
    → length rows ≤ 1

-- so it asks for one
pub asks_one : {S : Type 0} (g : Ghosts S) (sql : List ℕ) (params : Row) → TellsOne sql params → AsksOne g sql params
asks_one g sql params tells old new rows hall sound shown = tells (state g old) (state g new) rows hall sound shown

-- not each row is a record where one is none
pub some_unread : {X : Type 0} (read : Row → Option X) (rows : List Row) → IsAnyUnread read rows
    → ¬ (AllByRecursion (λ r. IsTrue (is_some (read r))) rows)
some_unread read rows it each =
    let at = it.1 in
    let reads : IsTrue (is_some (read it.0)) =
    all-slice_get (λ r. IsTrue (is_some (read r))) rows at.0 it.0 (slice_get-get_or rows at.0 it.0 at.1 ∙ ap Some at.2)
    each in
    absurd (let no : false ≡ true = sym (ap is_some it.2) ∙ reads in cc)

abbrev Reads : {X : Type 0} → (Row → Option X) → Row → Type 0
Reads read r = IsTrue (is_some (read r))

-- where each row of the table is a record, so is each that is selected
all_selected : (q : TableQuery) (trees : Trees) (rows : List Row)
    → IsSelection (body_of q) (trees (tree_of q.table)) q.params rows
    → AreAllRead hall_schema trees → AllByRecursion (Reads (record_in q.table)) rows
all_selected q trees rows sel all =
    let Whole = Reads (record_of q.table) in
    let kept = all-filter Whole (passes q) (trees (tree_of q.table)) (are_read q.table trees all) in
    let found = all-permutation Whole (filter (passes q) (trees (tree_of q.table))) sel.found sel.same kept in
    subst (AllByRecursion (Reads (record_in q.table)))
    (sym (sel.shown ∙ (λ i. map (λ r. shows q.table q.params r i) sel.found)))
    (all-map (Reads (record_in q.table)) (columns_from 1 (width_of q.table)) sel.found found)

all-front : (P : Row → Type 0) (front rest : List Row) → AllByRecursion P (front ++ rest) → AllByRecursion P front
all-front P [] rest each = tt
all-front P (r ∷ front) rest each = (each.0, all-front P front rest each.1)

-- a query of a table's rows
module _ {q : TableQuery} (computes : (u : Wording) → Computes q (hall_in u)) where
  chosen : (old new : State) (rows : List Row) → IsHallSchema old.now.schema → Shown q.text q.params old new rows
      → IsSelection (body_of q) (old.now.trees (tree_of q.table)) q.params rows
  chosen old new rows has shown =
      let (u, words) = worded old.now.schema has in
      selection (computes u) old new rows words shown

  pub unread : TellsUnread (record_in q.table) q.text q.params
  unread old new rows has shown any all =
      some_unread (record_in q.table) rows any (all_selected q old.now.trees rows (chosen old new rows has shown) all)

  pub begins_unread : BeginsUnread (record_in q.table) q.text q.params
  begins_unread old rows has begins any all =
      let (u, words) = worded old.now.schema has in
      let it = begun (computes u) old rows words begins in
      some_unread (record_in q.table) rows any
      (all-front (Reads (record_in q.table)) rows it.0 (all_selected q old.now.trees (rows ++ it.0) it.1 all))

  -- as many rows are shown as pass: one at most, where they are asked for by a key
  pub one_shown : (places asked : List ℕ) → ((row : Row) → passes q row ≡ has_key places asked q.params row)
      → ((db : Database) → IsHallSchema db.schema → IsDatabase db → AreUnique places (db.trees (tree_of q.table)))
      → TellsOne q.text q.params
  one_shown places asked agrees unique old new rows hall sound shown =
      let table = old.now.trees (tree_of q.table) in
      let sel = chosen old new rows hall.schema shown in
      let same : length rows ≡ length sel.found = ap length sel.shown ∙ length-map sel.found _ in
      let passed = length_permutation (filter (passes q) table) sel.found sel.same in
      let few = one_passes places asked q.params (passes q) agrees table
      (in_table (λ tree. AreKeyed (old.now.trees tree)) q.table hall.keyed) (unique old.now hall.schema sound) in
      omega (arith, few, same, passed)

-- one that lists a table of either version
pub all_unread : {q : TableQuery} → ((schema : Schema) → IsVersion schema → Computes q schema)
    → TellsUnread (record_in q.table) q.text q.params
all_unread computes = unread (λ u. computes (hall_in u) (inr (hall_like u)))

-- one that answers the first of these rows
pub people_after_unread : (name : List ℕ) → TellsUnread person_in PEOPLE_AFTER.now (Text name ∷ [])
people_after_unread name old new rows has shown any all =
    let (u, words) = worded old.now.schema has in
    let first = first_shown people_at_once 0 (above 1 0 ∷ []) person_columns name_order PEOPLE_AFTER.now
    (Text name ∷ []) _ (people_after_is u).0 (people_after_is u).1 (people_after_is u).2 old new rows refl words
    shown in
    some_unread person_in rows any (subst (AllByRecursion (Reads person_in)) (sym first.2)
    (all_first (Reads person_in) people_at_once first.0
    (all_selected (people_after name) old.now.trees first.0 first.1 all)))

-- ---- by a key

pub person_one : (name : List ℕ) → TellsOne PERSON.now (Text name ∷ [])
unfolding first_key
person_one name =
    one_shown (person_is name) (1 ∷ []) (0 ∷ []) (λ row. refl)
    (λ db has sound. unique_in db.schema People db.trees (inr has) sound)

pub person_by_key_one : (key : List ℕ) → TellsOne PERSON_BY_KEY.now (Text key ∷ [])
unfolding first_key
person_by_key_one key =
    one_shown (person_by_key_is key) (2 ∷ []) (0 ∷ []) (λ row. refl)
    (λ db has sound. own_keys db.schema db.trees has sound)

pub puzzle_one : (key : PuzzleKey) → TellsOne PUZZLE.now (puzzle key).params
unfolding first_key
puzzle_one key =
    one_shown (puzzle_is key) (1 ∷ 2 ∷ []) (0 ∷ 1 ∷ []) (λ row. refl)
    (λ db has sound. unique_in db.schema Puzzles db.trees (inr has) sound)

pub head_one : (id : List ℕ) → TellsOne HEAD.now (Text id ∷ [])
unfolding first_key
head_one id =
    one_shown (head_is id) (1 ∷ []) (0 ∷ []) (λ row. refl)
    (λ db has sound. unique_in db.schema Rounds db.trees (inr has) sound)

pub answer_one : (key : AnswerKey) → TellsOne ANSWER.now (answer key).params
unfolding first_key
answer_one key =
    one_shown (answer_is key) (1 ∷ 2 ∷ 3 ∷ 4 ∷ []) (0 ∷ 1 ∷ 2 ∷ 3 ∷ []) (λ row. refl)
    (λ db has sound. unique_in db.schema Answers db.trees (inr has) sound)

pub protest_one : (key : ProtestKey) → TellsOne PROTEST.now (protest key).params
unfolding first_key
protest_one key =
    one_shown (protest_is key) (1 ∷ 2 ∷ 3 ∷ []) (0 ∷ 1 ∷ 2 ∷ []) (λ row. refl)
    (λ db has sound. unique_in db.schema Protests db.trees (inr has) sound)
