-- Tables of which each row is a record: what is asked of them, what one row more leaves, and tables with no row.
use Rattle.std.proofs.Common.{◌≡◌, ◌≢◌, ◌⊎◌, ◌==◌, ◌++◌, inl, inr, ℕ, List, [], ◌∷◌, map, flat_map, true, is_some}
use Rattle.std.proofs.Common.{option_to_list, Option, Some, None, IsTrue, refl, sym, ap, subst, ◌∙◌}
use Rattle.std.proofs.lemmas.Bool.{cases_Bool}
use Rattle.std.specs.Cmp.{IsTotalOrder}
use Rattle.std.specs.FinMap.{empty, from_entries, get, get-empty, get-from_entries}
use Rattle.std.specs.List.{AllByRecursion}
use Rattle.std.specs.List.Sorted.{IsPermutation}
use Rattle.std.specs.declared.cmp.Ordering.{Ordering}
use Rattle.std.proofs.lemmas.List.Sorted.{IsPermutation-sym}
use Rattle.sqlite_trees.proofs.ListLemmas.{all-map, all-permutation, all_from_map, all_of, all_weaker, filter_all}
use Rattle.sqlite_trees.specs.Tree.{put_row}
use Rattle.sqlite_rules.specs.Edit.{next_rowid}
use Rattle.sqlite.specs.declared.types.Value.TheVariants.{Int}
use Rattle.sqlite.specs.Effect.{Database}
use Rattle.sqlite.specs.Order.{Row}
use Rattle.sqlite.specs.Schema.{Schema}
use Rattle.sqlite.specs.State.{State, HasCleanDisk, Shown}
use Rattle.sqlite.specs.Table.{Table}
use Rattle.sqlite.specs.Tree.{Trees}
use Rattle.hall_policy.proofs.Orders.{text_total, puzzle_total, place_total, answer_total, protest_total, tester_total}
use Rattle.hall_policy.specs.World.{World}
use Rattle.hall_policy.specs.declared.record.Person.{Person}
use Rattle.hall_policy.specs.declared.record.PuzzleRow.{PuzzleRow}
use Rattle.hall_policy.specs.declared.record.Round.{Round}
use Rattle.hall_policy.specs.declared.record.AnswerRow.{AnswerRow}
use Rattle.hall_policy.specs.declared.record.ProtestRow.{ProtestRow}
use Rattle.hall_store.specs.Maps.{empty_world}
use Rattle.hall_sql.specs.AllRead.{AreAllRead, IsRead, StaysRead, is_record}
use Rattle.hall_sql.specs.Cause.{IsStoreCause, ReadFails}
use Rattle.hall_sql.specs.Rows.{answer_of_row, columns_from, entry, kept, person_of_row, place_of_row, protest_of_row}
use Rattle.hall_sql.specs.Rows.{puzzle_of_row, round_of_row, tester_of_row, world_of}
use Rattle.hall_sql.specs.Standing.{HasAdded, IsBareLike, IsOver, IsSelection, KeptAnyTables}
use Rattle.hall_sql.specs.declared.people.TheConstants.{ALL_PEOPLE}
use Rattle.hall_sql.specs.declared.puzzles.TheConstants.{ALL_PUZZLES}
use Rattle.hall_sql.specs.declared.rounds.TheConstants.{ALL_PLACES, ALL_ROUNDS}
use Rattle.hall_sql.specs.declared.answers.TheConstants.{ALL_ANSWERS}
use Rattle.hall_sql.specs.declared.protests.TheConstants.{ALL_PROTESTS}
use Rattle.hall_sql.specs.declared.testers.TheConstants.{ALL_TESTERS}
use Rattle.hall_sql.specs.Tables.{IsHallSchema, IsLike, hall_schema}
use Rattle.hall_sql.specs.Versions.{HasTable, IsAnyHall}
use Rattle.hall_sql.specs.Whole.{AreRecords}
use Rattle.hall_sql.proofs.AnswerTexts.{all_answers_are}
use Rattle.hall_sql.proofs.CallLemmas.{shown_was_open}
use Rattle.hall_sql.proofs.InsertLemmas.{put_permutes}
use Rattle.hall_sql.proofs.KeyedLemmas.{other_tree, same_tree}
use Rattle.hall_sql.proofs.PeopleTexts.{all_people_are}
use Rattle.hall_sql.proofs.ProtestTexts.{all_protests_are}
use Rattle.hall_sql.proofs.PuzzleTexts.{all_puzzles_are}
use Rattle.hall_sql.proofs.RoundQueries.{all_places_are}
use Rattle.hall_sql.proofs.RoundTexts.{all_rounds_are}
use Rattle.hall_sql.proofs.SparedLemmas.{own_key}
use Rattle.hall_sql.proofs.TesterTexts.{all_testers_are}
use Rattle.hall_sql.proofs.UnreadRows.{some_unread}
use Rattle.hall_sql.proofs.Queries.{Computes, body_of, is_read, query, record_in, selection, shows, width_of}
use Rattle.hall_sql.specs.Scan.{tree_of}
use Rattle.hall_sql.specs.declared.tables.HallTable.{HallTable}
use Rattle.hall_sql.specs.declared.tables.HallTable.TheVariants.{People, Puzzles, Rounds, Places, Answers, Protests}
use Rattle.hall_sql.specs.declared.tables.HallTable.TheVariants.{Testers}

-- ---- what is asked of them

-- rows that read as records are read, each
all_some : {X : Type 0} (read : Row → Option X) (rows : List Row) (out : List X) → map read rows ≡ map Some out
    → AllByRecursion (λ r. IsTrue (is_some (read r))) rows
all_some read [] out is = tt
all_some read (r ∷ rows) [] is = absurd cc
all_some read (r ∷ rows) (x ∷ out) is =
    let here : read r ≡ Some x = cc in
    let more : map read rows ≡ map Some out = cc in
    (ap is_some here, all_some read rows out more)

-- the statement that asks for all rows of the table, and its order
abbrev pub all_text : HallTable → List ℕ
all_text People = ALL_PEOPLE.now
all_text Puzzles = ALL_PUZZLES.now
all_text Rounds = ALL_ROUNDS.now
all_text Places = ALL_PLACES.now
all_text Answers = ALL_ANSWERS.now
all_text Protests = ALL_PROTESTS.now
all_text Testers = ALL_TESTERS.now

abbrev all_order : HallTable → List ℕ
all_order People = 1 ∷ []
all_order Puzzles = 1 ∷ 2 ∷ []
all_order Rounds = 1 ∷ []
all_order Places = 1 ∷ 2 ∷ []
all_order Answers = 1 ∷ 2 ∷ 3 ∷ 4 ∷ []
all_order Protests = 1 ∷ 2 ∷ 3 ∷ []
all_order Testers = 1 ∷ 2 ∷ []

asks : (table : HallTable) (schema : Schema) → HasTable schema table
    → Computes (query table (all_text table) [] [] (all_order table)) schema
asks People = all_people_are
asks Puzzles = all_puzzles_are
asks Rounds = all_rounds_are
asks Places = all_places_are
asks Answers = all_answers_are
asks Protests = all_protests_are
asks Testers = all_testers_are

module _ (table : HallTable) (old new : State) (clean : HasCleanDisk old)
    (over : IsOver (λ schema. HasTable schema table) old) where
  abbrev Reads : Row → Type 0
  Reads r = IsTrue (is_some (record_in table r))

  abbrev IsOne : Row → Type 0
  IsOne r = IsTrue (is_record (tree_of table) r)

  module _ (rows : List Row) (shown : Shown (all_text table) [] old new rows) where
    like : IsLike over.schema old.now.schema
    like = (over.tabled.settled clean (shown_was_open (all_text table) [] old new rows shown)).1

    sel : IsSelection (body_of (query table (all_text table) [] [] (all_order table)))
        (old.now.trees (tree_of table)) [] rows
    sel = selection (asks table old.now.schema (over.fits old.now.schema like)) old new rows refl shown

    same : IsPermutation (old.now.trees (tree_of table)) sel.found
    same = subst (λ l. IsPermutation l sel.found) (filter_all (λ _. true) (old.now.trees (tree_of table))
        (all_of (λ _. true ≡ true) (λ _. refl) _)) sel.same

    shown_are : rows ≡ map (columns_from 1 (width_of table)) sel.found
    shown_are = sel.shown ∙ (λ i. map (λ r. shows table [] r i) sel.found)

    to_table : AllByRecursion Reads rows → IsRead old.now.trees (tree_of table)
    to_table each =
        let found = all_from_map Reads (columns_from 1 (width_of table)) sel.found
        (subst (AllByRecursion Reads) shown_are each) in
        all-permutation IsOne sel.found (old.now.trees (tree_of table)) (IsPermutation-sym _ _ same)
        (all_weaker (λ r. Reads (columns_from 1 (width_of table) r)) IsOne (λ r h. is_read table r ∙ h) sel.found found)

    from_table : IsRead old.now.trees (tree_of table) → AllByRecursion Reads rows
    from_table each =
        let found = all-permutation IsOne (old.now.trees (tree_of table)) sel.found same each in
        subst (AllByRecursion Reads) (sym shown_are)
        (all-map Reads (columns_from 1 (width_of table)) sel.found
        (all_weaker IsOne (λ r. Reads (columns_from 1 (width_of table) r)) (λ r h. sym (is_read table r) ∙ h) sel.found
        found))

  -- where all that it answers are records, each row of the table is one
  pub read_all : AreRecords (record_in table) (all_text table) [] old new → IsRead old.now.trees (tree_of table)
  read_all it = to_table it.rows it.shown (all_some (record_in table) it.rows it.records it.reads)

  -- where it fails, the cause lies in the store, or a row of the table is no record
  pub read_fails : ReadFails (record_in table) (all_text table) [] old new → IsStoreCause old new
      ⊎ (¬ IsRead old.now.trees (tree_of table))
  read_fails (inl cause) = inl cause
  read_fails (inr it) = inr (λ each. some_unread (record_in table) it.0 it.2 (from_table it.0 it.1 each))

-- a table that rests was read before, where it is
pub read_before : (tree : ℕ) (old new : State) → IsAnyHall old → KeptAnyTables old new → HasCleanDisk new
    → IsTrue new.is_open
    → IsRead new.now.trees tree → IsRead old.now.trees tree
read_before tree old new hall rested clean opens =
    subst (λ (d : Database). IsRead d.trees tree) ((rested hall.schema hall.tabled).same clean opens)

-- ---- one row more

read_after : (tree : ℕ) (old new : Trees) (tables : List Table) → IsRead new tree
    → AllByRecursion (λ (t : Table). t.tree ≢ tree → new t.tree ≡ old t.tree) tables
    → AllByRecursion (λ (t : Table). IsRead old t.tree) tables → AllByRecursion (λ (t : Table). IsRead new t.tree)
    tables
read_after tree old new [] here others each = tt
read_after tree old new (t ∷ tables) here others each = (
  elim (cases_Bool (t.tree == tree)) [
    | inl is ↦ subst (IsRead new) (sym (same_tree t.tree tree is)) here
    | inr differs ↦ subst (AllByRecursion (λ r. IsTrue (is_record t.tree r)))
        (sym (others.0 (other_tree t.tree tree differs))) each.0
  ],
  read_after tree old new tables here others.1 each.1,
)

-- a row that is a record was added to a table of which each row was one
pub added_read : (tree : ℕ) (values : Row) (old new : Database) → HasAdded hall_schema tree values old new
    → IsTrue (is_record tree (Int (next_rowid (old.trees tree)) ∷ values))
    → (AreAllRead hall_schema old.trees → IsRead old.trees tree) → StaysRead old new
added_read tree values old new it own before each =
    let row = Int (next_rowid (old.trees tree)) ∷ values in
    let P = λ (r : Row). IsTrue (is_record tree r) in
    let here : IsRead new.trees tree = subst (AllByRecursion P) (sym it.put)
    (all-permutation P (row ∷ old.trees tree) (put_row row (old.trees tree)) (put_permutes row (old.trees tree) it.free)
    (own, before each)) in
    read_after tree old.trees new.trees hall_schema.tables here it.others each

-- ---- no row

module _ {K X : Type 0} {R : K → K → Ordering} (total : IsTotalOrder R) where
  -- a map with an entry in front is not empty
  not_none : (k : K) (x : X) (es : List (K × X)) → from_entries {R = R} ((k, x) ∷ es) ≡ empty → ⊥
  not_none k x es none =
      let there : get (from_entries {R = R} ((k, x) ∷ es)) k ≡ Some x = get-from_entries total ((k, x) ∷ es) k
      ∙ rw (own_key total k) refl in
      let no : None ≡ Some x = sym (get-empty R k) ∙ ap (λ m. get m k) (sym none) ∙ there in cc

  none_kept : (key : X → K) (read : Row → Option X) (rows : List Row) → kept R key read rows ≡ empty
      → AllByRecursion (λ r. IsTrue (is_some (read r))) rows → rows ≡ []
  none_kept key read [] none each = refl
  none_kept key read (r ∷ rows) none each = absurd (go (read r) refl each.0)
    where
      go : (o : Option X) → read r ≡ o → IsTrue (is_some o) → ⊥
      go None is some = absurd cc
      go (Some x) is some =
          not_none (key x) x (flat_map (λ r. entry key (read r)) rows)
          (subst (λ o. from_entries {R = R} (entry key o ++ flat_map (λ r. entry key (read r)) rows) ≡ empty) is none)

  none_listed : (read : Row → Option (K × X)) (rows : List Row)
      → from_entries {R = R} (flat_map (λ r. option_to_list (read r)) rows) ≡ empty
      → AllByRecursion (λ r. IsTrue (is_some (read r))) rows → rows ≡ []
  none_listed read [] none each = refl
  none_listed read (r ∷ rows) none each = absurd (go (read r) refl each.0)
    where
      go : (o : Option (K × X)) → read r ≡ o → IsTrue (is_some o) → ⊥
      go None is some = absurd cc
      go (Some e) is some =
          not_none e.0 e.1 (flat_map (λ r. option_to_list (read r)) rows)
          (subst (λ o. from_entries {R = R} (option_to_list o ++ flat_map (λ r. option_to_list (read r)) rows) ≡ empty)
          is none)

-- tables that hold nothing, and no row that is no record, have no row
pub all_bare : (held : Database) → IsHallSchema held.schema → world_of held.trees ≡ empty_world
    → AreAllRead hall_schema held.trees → IsBareLike hall_schema held
all_bare held has none each = record {
  is = has;
  empty =
      let n0 = none_kept text_total (λ (p : Person). p.name) person_of_row (held.trees 0)
      (ap (λ (w : World). w.people) none) each.0 in
      let n1 = none_kept puzzle_total (λ (p : PuzzleRow). p.key) puzzle_of_row (held.trees 3)
      (ap (λ (w : World). w.puzzles) none) each.1.0 in
      let n2 = none_kept text_total (λ (r : Round). r.id) round_of_row (held.trees 5)
      (ap (λ (w : World). w.rounds) none) each.1.1.0 in
      let n3 = none_listed place_total place_of_row (held.trees 7) (ap (λ (w : World). w.places) none) each.1.1.1.0 in
      let n4 = none_kept answer_total (λ (a : AnswerRow). a.key) answer_of_row (held.trees 9)
      (ap (λ (w : World). w.answers) none) each.1.1.1.1.0 in
      let n5 = none_kept protest_total (λ (p : ProtestRow). p.key) protest_of_row (held.trees 12)
      (ap (λ (w : World). w.protests) none) each.1.1.1.1.1.0 in
      let n6 = none_listed tester_total tester_of_row (held.trees 14) (ap (λ (w : World). w.testers) none)
      each.1.1.1.1.1.1.0 in
      (n0, (n1, (n2, (n3, (n4, (n5, (n6, tt)))))));
}

-- and tables that have none hold no row that is no record
pub bare_read : (held : Database) → IsBareLike hall_schema held → AreAllRead hall_schema held.trees
bare_read held bare =
    let all = bare.empty in
    rw (all.0, all.1.0, all.1.1.0, all.1.1.1.0, all.1.1.1.1.0, all.1.1.1.1.1.0, all.1.1.1.1.1.1.0)
    (tt, (tt, (tt, (tt, (tt, (tt, (tt, tt)))))))
