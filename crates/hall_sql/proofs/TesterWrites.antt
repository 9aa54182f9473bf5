-- What the statements that write the testers of a round leave.
use Rattle.std.proofs.Common.{◌≡◌, ◌<◌, ◌+◌, ℕ, List, [], ◌∷◌, ◌++◌, length, map, flat_map, take, get_or}
use Rattle.std.proofs.Common.{option_to_list, AllPairs, Contains, true, not, cond, Some, None, Ok, IsTrue, refl, sym}
use Rattle.std.proofs.Common.{ap, subst, ◌∙◌}
use Rattle.std.proofs.lemmas.List.{take_more}
use Rattle.std.specs.FinMap.{FinMap, from_entries, get, insert, get-retain_keys}
use Rattle.sqlite.specs.declared.types.Value.TheVariants.{Int, Text}
use Rattle.sqlite_value.specs.Order.{column}
use Rattle.sqlite_trees.specs.Tree.{rowid}
use Rattle.sqlite_trees.proofs.ListLemmas.{map-map}
use Rattle.sqlite_rules.specs.Calls.{ids_of}
use Rattle.sqlite_rules.specs.Edit.{next_rowid, id_in, without_all}
use Rattle.sqlite.specs.Order.{Row}
use Rattle.sqlite.specs.Term.{col, eval_all}
use Rattle.sqlite.specs.Effect.{Database}
use Rattle.sqlite.specs.State.{State, Executes}
use Rattle.sqlite.proofs.Callers.{runs_as}
use Rattle.hall_policy.specs.Text.{is_word_byte}
use Rattle.hall_policy.specs.World.{World, tester_cmp, same_text}
use Rattle.hall_policy.specs.Ranges.{IsRoundId, IsName}
use Rattle.hall_policy.specs.declared.record.TesterKey.{TesterKey}
use Rattle.hall_policy.proofs.Lists.{any_contained, clash_found}
use Rattle.hall_policy.proofs.Maps.{get-insert_other}
use Rattle.hall_policy.proofs.Orders.{tester_total, same_tester_keys}
use Rattle.hall_policy.proofs.Reading.{kind_holds}
use Rattle.hall_store.specs.Change.{without_testers_of, with_testers}
use Rattle.hall_store.proofs.Tests.{contained, later}
use Rattle.hall_sql.specs.Tables.{IsHallSchema, hall_schema}
use Rattle.hall_sql.specs.declared.tables.HallTable.TheVariants.{Testers}
use Rattle.hall_sql.proofs.Wordings.{hall_in, table_in, worded}
use Rattle.hall_sql.specs.declared.testers.TheConstants.{DROP_TESTERS, ADD_TESTER}
use Rattle.hall_sql.specs.Values.{name_in}
use Rattle.hall_sql.specs.RoundColumns.{tester_params, is_under}
use Rattle.hall_sql.specs.Rows.{tester_of_row, world_of}
use Rattle.hall_sql.specs.Spared.{is_tester_of}
use Rattle.hall_sql.specs.Standing.{AreKeyed}
use Rattle.hall_sql.specs.Inside.{IsHallData, MakesInside}
use Rattle.hall_sql.specs.RoundPuts.{DropsTesters, tester_key, with_tester_row, with_tester_rows, PutsTester}
use Rattle.hall_sql.specs.RoundPuts.{HasNoTesters, PutsTesters, PutsTesterList, without_rows}
use Rattle.hall_sql.proofs.ColumnLemmas.{kind_column, column_same, and_true}
use Rattle.hall_sql.proofs.DeleteLemmas.{deletes}
use Rattle.hall_sql.proofs.EntryLemmas.{put_entry, cut_entries, cut_rows, inserts_swapped}
use Rattle.hall_sql.proofs.AddLemmas.{IsInsert, row_added, added_spares}
use Rattle.hall_sql.proofs.AloneLemmas.{alone_world}
use Rattle.hall_sql.proofs.InsideLemmas.{did_none, did_then}
use Rattle.hall_sql.proofs.KeyedLemmas.{keyed_after, keyed_filter}
use Rattle.hall_sql.specs.Statements.{equals}
use Rattle.hall_sql.proofs.PlaceWrites.{same_itself}
use Rattle.hall_sql.proofs.SparedLemmas.{dropped_spared, alone_spared, same_spared, then_spared}
use Rattle.hall_sql.proofs.TesterTexts.{testers_apart, testers_restricted, drop_testers_is, added_terms, add_tester_is}
use Rattle.hall_sql.proofs.WriteLemmas.{cast_null}
use Rattle.hall_sql.proofs.RecordParts.{tester_parts_of}

-- ---- what a row of the table says

-- WHERE round = ?1 asks for the round
agrees : (id : List ℕ) (r : Row) (tester : TesterKey × Unit {0}) → tester_of_row r ≡ Some tester
    → is_under id r ≡ same_text tester.0.round id
agrees id r tester is =
    let round = kind_column 1 24 is_word_byte (column r 1) tester.0.round
    (tester_parts_of (name_in (column r 1)) (name_in (column r 2)) tester is).round in
    and_true _ ∙ column_same (column r 1) tester.0.round id round

-- ---- the statements

adds : (id name : List ℕ) → IsInsert Testers ADD_TESTER.now (tester_params id name)
adds id name = record {
  at = 6;
  terms = added_terms;
  width = 3;
  there = λ u. refl;
  is = add_tester_is;
  source = refl;
  casts = rw cast_null;
}

module _ (id : List ℕ) (old new : State) (count : ℕ) (held : IsHallData old.now) where
  -- the DELETE of the testers of a round
  pub testers_dropped : Executes DROP_TESTERS.now (Text id ∷ []) old new (Ok count) → IsHallData new.now
      × DropsTesters id old.now new.now
  testers_dropped ran =
      let given = Text id ∷ [] in
      let keyed = held.keyed.1.1.1.1.1.1.0 in
      let rows = old.now.trees 14 in
      let (u, words) = worded old.now.schema held.schema in
      let w = runs_as DROP_TESTERS.now given old new (hall_in u) words _ (drop_testers_is u).0 (drop_testers_is u).1
      count ran in
      let it = deletes (hall_in u) (table_in u Testers) (equals 1 0 ∷ []) testers_apart (testers_restricted u) 6 refl
      given old new _ count words w in
      let ids : ids_of (map (λ r. eval_all (col 1 0 ∷ []) (given ∷ r ∷ [])) it.1.found) ≡ ids_of it.1.found = map-map
      (λ r. id_in (rowid r)) (λ r. eval_all (col 1 0 ∷ []) (given ∷ r ∷ [])) it.1.found in
      let left : new.now.trees 14 ≡ without_rows id rows = it.1.cut ∙ ap (without_all rows) ids
      ∙ cut_rows (is_under id) rows it.1.found keyed it.1.same in
      let after = subst AreKeyed (sym left) (keyed_filter (λ r. not (is_under id r)) rows keyed) in (
        record {
          schema = subst IsHallSchema (sym it.0) held.schema;
          keyed = keyed_after 14 old.now.trees new.now.trees
              hall_schema.tables after it.2 held.keyed;
        },
        record {
          world = alone_world 14 old.now.trees new.now.trees it.2
              ∙ ap (λ testers. record (world_of old.now.trees) { testers = testers })
              (ap (λ l. from_entries (flat_map (λ row. option_to_list (tester_of_row row)) l)) left
              ∙ cut_entries tester_total same_tester_keys tester_of_row (λ k. same_text k.round id) (is_under id)
              (agrees id) rows);
          rows = left;
          others = alone_spared (is_tester_of id) 14 old.now.trees new.now.trees
              (dropped_spared (is_tester_of id 14) rows (new.now.trees 14) left) it.2;
        },
      )

  -- the INSERT of a tester
  pub tester_added : (name : List ℕ) → IsRoundId id → IsName name → Executes ADD_TESTER.now (tester_params id name) old
      new (Ok count)
      → IsHallData new.now × PutsTester id name old.now new.now
  tester_added name is_id is_name ran =
      let given = tester_params id name in
      let (after, it) = row_added Testers ADD_TESTER.now given (adds id name) old new count ran held in
      let row = Int (next_rowid (old.now.trees 14)) ∷ given in
      let reads : tester_of_row row ≡ Some (tester_key id name, tt) =
      rw (kind_holds 1 24 is_word_byte id is_id, kind_holds 1 24 is_word_byte name is_name) in
      let own : is_under id row ≡ true = agrees id row (tester_key id name, tt) reads ∙ same_itself id in (
        after,
        record {
          world = λ none. alone_world 14 old.now.trees new.now.trees it.others
              ∙ ap (λ testers. record (world_of old.now.trees) { testers = testers })
              (put_entry tester_total same_tester_keys tester_of_row (tester_key id name) tt row (old.now.trees 14)
              (new.now.trees 14) none reads it.free it.put);
          rows = it.put;
          others = added_spares (is_tester_of id) 14 given old.now new.now it own;
        },
      )

-- ---- testers one after another

module _ (testers : FinMap tester_cmp (Unit {0})) (id : List ℕ) where
  -- the last name of a list is put after the others
  with_last : (names : List (List ℕ)) (last : List ℕ) → with_testers testers id (names ++ last ∷ []) ≡ insert
      (with_testers testers id names) (tester_key id last) tt
  with_last [] last = refl
  with_last (name ∷ names) last =
      ap (λ m. insert m (tester_key id name) tt) (with_last names last)
      ∙ inserts_swapped tester_total same_tester_keys (with_testers testers id names) (tester_key id last)
      (tester_key id name) tt tt (λ same. refl)

  -- a name that is none of the list's is a tester as before
  unlisted : (names : List (List ℕ)) (name : List ℕ) → ¬ (Contains names name)
      → get (with_testers testers id names) (tester_key id name) ≡ get testers (tester_key id name)
  unlisted [] name none = refl
  unlisted (first ∷ names) name none =
      get-insert_other tester_total same_tester_keys (with_testers testers id names) (tester_key id first) tt
      (tester_key id name)
      (λ same. none (contained (first ∷ names) name 0 (ap (λ (k : TesterKey). Some k.name) (sym same))))
      ∙ unlisted names name (λ among. none (later first names name among))

-- the row of the last name is put after those of the others
rows_with_last : (id : List ℕ) (names : List (List ℕ)) (last : List ℕ) (rows : List Row)
    → with_tester_rows id (names ++ last ∷ []) rows ≡ with_tester_row id last (with_tester_rows id names rows)
rows_with_last id [] last rows = refl
rows_with_last id (name ∷ names) last rows = rows_with_last id names last (with_tester_row id name rows)

-- one more name of the list, in which no name stands twice
pub more_testers : (id : List ℕ) (names : List (List ℕ)) (i : ℕ) (name : List ℕ) (a b c : Database)
    → AllPairs (λ x y. ¬ (x ≡ y)) names → i < length names
    → name ≡ get_or names i name → PutsTesters id (take i names) a b → PutsTester id name b c
    → PutsTesters id (take (i + 1) names) a c
more_testers id names i name a b c differ low is so it =
    let next : take (i + 1) names ≡ before ++ name ∷ [] = take_more names i name low
    ∙ ap (λ x. before ++ x ∷ []) (sym is) in
    let fresh : ¬ (Contains before name) = λ among. clash_found (λ x y. x ≡ y) names i name low is
    (any_contained before name among) differ in
    record {
      world = λ free.
          let testers = (world_of a.trees).testers in
          let was = so.world free in
          let none : get (world_of b.trees).testers (tester_key id name) ≡ None =
          ap (λ (w : World). get w.testers (tester_key id name)) was ∙ unlisted testers id before name fresh
          ∙ free name in
          it.world none
          ∙ ap (λ (w : World). record w { testers = insert w.testers (tester_key id name) tt }) was
          ∙ ap (λ (m : FinMap tester_cmp (Unit {0})). record (world_of a.trees) { testers = m })
          (sym (with_last testers id before name) ∙ ap (with_testers testers id) (sym next));
      rows = it.rows
          ∙ ap (with_tester_row id name) so.rows
          ∙ sym (rows_with_last id before name (a.trees 14))
          ∙ ap (λ l. with_tester_rows id l (a.trees 14)) (sym next);
      others = then_spared (is_tester_of id) a.trees b.trees c.trees so.others it.others;
    }
  where
    before : List (List ℕ)
    before = take i names

-- a round whose testers are taken out has none
freed : (id : List ℕ) (testers : FinMap tester_cmp (Unit {0})) → HasNoTesters id (without_testers_of testers id)
freed id testers name =
    get-retain_keys testers (λ k. not (same_text k.round id)) (tester_key id name)
    (λ x tied. ap (λ (k : TesterKey). not (same_text k.round id))
    (sym (same_tester_keys (tester_key id name) x tied)))
    ∙ ap (λ b. cond (not b) (get testers (tester_key id name)) None) (same_itself id)

-- the testers in the place of those before
pub tester_list_put : (id : List ℕ) (names : List (List ℕ)) (a b c : Database) → DropsTesters id a b
    → PutsTesters id names b c → PutsTesterList id names a c
tester_list_put id names a b c dropped put =
    let none = subst (λ (w : World). HasNoTesters id w.testers) (sym dropped.world)
    (freed id (world_of a.trees).testers) in
    record {
      world = put.world none ∙ ap (λ (w : World). record w { testers = with_testers w.testers id names }) dropped.world;
      rows = put.rows ∙ ap (with_tester_rows id names) dropped.rows;
      others = then_spared (is_tester_of id) a.trees b.trees c.trees dropped.others put.others;
    }

-- ---- the same inside a transaction

pub no_testers_did : (id : List ℕ) (s : State) → IsTrue s.in_transaction → MakesInside (PutsTesters id []) s s
no_testers_did id s mode = did_none (PutsTesters id []) s mode
    (record { world = λ free. refl; rows = refl; others = same_spared (is_tester_of id) s.now.trees })

pub more_did : (id : List ℕ) (names : List (List ℕ)) (i : ℕ) (name : List ℕ) (a b c : State)
    → AllPairs (λ x y. ¬ (x ≡ y)) names → i < length names → name ≡ get_or names i name
    → MakesInside (PutsTesters id (take i names)) a b → MakesInside (PutsTester id name) b c
    → MakesInside (PutsTesters id (take (i + 1) names)) a c
more_did id names i name a b c differ low is so it =
    did_then (PutsTesters id (take i names)) (PutsTester id name) (PutsTesters id (take (i + 1) names)) a b c
    (λ one two. more_testers id names i name a.now b.now c.now differ low is one two) so it
