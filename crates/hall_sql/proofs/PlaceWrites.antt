-- What the statements that write the puzzles of a round leave.
use Rattle.std.proofs.Common.{◌≡◌, ◌≢◌, ◌≤◌, ◌<◌, ◌+◌, ℕ, suc, List, [], ◌∷◌, ◌++◌, length, map, filter, flat_map}
use Rattle.std.proofs.Common.{is_some, take, get_or, option_to_list, true, not, cond, Some, None, Ok, IsTrue, refl, sym}
use Rattle.std.proofs.Common.{ap, subst, ◌∙◌, arith}
use Rattle.std.proofs.lemmas.List.{take_more, length-take-le}
use Rattle.std.specs.FinMap.{FinMap, from_entries, get, insert, get-retain_keys}
use Rattle.std.proofs.lemmas.Map.Text.{is_eq-slice_cmp}
use Rattle.sqlite.specs.declared.types.Value.TheVariants.{Int, Text}
use Rattle.sqlite_value.specs.Order.{column}
use Rattle.sqlite_trees.specs.Tree.{rowid}
use Rattle.sqlite_trees.proofs.ListLemmas.{map-map}
use Rattle.sqlite_rules.specs.Calls.{ids_of}
use Rattle.sqlite_rules.specs.Edit.{next_rowid, id_in, without_all}
use Rattle.sqlite.specs.Order.{Row}
use Rattle.sqlite.specs.Term.{col, eval_all}
use Rattle.sqlite.specs.Effect.{Database}
use Rattle.sqlite.specs.State.{State, Executes}
use Rattle.sqlite.proofs.Callers.{runs_as}
use Rattle.hall_policy.specs.Limits.{most_number, most_points}
use Rattle.hall_policy.specs.Text.{is_word_byte}
use Rattle.hall_policy.specs.World.{World, place_cmp, same_text}
use Rattle.hall_policy.specs.Ranges.{IsRoundId, IsEntry, IsWithin}
use Rattle.hall_policy.specs.declared.record.Entry.{Entry}
use Rattle.hall_policy.specs.declared.record.PlaceKey.{PlaceKey}
use Rattle.hall_policy.proofs.Maps.{get-insert_other}
use Rattle.hall_policy.proofs.Orders.{text_total, place_total, same_place_keys}
use Rattle.hall_policy.proofs.Reading.{kind_holds}
use Rattle.hall_store.specs.Change.{without_list, with_list}
use Rattle.hall_sql.specs.Tables.{IsHallSchema, hall_schema}
use Rattle.hall_sql.specs.declared.tables.HallTable.TheVariants.{Places}
use Rattle.hall_sql.proofs.Wordings.{hall_in, table_in, worded}
use Rattle.hall_sql.specs.declared.round_writes.TheConstants.{DROP_PLACES, ADD_PLACE}
use Rattle.hall_sql.specs.Values.{name_in, within}
use Rattle.hall_sql.specs.RoundColumns.{place_params, is_under}
use Rattle.hall_sql.specs.Rows.{place_of_row, world_of}
use Rattle.hall_sql.specs.Spared.{is_place_of}
use Rattle.hall_sql.specs.Standing.{AreKeyed}
use Rattle.hall_sql.specs.Inside.{IsHallData, MakesInside}
use Rattle.hall_sql.specs.RoundPuts.{DropsPlaces, place_key, with_place, with_places, PutsPlace, HasNoPlaces}
use Rattle.hall_sql.specs.RoundPuts.{PutsPlaces, PutsList}
use Rattle.hall_sql.proofs.AnswerWrites.{is_within}
use Rattle.hall_sql.proofs.ColumnLemmas.{kind_column, column_same, and_true}
use Rattle.hall_sql.proofs.DeleteLemmas.{deletes}
use Rattle.hall_sql.proofs.EntryLemmas.{put_entry, cut_entries, cut_rows, inserts_swapped}
use Rattle.hall_sql.proofs.AllRead.{added_read}
use Rattle.hall_sql.proofs.AddLemmas.{IsInsert, row_added, added_spares}
use Rattle.hall_sql.proofs.AloneLemmas.{alone_world}
use Rattle.hall_sql.proofs.InsideLemmas.{did_none, did_then}
use Rattle.hall_sql.proofs.KeyedLemmas.{keyed_after, keyed_filter}
use Rattle.hall_sql.specs.Statements.{equals}
use Rattle.hall_sql.proofs.SparedLemmas.{own_key, dropped_spared, alone_spared, same_spared, then_spared}
use Rattle.hall_sql.proofs.PlaceTexts.{places_apart, places_restricted, drop_places_is, added_terms, add_place_is}
use Rattle.hall_sql.proofs.WriteLemmas.{cast_null, cast_number}
use Rattle.hall_sql.proofs.RecordParts.{place_parts_of}

-- ---- what a row of the table says

-- WHERE round = ?1 asks for the round
agrees : (id : List ℕ) (r : Row) (place : PlaceKey × Entry) → place_of_row r ≡ Some place
    → is_under id r ≡ same_text place.0.round id
agrees id r place is =
    let round = kind_column 1 24 is_word_byte (column r 1) place.0.round
    (place_parts_of (name_in (column r 1)) (within 1 most_number (column r 2)) (name_in (column r 3))
    (name_in (column r 4)) (within 1 most_points (column r 5)) place is).round in
    and_true _ ∙ column_same (column r 1) place.0.round id round

-- a text is itself
pub same_itself : (id : List ℕ) → same_text id id ≡ true
same_itself id = sym (is_eq-slice_cmp id id) ∙ own_key text_total id

-- ---- the statements

adds : (id : List ℕ) (number : ℕ) (entry : Entry) → IsInsert Places ADD_PLACE.now (place_params id number entry)
adds id number entry = record {
  at = 3;
  terms = added_terms;
  width = 6;
  there = λ u. refl;
  is = add_place_is;
  source = refl;
  casts = rw (cast_null, cast_number number, cast_number entry.points);
}

module _ (id : List ℕ) (old new : State) (count : ℕ) (held : IsHallData old.now) where
  -- the DELETE of the places of a round
  pub places_dropped : Executes DROP_PLACES.now (Text id ∷ []) old new (Ok count) → IsHallData new.now
      × DropsPlaces id old.now new.now
  places_dropped ran =
      let given = Text id ∷ [] in
      let keyed = held.keyed.1.1.1.0 in
      let rows = old.now.trees 7 in
      let (u, words) = worded old.now.schema held.schema in
      let w = runs_as DROP_PLACES.now given old new (hall_in u) words _ (drop_places_is u).0 (drop_places_is u).1 count
      ran in
      let it = deletes (hall_in u) (table_in u Places) (equals 1 0 ∷ []) places_apart (places_restricted u) 3 refl given
      old new _ count words w in
      let ids : ids_of (map (λ r. eval_all (col 1 0 ∷ []) (given ∷ r ∷ [])) it.1.found) ≡ ids_of it.1.found = map-map
      (λ r. id_in (rowid r)) (λ r. eval_all (col 1 0 ∷ []) (given ∷ r ∷ [])) it.1.found in
      let left : new.now.trees 7 ≡ filter (λ r. not (is_under id r)) rows = it.1.cut ∙ ap (without_all rows) ids
      ∙ cut_rows (is_under id) rows it.1.found keyed it.1.same in
      let after = subst AreKeyed (sym left) (keyed_filter (λ r. not (is_under id r)) rows keyed) in (
        record {
          schema = subst IsHallSchema (sym it.0) held.schema;
          keyed = keyed_after 7 old.now.trees new.now.trees
              hall_schema.tables after it.2 held.keyed;
        },
        record {
          world = alone_world 7 old.now.trees new.now.trees it.2
              ∙ ap (λ places. record (world_of old.now.trees) { places = places })
              (ap (λ l. from_entries (flat_map (λ row. option_to_list (place_of_row row)) l)) left
              ∙ cut_entries place_total same_place_keys place_of_row (λ k. same_text k.round id) (is_under id)
              (agrees id) rows);
          rows = left;
          others = alone_spared (is_place_of id) 7 old.now.trees new.now.trees
              (dropped_spared (is_place_of id 7) rows (new.now.trees 7) left) it.2;
        },
      )

  -- the INSERT of an entry at its place
  pub place_added : (number : ℕ) (entry : Entry) → IsRoundId id → IsWithin 1 most_number number → IsEntry entry
      → Executes ADD_PLACE.now (place_params id number entry) old new (Ok count)
      → IsHallData new.now × PutsPlace id number entry old.now new.now
  place_added number entry is_id is_number is ran =
      let given = place_params id number entry in
      let (after, it) = row_added Places ADD_PLACE.now given (adds id number entry) old new count ran held in
      let row = Int (next_rowid (old.now.trees 7)) ∷ given in
      let reads : place_of_row row ≡ Some (place_key id number, entry) = rw (
        kind_holds 1 24 is_word_byte id is_id,
        is_within 1 most_number number is_number,
        kind_holds 1 24 is_word_byte entry.puzzle.author is.puzzle.author,
        kind_holds 1 24 is_word_byte entry.puzzle.label is.puzzle.label,
        is_within 1 most_points entry.points is.points,
      ) in
      let own : is_under id row ≡ true = agrees id row (place_key id number, entry) reads ∙ same_itself id in (
        after,
        record {
          world = λ none. alone_world 7 old.now.trees new.now.trees it.others
              ∙ ap (λ places. record (world_of old.now.trees) { places = places })
              (put_entry place_total same_place_keys place_of_row (place_key id number) entry row (old.now.trees 7)
              (new.now.trees 7) none reads it.free it.put);
          rows = it.put;
          others = added_spares (is_place_of id) 7 given old.now new.now it own;
          read = added_read 7 given old.now new.now it (ap is_some reads) (λ all. all.1.1.1.0);
        },
      )

-- ---- places one after another

module _ (places : FinMap place_cmp Entry) (id : List ℕ) where
  number_differs : (m n : ℕ) → m ≢ n → place_key id m ≢ place_key id n
  number_differs m n apart same = apart (ap (λ (k : PlaceKey). k.number) same)

  -- the last entry of a list is put after the others
  with_last : (number : ℕ) (entries : List Entry) (last : Entry)
      → with_list places id number (entries ++ last ∷ []) ≡ insert (with_list places id number entries)
      (place_key id (number + length entries)) last
  with_last number [] last = ap (λ n. insert places (place_key id n) last) (omega arith)
  with_last number (entry ∷ entries) last =
      let at : number + 1 + length entries ≡ number + suc (length entries) = omega arith in
      let more = with_list places id (number + 1) entries in
      ap (λ m. insert m (place_key id number) entry) (with_last (number + 1) entries last)
      ∙ inserts_swapped place_total same_place_keys more (place_key id (number + 1 + length entries))
      (place_key id number) last entry (λ same. absurd (number_differs _ _ (λ n. omega (arith, n)) same))
      ∙ ap (λ n. insert (insert more (place_key id number) entry) (place_key id n) last) at

  -- above its last entry a list changes nothing
  above : (number : ℕ) (entries : List Entry) (high : ℕ) → number + length entries ≤ high
      → get (with_list places id number entries) (place_key id high) ≡ get places (place_key id high)
  above number [] high low = refl
  above number (entry ∷ entries) high low =
      get-insert_other place_total same_place_keys (with_list places id (number + 1) entries) (place_key id number)
      entry (place_key id high)
      (number_differs high number (λ same. omega (arith, low, same)))
      ∙ above (number + 1) entries high (omega (arith, low))

-- the row of the last entry is put after those of the others
rows_with_last : (id : List ℕ) (number : ℕ) (entries : List Entry) (last : Entry) (rows : List Row)
    → with_places id number (entries ++ last ∷ []) rows ≡ with_place id (number + length entries) last
    (with_places id number entries rows)
rows_with_last id number [] last rows = ap (λ n. with_place id n last rows) (omega arith)
rows_with_last id number (entry ∷ entries) last rows =
    let at : number + 1 + length entries ≡ number + suc (length entries) = omega arith in
    let before = with_place id number entry rows in
    rows_with_last id (number + 1) entries last before ∙ ap (λ n. with_place id n last
    (with_places id (number + 1) entries before)) at

-- one more entry of the list
pub more_places : (id : List ℕ) (entries : List Entry) (i : ℕ) (entry : Entry) (a b c : Database) → i < length entries
    → entry ≡ get_or entries i entry
    → PutsPlaces id (take i entries) a b → PutsPlace id (i + 1) entry b c → PutsPlaces id (take (i + 1) entries) a c
more_places id entries i entry a b c low is so it =
    let next : take (i + 1) entries ≡ before ++ entry ∷ [] = take_more entries i entry low
    ∙ ap (λ x. before ++ x ∷ []) (sym is) in
    let long : length before ≡ i = length-take-le i entries (omega (arith, low)) in
    let at : i + 1 ≡ 1 + length before = omega (arith, long) in
    record {
      world = λ free.
          let places = (world_of a.trees).places in
          let was = so.world free in
          let none : get (world_of b.trees).places (place_key id (i + 1)) ≡ None =
          ap (λ (w : World). get w.places (place_key id (i + 1))) was
          ∙ above places id 1 before (i + 1) (omega (arith, at)) ∙ free (i + 1) in
          it.world none
          ∙ ap (λ (w : World). record w { places = insert w.places (place_key id (i + 1)) entry }) was
          ∙ ap (λ (m : FinMap place_cmp Entry). record (world_of a.trees) { places = m })
          (ap (λ n. insert (with_list places id 1 before) (place_key id n) entry) at
          ∙ sym (with_last places id 1 before entry) ∙ ap (with_list places id 1) (sym next));
      rows = it.rows
          ∙ ap (with_place id (i + 1) entry) so.rows
          ∙ ap (λ n. with_place id n entry (with_places id 1 before (a.trees 7))) at
          ∙ sym (rows_with_last id 1 before entry (a.trees 7))
          ∙ ap (λ l. with_places id 1 l (a.trees 7)) (sym next);
      others = then_spared (is_place_of id) a.trees b.trees c.trees so.others it.others;
    }
  where
    before : List Entry
    before = take i entries

-- a round whose list is taken out has no places
freed : (id : List ℕ) (places : FinMap place_cmp Entry) → HasNoPlaces id (without_list places id)
freed id places number =
    get-retain_keys places (λ k. not (same_text k.round id)) (place_key id number)
    (λ x tied. ap (λ (k : PlaceKey). not (same_text k.round id))
    (sym (same_place_keys (place_key id number) x tied)))
    ∙ ap (λ b. cond (not b) (get places (place_key id number)) None) (same_itself id)

-- the list in the place of the one before
pub list_put : (id : List ℕ) (entries : List Entry) (a b c : Database) → DropsPlaces id a b → PutsPlaces id entries b c
    → PutsList id entries a c
list_put id entries a b c dropped put =
    let none = subst (λ (w : World). HasNoPlaces id w.places) (sym dropped.world)
    (freed id (world_of a.trees).places) in
    record {
      world = put.world none ∙ ap (λ (w : World). record w { places = with_list w.places id 1 entries }) dropped.world;
      rows = put.rows ∙ ap (with_places id 1 entries) dropped.rows;
      others = then_spared (is_place_of id) a.trees b.trees c.trees dropped.others put.others;
    }

-- ---- the same inside a transaction

pub no_places_did : (id : List ℕ) (s : State) → IsTrue s.in_transaction → MakesInside (PutsPlaces id []) s s
no_places_did id s mode = did_none (PutsPlaces id []) s mode
    (record { world = λ free. refl; rows = refl; others = same_spared (is_place_of id) s.now.trees })

pub more_did : (id : List ℕ) (entries : List Entry) (i number : ℕ) (entry : Entry) (a b c : State) → number ≡ i
    → i < length entries → entry ≡ get_or entries i entry
    → MakesInside (PutsPlaces id (take i entries)) a b → MakesInside (PutsPlace id (number + 1) entry) b c
    → MakesInside (PutsPlaces id (take (i + 1) entries)) a c
more_did id entries i number entry a b c at low is so it =
    did_then (PutsPlaces id (take i entries)) (PutsPlace id (number + 1) entry) (PutsPlaces id (take (i + 1) entries)) a
    b c
    (λ one two. more_places id entries i entry a.now b.now c.now low is one
    (subst (λ n. PutsPlace id (n + 1) entry b.now c.now) at two)) so it
