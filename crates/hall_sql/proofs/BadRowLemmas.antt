-- The rows of a table that are no record: what is asked for, and what its answer tells of them.
use Rattle.std.proofs.Common.{◌≡◌, ◌≢◌, ◌++◌, inl, inr, IsTrue, arith, ℕ}
use Rattle.std.proofs.Common.{ℤ, List, [], ◌∷◌, codes, map, filter, not, Bool}
use Rattle.std.proofs.Common.{true, false, cond, is_some, length, Result, IfOk, refl, sym, ap, subst, ◌∙◌}
use Rattle.std.proofs.lemmas.List.{length-map}
use Rattle.std.proofs.lemmas.Result.{IfErr-weaker, IfOk-weaker}
use Rattle.std.proofs.lemmas.List.Sorted.{IsPermutation-sym, length_permutation}
use Rattle.std.specs.List.{AllByRecursion, AllZip}
use Rattle.std.specs.List.Sorted.{IsPermutation}
use Rattle.sqlite_tied.specs.Compute.{everything}
use Rattle.sqlite_trees.proofs.ListLemmas.{IsPermutation-filter, all-map, all-permutation, all_of, all_weaker}
use Rattle.sqlite_trees.proofs.ListLemmas.{filter-map, filter_all, map-map}
use Rattle.sqlite_trees.specs.Tree.{rowid}
use Rattle.sqlite_trees.specs.View.{is_int}
use Rattle.sqlite_value.specs.Order.{column}
use Rattle.sqlite.specs.declared.types.Value.{Value}
use Rattle.sqlite.specs.declared.types.Value.TheVariants.{Null, Int, Real, Text, Blob}
use Rattle.sqlite.specs.Effect.{Database}
use Rattle.sqlite.specs.Listing.{understood}
use Rattle.sqlite.specs.Order.{Row}
use Rattle.sqlite.specs.Schema.{Schema}
use Rattle.sqlite.specs.State.{State, HasCleanDisk, Shown}
use Rattle.sqlite.specs.Term.{Term, col, eval_all}
use Rattle.sqlite.specs.Tree.{Trees}
use Rattle.hall_store.specs.Store.{Fails}
use Rattle.hall_store.specs.declared.fault.StoreFault.{StoreFault}
use Rattle.hall_sql.specs.AllRead.{AreAllRead, IsRead, is_record}
use Rattle.hall_sql.specs.Asked.{IsAskedIn}
use Rattle.hall_sql.specs.BadRows.{AreAllBad, AreBadIn, AreBadRows, AreFoundBad, AreNone, AreToldBad, FindsBad}
use Rattle.hall_sql.specs.BadRows.{HasRoom, HaveRoom, IsRoomLeft, last_rowid, no_records, rowid_in}
use Rattle.hall_sql.specs.Cause.{IsAnyUnread, IsStoreCause, ReadFails}
use Rattle.hall_sql.specs.Made.{all_tables, old_tables}
use Rattle.hall_sql.specs.Scan.{Serves, tree_of}
use Rattle.hall_sql.specs.Standing.{AreKeyed, IsOver, IsSelection, KeptAnyTables, KeptTablesIn}
use Rattle.hall_sql.specs.Statements.{names_of, plain_query}
use Rattle.hall_sql.specs.Tables.{IsLike, hall_schema, old_schema}
use Rattle.hall_sql.specs.Values.{int_in}
use Rattle.hall_sql.specs.Versions.{HasTable}
use Rattle.hall_sql.specs.declared.bad_rows.TheConstants.{ANSWERS_ROWS, PEOPLE_ROWS, PLACES_ROWS, PROTESTS_ROWS}
use Rattle.hall_sql.specs.declared.bad_rows.TheConstants.{PUZZLES_ROWS, ROUNDS_ROWS, TESTERS_ROWS}
use Rattle.hall_sql.specs.declared.bad_rows.BadRows.{BadRows}
use Rattle.hall_sql.specs.declared.tables.HallTable.{HallTable}
use Rattle.hall_sql.specs.declared.tables.HallTable.TheVariants.{People, Puzzles, Rounds, Places, Answers, Protests}
use Rattle.hall_sql.specs.declared.tables.HallTable.TheVariants.{Testers}
use Rattle.hall_sql.proofs.CallLemmas.{answers_selection, shown_was_open}
use Rattle.hall_sql.proofs.Queries.{apart, columns_of, record_in, width_of}
use Rattle.hall_sql.proofs.ScanLemmas.{by_rowid}
use Rattle.hall_sql.proofs.ValueLemmas.{no_more}
use Rattle.hall_sql.proofs.UnreadRows.{some_unread}
use Rattle.hall_sql.proofs.Versions.{AsksAll, asked_all, by_version, keyed_in}
use Rattle.hall_sql.proofs.Wordings.{by_hall, trees_like}

-- ---- what is asked for

-- the statement that asks for the table's rows
abbrev pub rows_text : HallTable → List ℕ
rows_text People = PEOPLE_ROWS.now
rows_text Puzzles = PUZZLES_ROWS.now
rows_text Rounds = ROUNDS_ROWS.now
rows_text Places = PLACES_ROWS.now
rows_text Answers = ANSWERS_ROWS.now
rows_text Protests = PROTESTS_ROWS.now
rows_text Testers = TESTERS_ROWS.now

-- all of its columns, and the rowid behind them
abbrev terms : HallTable → List Term
terms table = columns_of table ++ col 1 0 ∷ []

abbrev names : HallTable → List (List ℕ)
names table = names_of table ++ codes "rowid" ∷ []

abbrev Asks : HallTable → Schema → Type 0
Asks table = AsksAll (rows_text table) (tree_of table) (terms table) by_rowid (names table)

asks : (table : HallTable) (schema : Schema) → HasTable schema table → Asks table schema
unfolding understood everything
asks People =
    by_version (Asks People)
    (λ u. record { is = refl; unlisted = refl; plain = (refl, refl); whole = refl; typed = refl })
    (λ u. record { is = refl; unlisted = refl; plain = (refl, refl); whole = refl; typed = refl })
asks Puzzles =
    by_version (Asks Puzzles)
    (λ u. record { is = refl; unlisted = refl; plain = (refl, refl); whole = refl; typed = refl })
    (λ u. record { is = refl; unlisted = refl; plain = (refl, refl); whole = refl; typed = refl })
asks Rounds =
    by_version (Asks Rounds)
    (λ u. record { is = refl; unlisted = refl; plain = (refl, refl); whole = refl; typed = refl })
    (λ u. record { is = refl; unlisted = refl; plain = (refl, refl); whole = refl; typed = refl })
asks Places =
    by_version (Asks Places)
    (λ u. record { is = refl; unlisted = refl; plain = (refl, refl); whole = refl; typed = refl })
    (λ u. record { is = refl; unlisted = refl; plain = (refl, refl); whole = refl; typed = refl })
asks Answers =
    by_version (Asks Answers)
    (λ u. record { is = refl; unlisted = refl; plain = (refl, refl); whole = refl; typed = refl })
    (λ u. record { is = refl; unlisted = refl; plain = (refl, refl); whole = refl; typed = refl })
asks Protests =
    by_version (Asks Protests)
    (λ u. record { is = refl; unlisted = refl; plain = (refl, refl); whole = refl; typed = refl })
    (λ u. record { is = refl; unlisted = refl; plain = (refl, refl); whole = refl; typed = refl })
asks Testers =
    by_hall (Asks Testers)
    (λ u. record { is = refl; unlisted = refl; plain = (refl, refl); whole = refl; typed = refl })

-- so it may be asked where the table is
pub may_be_asked : (table : HallTable) (old : State) → IsOver (λ schema. HasTable schema table) old
    → IsOver (IsAskedIn (rows_text table) []) old
may_be_asked table old over =
    record {
      schema = over.schema;
      tabled = over.tabled;
      fits = λ found like. asked_all (asks table found (over.fits found like));
    }

-- ---- what its answer tells

-- an integer is read as one
int_read : (v : Value) → IsTrue (is_int v) → IsTrue (is_some (int_in v))
int_read Null int = int
int_read (Int n) int = refl
int_read (Real x) int = int
int_read (Text t) int = int
int_read (Blob b) int = int

-- what is so of each image
unmapped : {A B : Type 0} (P : B → Type 0) (f : A → B) (xs : List A) → AllByRecursion P (map f xs)
    → AllByRecursion (λ x. P (f x)) xs
unmapped P f [] all = tt
unmapped P f (x ∷ xs) all = (all.0, unmapped P f xs all.1)

abbrev shows : HallTable → Row → Row
shows table r = eval_all (terms table) ([] ∷ r ∷ [])

-- behind its columns it shows the rowid
ids_at : (table : HallTable) (r : Row) → column (shows table r) (width_of table) ≡ rowid r
ids_at People r = refl
ids_at Puzzles r = refl
ids_at Rounds r = refl
ids_at Places r = refl
ids_at Answers r = refl
ids_at Protests r = refl
ids_at Testers r = refl

-- and it shows a record where the row is one
reads : (table : HallTable) (r : Row) → is_some (record_in table (shows table r)) ≡ is_record (tree_of table) r
reads People r = refl
reads Puzzles r = refl
reads Rounds r = refl
reads Places r = refl
reads Answers r = refl
reads Protests r = refl
reads Testers r = refl

module _ (table : HallTable) (old new : State) (over : IsOver (λ schema. HasTable schema table) old)
    (clean : HasCleanDisk old) where
  module _ (rows : List Row) (shown : Shown (rows_text table) [] old new rows) where
    like : IsLike over.schema old.now.schema
    like = (over.tabled.settled clean (shown_was_open (rows_text table) [] old new rows shown)).1

    all : Asks table old.now.schema
    all = asks table old.now.schema (over.fits old.now.schema like)

    selection : IsSelection (plain_query (tree_of table) [] (terms table) by_rowid) (old.now.trees (tree_of table)) []
        rows
    selection =
        answers_selection (rows_text table) [] old new (tree_of table) [] (terms table) by_rowid (names table) all.is
        all.unlisted all.plain (apart table old.now.trees) refl rows shown

    same : IsPermutation (old.now.trees (tree_of table)) selection.found
    same = subst (λ l. IsPermutation l selection.found) (filter_all (λ _. true) (old.now.trees (tree_of table))
        (all_of (λ _. true ≡ true) (λ _. refl) _)) selection.same

  module _ (told : BadRows) (it : AreBadIn (record_in table) table (width_of table) (rows_text table) old new told)
    where
      abbrev sel : IsSelection (plain_query (tree_of table) [] (terms table) by_rowid)
          (old.now.trees (tree_of table)) [] it.rows
      sel = selection it.rows it.shown

      abbrev others : List Row
      others = filter (λ r. not (is_record (tree_of table) r)) sel.found

      bad_are : no_records (record_in table) it.rows ≡ map (shows table) others
      bad_are =
          ap (no_records (record_in table)) sel.shown
          ∙ filter-map (λ r. not (is_some (record_in table r))) (shows table) sel.found
          ∙ (λ i. map (shows table) (filter (λ r. not (reads table r i)) sel.found))

      abbrev Free : Row → Type 0
      Free r = column r (width_of table) ≢ Int last_rowid

      abbrev Lower : Row → Type 0
      Lower r = rowid r ≢ Int last_rowid

      room_left : IsRoomLeft (width_of table) it.rows → HasRoom old.now.trees (tree_of table)
      room_left left =
          let shown = unmapped Free (shows table) sel.found (subst (AllByRecursion Free) sel.shown left) in
          let found = all_weaker (λ r. Free (shows table r)) Lower (λ r free is. free (ids_at table r ∙ is)) sel.found
          shown in
          all-permutation Lower sel.found _ (IsPermutation-sym _ _ (same it.rows it.shown)) found

      left_room : HasRoom old.now.trees (tree_of table) → IsRoomLeft (width_of table) it.rows
      left_room room =
          let found = all-permutation Lower _ sel.found (same it.rows it.shown) room in
          let shown = all_weaker Lower (λ r. Free (shows table r)) (λ r low is. low (sym (ids_at table r) ∙ is))
          sel.found found in
          subst (AllByRecursion Free) (sym sel.shown) (all-map Free (shows table) sel.found shown)

      found_bad : AreFoundBad table old new told
      found_bad = (
        it.serves,
        it.which,
        record {
          rows = others;
          same = IsPermutation-filter (λ r. not (is_record (tree_of table) r)) _ _ (same it.rows it.shown);
          are = it.among.0 ∙ ap (map (λ r. column r (width_of table))) bad_are
              ∙ map-map (λ r. column r (width_of table)) (shows table) others
              ∙ (λ i. map (λ r. ids_at table r i) others);
          room = (λ is. room_left (it.among.1.0 is), λ room. it.among.1.1 (left_room room));
        },
      )

  -- its rowids are integers, so that the answer shows one in each row
  ids_shown : (rows : List Row) → Shown (rows_text table) [] old new rows
      → ¬ (IsAnyUnread (rowid_in (width_of table)) rows)
  ids_shown rows shown any =
      let opened = shown_was_open (rows_text table) [] old new rows shown in
      let is_like = like rows shown in
      let keyed = keyed_in old.now.schema table old.now.trees (over.fits old.now.schema is_like)
      (trees_like (λ n. AreKeyed (old.now.trees n)) over.schema old.now.schema is_like
      (over.tabled.keyed clean opened)) in
      let Ints = λ (r : Row). IsTrue (is_int (rowid r)) in
      let Reads = λ (r : Row). IsTrue (is_some (rowid_in (width_of table) r)) in
      let its = selection rows shown in
      let found = all-permutation Ints _ its.found (same rows shown) keyed.ints in
      let each = all_weaker Ints (λ r. Reads (shows table r)) (λ r int. ap (λ v. is_some (int_in v)) (ids_at table r)
      ∙ int_read (rowid r) int) its.found found in
      some_unread (rowid_in (width_of table)) rows any (subst (AllByRecursion Reads) (sym its.shown)
      (all-map Reads (shows table) its.found each))

  only_store : ReadFails (rowid_in (width_of table)) (rows_text table) [] old new → IsStoreCause old new
  only_store (inl cause) = cause
  only_store (inr it) = absurd (ids_shown it.0 it.1 it.2)

-- what the answer tells is so of the table, and only the store is a cause
pub finds : (table : HallTable) (old new : State) (result : Result BadRows StoreFault)
    → IsOver (λ schema. HasTable schema table) old → KeptAnyTables old new
    → (HasCleanDisk new → IfOk result (AreBadIn (record_in table) table (width_of table) (rows_text table) old new))
    → (HasCleanDisk new → Fails (ReadFails (rowid_in (width_of table)) (rows_text table) [] old new) result)
    → FindsBad table old new result
finds table old new result over rested bad cause = record {
  rested = rested;
  bad = λ clean. IfOk-weaker result _ _ (found_bad table old new over (was clean)) (bad clean);
  cause =
      λ clean. IfErr-weaker result _ _ (λ fault why failed. only_store table old new over (was clean) (why failed))
      (cause clean);
}
  where
    was : HasCleanDisk new → HasCleanDisk old
    was clean = omega (arith, (rested over.schema over.tabled).follows.lasts.clean, clean)

-- ---- table by table

-- one pair more
zip_more : {A B : Type 0} (R : A → B → Type 0) (xs : List A) (ys : List B) (x : A) (y : B) → AllZip R xs ys → R x y
    → AllZip R (xs ++ x ∷ []) (ys ++ y ∷ [])
zip_more R [] [] x y before it = (it, tt)
zip_more R [] (b ∷ ys) x y before it = absurd before
zip_more R (a ∷ xs) [] x y before it = absurd before
zip_more R (a ∷ xs) (b ∷ ys) x y before it = (before.0, zip_more R xs ys x y before.1 it)

serves_all : (tables : List HallTable) (s : State) → IsTrue s.is_open → Serves tables s
serves_all [] s opens = tt
serves_all (table ∷ tables) s opens = opens

-- of one table more
pub told_next : (tables : List HallTable) (table : HallTable) (schema : Schema) (old mid new : State)
    (bad : List BadRows) (rows : BadRows)
    → HasCleanDisk new → KeptTablesIn schema old mid → KeptTablesIn schema mid new → AreAllBad tables old.now.trees bad
    → AreFoundBad table mid new rows → AreToldBad (tables ++ table ∷ []) old new (bad ++ rows ∷ [])
told_next tables table schema old mid new bad rows clean first second all found =
    let was : HasCleanDisk mid = omega (arith, second.follows.lasts.clean, clean) in
    let opens = second.follows.opened clean found.0 in
    let same = first.same was opens in (
      serves_all (tables ++ table ∷ []) new found.0,
      zip_more (λ t (r : BadRows). (r.table ≡ t) × AreBadRows old.now.trees (tree_of t) r) tables bad table rows all
          (found.1, subst (λ (d : Database). AreBadRows d.trees (tree_of table) rows) same found.2),
    )

-- ---- none

none_bad : (tree : ℕ) (rows : List Row) → filter (λ r. not (is_record tree r)) rows ≡ []
    → AllByRecursion (λ r. IsTrue (is_record tree r)) rows
none_bad tree [] none = tt
none_bad tree (r ∷ rows) none = go (is_record tree r) refl none (none_bad tree rows)
  where
    go : (b : Bool) → is_record tree r ≡ b → cond (not b) (r ∷ filter (λ r. not (is_record tree r)) rows)
        (filter (λ r. not (is_record tree r)) rows) ≡ []
        → (filter (λ r. not (is_record tree r)) rows ≡ [] → AllByRecursion (λ r. IsTrue (is_record tree r)) rows)
        → AllByRecursion (λ r. IsTrue (is_record tree r)) (r ∷ rows)
    go true is none more = (is, more none)
    go false is none more = absurd cc

-- where none is told, each row of the table is a record
read_if_none : (trees : Trees) (tree : ℕ) (told : BadRows) → AreBadRows trees tree told → told.rowids.items ≡ []
    → IsRead trees tree
read_if_none trees tree told it none =
    let bad = filter (λ (r : Row). not (is_record tree r)) (trees tree) in
    let rows : length it.rows ≡ 0 = sym (length-map it.rows rowid) ∙ ap length (sym it.are)
    ∙ ap (λ (l : List ℤ). length (map Int l)) none in
    none_bad tree (trees tree) (no_more bad (sym (length_permutation bad it.rows it.same) ∙ rows))

all_if_none : (tables : List HallTable) (trees : Trees) (bad : List BadRows) → AreAllBad tables trees bad → AreNone bad
    → AllByRecursion (λ t. IsRead trees (tree_of t)) tables
all_if_none [] trees bad are none = tt
all_if_none (t ∷ tables) trees [] are none = absurd are
all_if_none (t ∷ tables) trees (rows ∷ bad) are none =
    (read_if_none trees (tree_of t) rows are.0.1 none.0.0, all_if_none tables trees bad are.1 none.1)

pub room_if_none : (tables : List HallTable) (trees : Trees) (told : List BadRows) → AreAllBad tables trees told
    → AreNone told → HaveRoom tables trees
room_if_none [] trees told are none = tt
room_if_none (t ∷ tables) trees [] are none = absurd are
room_if_none (t ∷ tables) trees (rows ∷ more) are none =
    (are.0.1.room.0 none.0.1, room_if_none tables trees more are.1 none.1)

pub none_in_hall : (trees : Trees) (bad : List BadRows) → AreAllBad all_tables trees bad → AreNone bad
    → AreAllRead hall_schema trees
none_in_hall trees = all_if_none all_tables trees

pub none_in_old : (trees : Trees) (bad : List BadRows) → AreAllBad old_tables trees bad → AreNone bad
    → AreAllRead old_schema trees
none_in_old trees = all_if_none old_tables trees
