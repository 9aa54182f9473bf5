-- A scan of rowids that goes on, and what it tells at its end.
use Rattle.std.proofs.Common.{◌≡◌, ◌⊎◌, ◌<◌, ◌+◌, inl, inr, ℕ, ℤ, length, take, get_or, List, [], ◌∷◌, ◌++◌, map}
use Rattle.std.proofs.Common.{Option, Some, None, refl, sym, ap, subst, ◌∙◌}
use Rattle.std.proofs.lemmas.List.{map-append, take_more}
use Rattle.std.proofs.lemmas.Cmp.{int_cmp_total}
use Rattle.std.specs.List.{AllByRecursion}
use Rattle.std.specs.Ordering.{int_cmp}
use Rattle.std.specs.declared.cmp.Ordering.TheVariants.{Less, Equal}
use Rattle.sqlite_rules.specs.Lists.{Has}
use Rattle.sqlite_trees.specs.declared.store.Store.{Ghosts}
use Rattle.sqlite_value.specs.Order.{column}
use Rattle.sqlite.specs.declared.types.Value.TheVariants.{Int}
use Rattle.sqlite.specs.Held.{Held}
use Rattle.std.proofs.Common.{filter, true, false, IsTrue}
use Rattle.std.specs.List.Sorted.{IsPermutation}
use Rattle.sqlite_tied.specs.Compute.{everything}
use Rattle.sqlite.specs.Order.{Row}
use Rattle.sqlite.specs.Term.{Term, col, eval_all}
use Rattle.sqlite_value.specs.declared.keys.Key.{Key}
use Rattle.sqlite.specs.Collation.TheVariants.{Binary}
use Rattle.sqlite.specs.Listing.{understood}
use Rattle.sqlite.specs.Given.{HasBegun, Advances}
use Rattle.sqlite.specs.Held.{state}
use Rattle.sqlite.specs.State.{State, IsUnchanged, Shown}
use Rattle.sqlite.proofs.Callers.{begun_plain}
use Rattle.sqlite_trees.specs.Tree.{rowid}
use Rattle.sqlite_trees.proofs.ListLemmas.{map-map}
use Rattle.std.proofs.Common.{codes}
use Rattle.sqlite.specs.Schema.{Schema}
use Rattle.hall_sql.specs.Statements.{rowids_text}
use Rattle.hall_sql.specs.Asked.{ReturnsNothing}
use Rattle.hall_sql.specs.Tables.{hall_schema}
use Rattle.hall_sql.specs.Versions.{HasTable}
use Rattle.hall_sql.proofs.ShowsNothing.{shows_nothing}
use Rattle.sqlite.specs.Listing.{is_select}
use Rattle.hall_sql.proofs.Versions.{AsksAll, by_version}
use Rattle.hall_sql.proofs.Wordings.{by_hall, like_itself}
use Rattle.hall_sql.specs.declared.tables.HallTable.{HallTable}
use Rattle.hall_sql.specs.declared.tables.HallTable.TheVariants.{People, Puzzles, Rounds, Places, Answers, Protests}
use Rattle.hall_sql.specs.declared.tables.HallTable.TheVariants.{Testers}
use Rattle.hall_sql.specs.Standing.{Apart, AreKeyed, KeptOrRolledBack}
use Rattle.sqlite.specs.Effect.{Database}
use Rattle.sqlite_value.specs.Order.{value_cmp}
use Rattle.sqlite_value.proofs.OrderLemmas.{value_cmp-Int}
use Rattle.sqlite_trees.specs.View.{is_int}
use Rattle.std.specs.Ordering.{is_eq}
use Rattle.std.proofs.lemmas.List.Sorted.{IsPermutation-sym}
use Rattle.hall_sql.proofs.CallLemmas.{answers_selection}
use Rattle.hall_sql.proofs.KeyedLemmas.{keyed_permuted}
use Rattle.hall_sql.proofs.Queries.{apart}
use Rattle.hall_sql.specs.Scan.{tree_of, Rises, IsAbove, Scanned, IsLastOf, HasScanned, IsLeft, Serves, IsTableKeyed}
use Rattle.hall_sql.specs.Scan.{AreScanned}

all_below : (ids : List ℤ) (last : Option ℤ) (id : ℤ) → ((i j k : ℤ) → int_cmp i j ≡ Less → int_cmp j k ≡ Less
    → int_cmp i k ≡ Less) → IsLastOf ids last → IsAbove last id → AllByRecursion (λ j. int_cmp j id ≡ Less) ids
all_below ids None id chain none above = subst (AllByRecursion (λ j. int_cmp j id ≡ Less)) (sym none) tt
all_below [] (Some last) id chain all above = tt
all_below (i ∷ ids) (Some last) id chain all above = (one all.0, all_below ids (Some last) id chain all.1 above)
  where
    one : ((i ≡ last) ⊎ (int_cmp i last ≡ Less)) → int_cmp i id ≡ Less
    one (inl e) = ap (λ j. int_cmp j id) e ∙ above
    one (inr low) = chain i last id low above

rises_more : (ids : List ℤ) (id : ℤ) → Rises ids → AllByRecursion (λ j. int_cmp j id ≡ Less) ids
    → Rises (ids ++ id ∷ [])
rises_more [] id up below = (tt, tt)
rises_more (i ∷ ids) id up below = (push ids up.0, rises_more ids id up.1 below.1)
  where
    push : (js : List ℤ) → AllByRecursion (λ j. int_cmp i j ≡ Less) js
        → AllByRecursion (λ j. int_cmp i j ≡ Less) (js ++ id ∷ [])
    push [] all = (below.0, tt)
    push (j ∷ js) all = (all.0, push js all.1)

last_more : (ids : List ℤ) (id : ℤ) → AllByRecursion (λ j. int_cmp j id ≡ Less) ids
    → IsLastOf (ids ++ id ∷ []) (Some id)
last_more [] id below = (inl refl, tt)
last_more (i ∷ ids) id below = (inr below.0, last_more ids id below.1)

last_met : (ids : List ℤ) (id : ℤ) → Has (ids ++ id ∷ []) id
last_met [] id = inl refl
last_met (i ∷ ids) id = inr (last_met ids id)

-- one rowid more
pub scanned_more : {S : Type 0} (g : Ghosts S) (sql : List ℕ) (old new : Held S) (last : Option ℤ) (id : ℤ)
    → ((i j k : ℤ) → int_cmp i j ≡ Less → int_cmp j k ≡ Less → int_cmp i k ≡ Less) → HasScanned g sql old last
    → Scanned g old new last (Some id)
    → HasScanned g sql new (Some id)
scanned_more g sql old new last id chain so it =
    let below = all_below so.ids last id chain so.top it.4 in
    record {
      given = so.given ++ it.1 ∷ [];
      ids = so.ids ++ id ∷ [];
      has = it.2 sql [] so.given so.has;
      read = map-append (λ r. column r 0) so.given (it.1 ∷ []) ∙ ap (λ l. l ++ column it.1 0 ∷ []) so.read
          ∙ ap (λ v. map Int so.ids ++ v ∷ []) it.3 ∙ sym (map-append Int so.ids (id ∷ []));
      rises = rises_more so.ids id so.rises below;
      top = last_more so.ids id below;
      met = last_met so.ids id;
    }

abbrev pub by_rowid : List (Term × Key)
by_rowid = (col 1 0, record { collation = Binary; descending = false }) ∷ []

-- what the text of the table's scan asks for
abbrev Rowids : HallTable → Schema → Type 0
Rowids table schema = AsksAll (rowids_text table) (tree_of table) (col 1 0 ∷ []) by_rowid (codes "rowid" ∷ []) schema

pub rowids_are : (schema : Schema) (table : HallTable) → HasTable schema table → Rowids table schema
unfolding understood everything
rowids_are schema People =
    by_version (Rowids People)
    (λ u. record { is = refl; unlisted = refl; plain = (refl, refl); whole = refl; typed = refl })
    (λ u. record { is = refl; unlisted = refl; plain = (refl, refl); whole = refl; typed = refl }) schema
rowids_are schema Puzzles =
    by_version (Rowids Puzzles)
    (λ u. record { is = refl; unlisted = refl; plain = (refl, refl); whole = refl; typed = refl })
    (λ u. record { is = refl; unlisted = refl; plain = (refl, refl); whole = refl; typed = refl }) schema
rowids_are schema Rounds =
    by_version (Rowids Rounds)
    (λ u. record { is = refl; unlisted = refl; plain = (refl, refl); whole = refl; typed = refl })
    (λ u. record { is = refl; unlisted = refl; plain = (refl, refl); whole = refl; typed = refl }) schema
rowids_are schema Places =
    by_version (Rowids Places)
    (λ u. record { is = refl; unlisted = refl; plain = (refl, refl); whole = refl; typed = refl })
    (λ u. record { is = refl; unlisted = refl; plain = (refl, refl); whole = refl; typed = refl }) schema
rowids_are schema Answers =
    by_version (Rowids Answers)
    (λ u. record { is = refl; unlisted = refl; plain = (refl, refl); whole = refl; typed = refl })
    (λ u. record { is = refl; unlisted = refl; plain = (refl, refl); whole = refl; typed = refl }) schema
rowids_are schema Protests =
    by_version (Rowids Protests)
    (λ u. record { is = refl; unlisted = refl; plain = (refl, refl); whole = refl; typed = refl })
    (λ u. record { is = refl; unlisted = refl; plain = (refl, refl); whole = refl; typed = refl }) schema
rowids_are schema Testers =
    by_hall (Rowids Testers)
    (λ u. record { is = refl; unlisted = refl; plain = (refl, refl); whole = refl; typed = refl }) schema

pub all_pass : (rows : List Row) → filter (λ r. true) rows ≡ rows
all_pass [] = refl
all_pass (r ∷ rows) = ap (λ l. r ∷ l) (all_pass rows)

-- So it is in a table whose rowids, in some order, rise.
pub scanned_keyed : (table found : List Row) (ids : List ℤ) → IsPermutation table found → map rowid found ≡ map Int ids
    → Rises ids → AreKeyed table
scanned_keyed table found ids same is up = keyed_permuted found table (IsPermutation-sym _ _ same) (go found ids is up)
  where
    later : (i : ℤ) (r : Row) (rows : List Row) (js : List ℤ) → rowid r ≡ Int i → map rowid rows ≡ map Int js
        → AllByRecursion (λ j. int_cmp i j ≡ Less) js → AllByRecursion (Apart r) rows
    later i r [] [] at e all = tt
    later i r [] (j ∷ js) at e all = absurd cc
    later i r (y ∷ rows) [] at e all = absurd cc
    later i r (y ∷ rows) (j ∷ js) at e all =
        let head : rowid y ≡ Int j = cc in
        let tail : map rowid rows ≡ map Int js = cc in
        let low : value_cmp (rowid r) (rowid y) ≡ Less = rw (at, head) (value_cmp-Int i j ∙ all.0) in (
          (λ tie. let no : Less ≡ Equal = sym low ∙ tie in absurd (let f = ap is_eq no in cc)),
          later i r rows js at tail
              all.1,
        )

    go : (rows : List Row) (js : List ℤ) → map rowid rows ≡ map Int js → Rises js → AreKeyed rows
    go [] [] e up = record { ints = tt; distinct = tt }
    go [] (j ∷ js) e up = absurd cc
    go (r ∷ rows) [] e up = absurd cc
    go (r ∷ rows) (j ∷ js) e up =
        let head : rowid r ≡ Int j = cc in
        let tail : map rowid rows ≡ map Int js = cc in
        let more = go rows js tail up.1 in
        record {
          ints = (subst (λ v. IsTrue (is_int v)) (sym head) refl, more.ints);
          distinct =
              (later j r rows js head tail up.0, more.distinct);
        }

-- where the scan came to the end, no rowid stands twice
pub scanned_end : {S : Type 0} (g : Ghosts S) (table : HallTable) (h last_held : Held S) (last : Option ℤ)
    → HasTable h.schema table
    → HasScanned g (rowids_text table) h last → Advances g h last_held None
    → AreKeyed ((state g h).now.trees (tree_of table))
scanned_end g table h last_held last has so ends =
    let sql = rowids_text table in
    let rows = (state g h).now.trees (tree_of table) in
    let is = rowids_are h.schema table has in
    let shown : Shown sql [] (state g h) (state g last_held) so.given = ends sql [] so.given so.has in
    let sel = answers_selection sql [] (state g h) (state g last_held) (tree_of table) [] (col 1 0 ∷ []) by_rowid _
    is.is is.unlisted is.plain (apart table (state g h).now.trees) refl so.given shown in
    let same : IsPermutation rows sel.found = subst (λ l. IsPermutation l sel.found) (all_pass rows) sel.same in
    let ids : map rowid sel.found ≡ map Int so.ids = sym (ap (map (λ r. column r 0)) sel.shown
    ∙ map-map (λ r. column r 0) (λ r. eval_all (col 1 0 ∷ []) ([] ∷ r ∷ [])) sel.found) ∙ so.read in
    scanned_keyed rows sel.found so.ids same ids so.rises

pub scan_begun : {S : Type 0} (g : Ghosts S) (table : HallTable) (old new : Held S) → HasTable old.schema table
    → HasBegun g (rowids_text table) [] old new
    → IsUnchanged (state g old) (state g new) × HasScanned g (rowids_text table) new None
scan_begun g table old new has begun =
    let it = begun_plain g (rowids_text table) [] old new (rowids_are old.schema table has).plain begun in
    (it.1, record { given = []; ids = []; has = it.0; read = refl; rises = tt; top = refl; met = tt })

-- the hall's schema has each table
stands : (table : HallTable) → HasTable hall_schema table
stands People = inr (like_itself hall_schema)
stands Puzzles = inr (like_itself hall_schema)
stands Rounds = inr (like_itself hall_schema)
stands Places = inr (like_itself hall_schema)
stands Answers = inr (like_itself hall_schema)
stands Protests = inr (like_itself hall_schema)
stands Testers = like_itself hall_schema

-- so the query for its rowids shows nothing of a write
pub rowids_quiet : (table : HallTable) → ReturnsNothing (rowids_text table)
rowids_quiet table any = shows_nothing (rowids_text table) hall_schema any
    (ap is_select (rowids_are hall_schema table (stands table)).is)

pub ints_chain : (i j k : ℤ) → int_cmp i j ≡ Less → int_cmp j k ≡ Less → int_cmp i k ≡ Less
ints_chain = int_cmp_total.trans

left_unchanged : (a b c : State) → IsLeft a b → IsUnchanged b c → IsUnchanged a c
left_unchanged a b c left (shows, counts, marks) = (
  record {
    was_open = sym left.is_open ∙ shows.was_open;
    is_open = shows.is_open;
    now_is = shows.now_is ∙ left.now_is;
    committed_is = shows.committed_is ∙ left.committed_is;
    mode = shows.mode ∙ left.mode;
  },
  record { changes = counts.changes ∙ left.counts.changes; last_rowid = counts.last_rowid ∙ left.counts.last_rowid },
  marks ∙ left.marks,
)

unchanged_left : (a b : State) → IsUnchanged a b → IsLeft a b
unchanged_left a b (shows, counts, marks) = record {
  is_open = shows.is_open ∙ sym shows.was_open;
  now_is = shows.now_is;
  committed_is = shows.committed_is;
  mode = shows.mode;
  counts = counts;
  marks = marks;
}

-- what rests after the scan of some tables rests
pub scanned_rests : (tables : List HallTable) (a b c : State) → AreScanned tables a b → KeptOrRolledBack b c
    → KeptOrRolledBack a c
scanned_rests tables a b c some (inl same) = inl (left_unchanged a b c some.left same)
scanned_rests tables a b c some (inr back) = inr (record {
  was_open = λ opens. sym some.left.is_open ∙ back.was_open opens;
  undone = λ opens. let it = back.undone opens in (it.0 ∙ some.left.committed_is, it.1 ∙ some.left.committed_is);
  autocommit = back.autocommit;
  unmarked = back.unmarked;
  counts = record {
    changes = back.counts.changes ∙ some.left.counts.changes;
    last_rowid = back.counts.last_rowid
        ∙ some.left.counts.last_rowid;
  };
})

-- none was scanned yet
pub scanned_none : (s : State) → AreScanned [] s s
scanned_none s = record {
  left = record {
    is_open = refl;
    now_is = refl;
    committed_is = refl;
    mode = refl;
    counts =
        record { changes = refl; last_rowid = refl };
    marks = refl;
  };
  serves = tt;
  keyed = tt;
}

-- one table more
pub scanned_one_more : (tables : List HallTable) (table : HallTable) (a b c : State) → AreScanned tables a b
    → IsUnchanged b c → IsTableKeyed b table
    → AreScanned (tables ++ table ∷ []) a c
scanned_one_more tables table a b c some same one = record {
  left = unchanged_left a c (left_unchanged a b c some.left same);
  serves = serve tables;
  keyed = go tables some.keyed;
}
  where
    here : IsTableKeyed a table
    here = subst (λ (d : Database). AreKeyed (d.trees (tree_of table))) some.left.now_is one

    serve : (ts : List HallTable) → Serves (ts ++ table ∷ []) c
    serve [] = same.0.is_open
    serve (t ∷ ts) = same.0.is_open

    go : (ts : List HallTable) → AllByRecursion (IsTableKeyed a) ts → AllByRecursion (IsTableKeyed a) (ts ++ table ∷ [])
    go [] all = (here, tt)
    go (t ∷ ts) all = (all.0, go ts all.1)

-- the next of a list
pub scanned_next : (tables : List HallTable) (i : ℕ) (none : HallTable) (a b c : State) → i < length tables
    → AreScanned (take i tables) a b
    → IsUnchanged b c → IsTableKeyed b (get_or tables i none) → AreScanned (take (i + 1) tables) a c
scanned_next tables i none a b c low some same one =
    subst (λ l. AreScanned l a c) (sym (take_more tables i none low))
    (scanned_one_more (take i tables) (get_or tables i none) a b c some same one)
