-- What a sink has taken of the rows that a query gives.
use Rattle.std.proofs.Common.{◌≡◌, ◌⊎◌, inl, inr, ℕ, List, [], ◌∷◌, ◌++◌, map, flat_map, Option, Some, None}
use Rattle.std.proofs.Common.{Result, Ok, Err, IfOk, IsTrue, option_to_list, refl, sym, ap, subst, ◌∙◌, arith}
use Rattle.std.proofs.lemmas.Grind.{flat_map-append}
use Rattle.std.proofs.lemmas.List.{map-append}
use Rattle.std.specs.Result.{IsErrAnd}
use Rattle.sqlite_trees.specs.declared.store.Store.{Ghosts}
use Rattle.sqlite.specs.Order.{Row}
use Rattle.sqlite.specs.Effect.{Database, IsDatabase}
use Rattle.sqlite.specs.Held.{Held, state}
use Rattle.sqlite.specs.Given.{HasBegun, Advances}
use Rattle.sqlite.specs.Clock.{timed}
use Rattle.sqlite.specs.Listing.{understood, reads_listing, IsSourceOf}
use Rattle.sqlite.specs.State.{State, HasCleanDisk, IsUnchanged, Shown, ShowsRows}
use Rattle.sqlite.proofs.Callers.{IsPlain, given_begin, begun_plain, unchanged_then}
use Rattle.hall_policy.specs.World.{World}
use Rattle.hall_policy.specs.Sink.{HasTaken}
use Rattle.hall_store.specs.Store.{Fed}
use Rattle.sqlite.specs.Schema.{Schema}
use Rattle.hall_sql.specs.Tables.{IsHallSchema, IsLike}
use Rattle.hall_sql.proofs.Wordings.{Wording, hall_in, worded}
use Rattle.hall_sql.specs.Rows.{world_of}
use Rattle.hall_sql.specs.Scan.{tree_of}
use Rattle.hall_sql.specs.Standing.{AreAllKeyed, IsHall, IsTabled, KeptOrRolledBack, KeptTables, IsSelection}
use Rattle.hall_sql.specs.Content.{content_of}
use Rattle.hall_sql.specs.Feed.{HasRead, AreAll, AreFirst, FedRows}
use Rattle.hall_sql.specs.Whole.{AreRecords}
use Rattle.hall_sql.proofs.CallLemmas.{shown_was_open}
use Rattle.hall_sql.proofs.ContentLemmas.{all_read}
use Rattle.hall_sql.proofs.Queries.{Computes, RecordOf, TableQuery, begun, body_of, record_in, selection}

-- ---- a connection that is read on

pub rests_then : (a b c : State) → IsUnchanged a b → KeptOrRolledBack b c → KeptOrRolledBack a c
rests_then a b c p (inl q) = inl (unchanged_then a b c p q)
rests_then a b c p (inr q) = inr (record {
  was_open = λ opens. p.0.was_open;
  undone = λ opens. ((q.undone opens).0 ∙ p.0.committed_is, (q.undone opens).1 ∙ p.0.committed_is);
  autocommit = q.autocommit;
  unmarked = q.unmarked;
  counts = record { changes = q.counts.changes ∙ p.1.changes; last_rowid = q.counts.last_rowid ∙ p.1.last_rowid };
})

-- what a query answers of a connection that was left, it answers of it as it was
pub shown_since : (sql : List ℕ) (params : Row) (first old new : State) (rows : List Row)
    → IsPlain (understood first.now.schema sql)
    → IsUnchanged first old → Shown sql params old new rows → Shown sql params first new rows
unfolding Shown
shown_since sql params first old new rows plain same h =
    let is : understood first.now.schema sql ≡ Ok h.0 = ap (λ (d : Database). understood d.schema sql)
    (sym same.0.now_is) ∙ h.1.is in
    let none = (subst IsPlain is plain).0 in
    let full = timed params h.0.formats h.1.now in
    let it = subst (ShowsRows old new sql h.0 full rows) none h.2 in (
      h.0,
      record { is = is; whole = h.1.whole; given = h.1.given; now = h.1.now },
      subst (ShowsRows first new sql h.0 full rows) (sym none) (
        it.0,
        subst (λ (d : Database). IsSourceOf (reads_listing d.schema sql) d it.0) same.0.now_is it.1,
        it.2,
        unchanged_then first old new same it.3,
      ),
    )

begun_open : {S : Type 0} (g : Ghosts S) (sql : List ℕ) (params : Row) (old new : Held S)
    → HasBegun g sql params old new
    → IsTrue (state g old).is_open
begun_open g sql params old new (inl h) = h.1.0.was_open
begun_open g sql params old new (inr h) = shown_was_open sql params (state g old) (state g new) _ h.1

-- ---- what the sink has taken

pub taken_more : {K X : Type 0} (Takes : K → X → K → Type 0) (a b c : K) (xs : List X) (x : X) → HasTaken Takes a xs b
    → Takes b x c → HasTaken Takes a (xs ++ x ∷ []) c
taken_more Takes a b c [] x same t = (c, subst (λ k. Takes k x c) same t, refl)
taken_more Takes a b c (y ∷ xs) x more t = (more.0, more.1, taken_more Takes more.0 b c xs x more.2 t)

module _ {S X : Type 0} (g : Ghosts S) (read : Row → Option X) (sql : List ℕ) (params : Row) where
  -- a query that has begun has given no row
  pub read_none : {schema : Schema} (old new : Held S)
      → ((found : Schema) → IsLike schema found → IsPlain (understood found sql)) → IsTabled schema (state g old)
      → HasCleanDisk (state g old) → HasBegun g sql params old new → HasRead g read sql params (state g old) new []
  read_none old new plain hall clean begun =
      let has = (hall.settled clean (begun_open g sql params old new begun)).1 in
      let it = begun_plain g sql params old new (plain (state g old).now.schema has) begun in
      record { same = it.1; rows = []; given = it.0; reads = refl }

  module _ (first : State) (old new : Held S) (taken : List X) (so : HasRead g read sql params first old taken) where
    -- one row more
    pub read_more : (x : X) → IsUnchanged (state g old) (state g new) → (row : Row) → Advances g old new (Some row)
        → read row ≡ Some x → HasRead g read sql params first new (taken ++ x ∷ [])
    read_more x same row advances is = record {
      same = unchanged_then first (state g old) (state g new) so.same same;
      rows = so.rows ++ row ∷ [];
      given = advances sql params so.rows so.given;
      reads = map-append read so.rows (row ∷ []) ∙ ap (λ l. l ++ read row ∷ []) so.reads
          ∙ ap (λ o. map Some taken ++ o ∷ []) is ∙ sym (map-append Some taken (x ∷ []));
    }

    -- there is no row more
    pub read_all : {schema : Schema} → ((found : Schema) → IsLike schema found → IsPlain (understood found sql))
        → IsTabled schema first → HasCleanDisk first → Advances g old new None
        → AreAll read sql params first (state g new) taken
    read_all plain hall clean advances =
        let has = (hall.settled clean so.same.0.was_open).1 in
        record {
          served = so.same.0.was_open;
          rows = so.rows;
          reads = so.reads;
          shown = shown_since sql params first (state g old) (state g new) so.rows
              (plain first.now.schema has) so.same (advances sql params so.rows so.given);
        }

    -- what was read so far begins the answer
    pub read_first : AreFirst g read sql params first taken
    read_first = record {
      served = so.same.0.was_open;
      rows = so.rows;
      reads = so.reads;
      from = old;
      same = so.same.0.now_is;
      begun = given_begin g sql params old so.rows so.given;
    }

-- ---- what it says of the world

-- the records that the rows are
abbrev pub records : {X : Type 0} → (Row → Option X) → List Row → List X
records read = flat_map (λ row. option_to_list (read row))

-- the rows that the query selects, are the records that these worlds' listings ask for
abbrev pub Lists : (q : TableQuery) → Database → (World → List (RecordOf q.table) → Type 0) → Type 0
Lists q db AreRows =
    IsHallSchema db.schema → AreAllKeyed db.trees → IsDatabase db → (rows : List Row)
    → IsSelection (body_of q) (db.trees (tree_of q.table)) q.params rows
    → AreRows (world_of db.trees) (records (record_in q.table) rows)

module _ {q : TableQuery} (computes : (u : Wording) → Computes q (hall_in u)) {S : Type 0} (g : Ghosts S) where
  module _ (AreRows : World → List (RecordOf q.table) → Type 0) (s : State) (has : IsHallSchema s.now.schema)
      (keyed : AreAllKeyed s.now.trees) (sound : IsDatabase s.now) (lists : Lists q s.now AreRows)
      (taken : List (RecordOf q.table)) where
    all_listed : (new : State) → AreAll (record_in q.table) q.text q.params s new taken
        → AreRows (world_of s.now.trees) taken
    all_listed new all =
        let (u, words) = worded s.now.schema has in
        subst (AreRows (world_of s.now.trees)) (all_read (record_in q.table) all.rows taken all.reads)
        (lists has keyed sound all.rows (selection (computes u) s new all.rows words all.shown))

    first_listed : AreFirst g (record_in q.table) q.text q.params s taken
        → (left : List (RecordOf q.table)) × AreRows (world_of s.now.trees) (taken ++ left)
    first_listed first =
        let read = record_in q.table in
        let at = state g first.from in
        let (u, words) = worded s.now.schema has in
        let it = begun (computes u) at first.rows (ap (λ (d : Database). d.schema) first.same ∙ words) first.begun in
        let tail = it.0 in
        let answer = subst (λ t. IsSelection (body_of q) t q.params (first.rows ++ tail))
        (ap (λ (d : Database). d.trees (tree_of q.table)) first.same) it.1 in
        let all : records read (first.rows ++ tail) ≡ taken ++ records read tail =
        flat_map-append (λ r. option_to_list (read r)) first.rows tail
        ∙ ap (λ l. l ++ records read tail) (all_read read first.rows taken first.reads) in (
          records read tail,
          subst (AreRows (world_of s.now.trees)) all (lists has keyed sound (first.rows ++ tail) answer),
        )

  -- a sink that has taken a query's rows has taken the world's
  pub fed_rows : {K E : Type 0} (Takes : K → RecordOf q.table → K → Type 0)
      (AreRows : World → List (RecordOf q.table) → Type 0) (old new : State)
      (before after : K) (result : Result (Unit {0}) E) → IsHall old → KeptTables old new
      → (IsTrue old.is_open → IsDatabase old.now) → Lists q old.now AreRows
      → FedRows g (record_in q.table) Takes q.text q.params old new before result after
      → Fed Takes AreRows (content_of old) (content_of new) before result after
  fed_rows Takes AreRows old new before after (Ok done) hall rested sound lists fed = λ clean.
      let was : HasCleanDisk old = omega (arith, rested.follows.lasts.clean, clean) in
      let it = fed.2 clean in
      let opened = it.1.served in
      let all = all_listed AreRows old (hall.settled was opened).1 (hall.keyed was opened) (sound opened) lists fed.0
      new it.1 in
      (it.0, (fed.0, all, fed.1))
  fed_rows {K} {E} Takes AreRows old new before after (Err fault) hall rested sound lists fed = (fed.0, fed.1, go fed.2)
    where
      go : ((fed.0 ≡ []) ⊎ (HasCleanDisk new → AreFirst g (record_in q.table) q.text q.params old fed.0))
          → (fed.0 ≡ []) ⊎ (HasCleanDisk new → IsTrue old.is_open
          × ((left : List (RecordOf q.table)) × AreRows (world_of old.now.trees) (fed.0 ++ left)))
      go (inl none) = inl none
      go (inr part) = inr (λ clean.
          let was : HasCleanDisk old = omega (arith, rested.follows.lasts.clean, clean) in
          let it = part clean in
          let opened = it.served in (
            opened,
            first_listed AreRows old (hall.settled was opened).1 (hall.keyed was opened) (sound opened) lists
                fed.0 it,
          ))

-- a call that is refused after the first rows
pub fed_first : {S K X E : Type 0} (g : Ghosts S) (read : Row → Option X) (Takes : K → X → K → Type 0) (sql : List ℕ)
    (params : Row)
    (old new : State) (before after : K) (result : Result (Unit {0}) E) (P : E → Type 0) → IsErrAnd result P
    → (taken : List X) → HasTaken Takes before taken after → (HasCleanDisk new → AreFirst g read sql params old taken)
    → FedRows g read Takes sql params old new before result after
fed_first g read Takes sql params old new before after (Ok done) P is taken took part = absurd is
fed_first g read Takes sql params old new before after (Err fault) P is taken took part = (taken, took, inr part)

-- where a sink was given all, each row of the query is a record
pub fed_whole : {S K X E : Type 0} (g : Ghosts S) (read : Row → Option X) (Takes : K → X → K → Type 0) (sql : List ℕ)
    (params : Row)
    (old new : State) (before after : K) (result : Result (Unit {0}) E) → HasCleanDisk new
    → FedRows g read Takes sql params old new before result after
    → IfOk result (λ _. AreRecords read sql params old new)
fed_whole g read Takes sql params old new before after (Ok done) clean fed =
    let all = (fed.2 clean).1 in
    record { rows = all.rows; records = fed.0; reads = all.reads; shown = all.shown }
fed_whole g read Takes sql params old new before after (Err fault) clean fed = tt
