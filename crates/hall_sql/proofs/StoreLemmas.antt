-- From what a statement leaves to what the trait of stores says.
use Rattle.std.proofs.Common.{◌≡◌, inl, ℕ, List, Option, IsTrue, Result, Ok, Err, IfOk, refl, sym, ap, subst, ◌∙◌}
use Rattle.std.proofs.Common.{arith}
use Rattle.sqlite_trees.specs.declared.store.Store.{Ghosts}
use Rattle.sqlite.specs.Tree.{Trees}
use Rattle.sqlite.specs.Held.{Held, state}
use Rattle.sqlite.specs.Effect.{Database}
use Rattle.sqlite.specs.Order.{Row}
use Rattle.sqlite.specs.State.{State, HasCleanDisk, IsLive}
use Rattle.hall_policy.specs.World.{World}
use Rattle.hall_store.specs.Store.{IsSettled, Kept, Served}
use Rattle.sqlite.specs.Schema.{Schema}
use Rattle.hall_sql.specs.Tables.{IsHallSchema, IsLike, hall_schema}
use Rattle.hall_sql.specs.Rows.{world_of}
use Rattle.hall_sql.specs.Cause.{AreRead}
use Rattle.hall_sql.specs.Whole.{AreRecords}
use Rattle.hall_sql.specs.Stands.{HoldsHall, ListsLike, OpensTo, StandsFor}
use Rattle.hall_sql.specs.Standing.{AreKeyedIn, IsHall, IsOver, IsTabled, KeptTables, KeptAnyTables, KeptTablesIn}
use Rattle.hall_sql.specs.Standing.{KeptRowsIn}
use Rattle.hall_sql.specs.Content.{content_of}
use Rattle.hall_sql.proofs.LastLemmas.{follows_leads, last_then, quiet_then}
use Rattle.hall_sql.proofs.UnreadMarks.{mark_kept}

-- the hall's tables are tables of a schema
pub over_hall : {Fits : Schema → Type 0} {s : State} → IsHall s
    → ((schema : Schema) → IsHallSchema schema → Fits schema) → IsOver Fits s
over_hall hall fits = record { schema = hall_schema; tabled = hall; fits = fits }

-- and rest where any do
pub rested_hall : {old new : State} → IsHall old → KeptAnyTables old new → KeptTables old new
rested_hall hall rested = rested hall_schema hall

-- what a query over tables of a schema tells has its meaning in the world that stays
pub told_so : {schema : Schema} (old new : State) (Means : World → Type 0) → IsTabled schema old
    → KeptTablesIn schema old new
    → (HasCleanDisk new → IsTrue new.is_open)
    → (HasCleanDisk new → IsTrue old.is_open → IsLike schema old.now.schema → AreKeyedIn schema old.now.trees
    → Means (world_of old.now.trees))
    → HasCleanDisk new → IsTrue new.is_open × Means (world_of new.now.trees)
told_so old new Means hall rested serves means clean =
    let opens = serves clean in
    let was : HasCleanDisk old = omega (arith, rested.follows.lasts.clean, clean) in
    let opened = rested.follows.opened clean opens in (
      opens,
      subst (λ (d : Database). Means (world_of d.trees)) (sym (rested.same clean opens))
          (means clean opened (hall.settled was opened).1 (hall.keyed was opened)),
    )

-- and so does what a read hands over, which holds in a store that serves alone
pub told : {schema : Schema} {R E : Type 0} (old new : State) (result : Result R E) (P : R → Type 0)
    (Means : World → R → Type 0) → IsTabled schema old → KeptTablesIn schema old new
    → (HasCleanDisk new → IfOk result P) → ((x : R) → P x → IsTrue new.is_open)
    → ((x : R) → P x → HasCleanDisk new → IsTrue old.is_open → IsLike schema old.now.schema
    → AreKeyedIn schema old.now.trees → Means (world_of old.now.trees) x)
    → Served (content_of new) result Means
told old new (Ok x) P Means hall rested has serves means = λ clean.
    told_so old new (λ world. Means world x) hall rested (λ now. serves x (has now)) (λ now. means x (has now) now)
    clean
told old new (Err e) P Means hall rested has serves means = tt

-- and what is made of what calls told, where the store serves
pub served_so : {R E : Type 0} (new : State) (result : Result R E) (Means : World → R → Type 0)
    → (HasCleanDisk new → IsTrue new.is_open)
    → (HasCleanDisk new → IfOk result (Means (world_of new.now.trees))) → Served (content_of new) result Means
served_so new (Ok x) Means serves means = λ clean. (serves clean, means clean)
served_so new (Err e) Means serves means = tt

-- what rests is kept
pub rested_kept : {schema : Schema} (old new : State) → KeptTablesIn schema old new
    → Kept (content_of old) (content_of new)
rested_kept old new rested =
    let leads = follows_leads old new rested.follows in
    record {
      honest = leads.honest;
      serves = leads.serves;
      counts = leads.counts;
      lasts = leads.lasts;
      writes = mark_kept old new rested.follows rested.same;
      stops = λ clean left it. (it.0, rested.stops clean it.0 it.1, it.2);
      world = λ clean opens. ap (λ (d : Database). world_of d.trees) (rested.same clean opens);
    }

-- a call that rests after one that did
pub rests_on : {schema : Schema} (old mid new : State) → KeptTablesIn schema old mid → KeptTablesIn schema mid new
    → KeptTablesIn schema old new
rests_on old mid new first second =
    let before = λ (clean : HasCleanDisk new). let was : HasCleanDisk mid = omega
    (arith, second.follows.lasts.clean, clean) in was in
    record {
      tabled = second.tabled;
      follows = record {
        lasts = last_then old mid new first.follows.lasts second.follows.lasts;
        opened = λ clean opens. first.follows.opened (before clean) (second.follows.opened clean opens);
      };
      same = λ clean opens. second.same clean opens ∙ first.same (before clean) (second.follows.opened clean opens);
      stops = quiet_then old mid new first.stops second.follows.lasts second.stops;
    }

-- where no outcome was added, the tables stayed
pub rested_stayed : {schema : Schema} {old new : State} → KeptTablesIn schema old new → KeptRowsIn schema old new
rested_stayed rested = record { tabled = rested.tabled; follows = rested.follows; same = rested.same }

-- and stayed over a call that rests before one after which they stayed
pub stays_on : {schema : Schema} (old mid new : State) → KeptTablesIn schema old mid → KeptRowsIn schema mid new
    → KeptRowsIn schema old new
stays_on old mid new first second =
    let before = λ (clean : HasCleanDisk new). let was : HasCleanDisk mid = omega
    (arith, second.follows.lasts.clean, clean) in was in
    record {
      tabled = second.tabled;
      follows = record {
        lasts = last_then old mid new first.follows.lasts second.follows.lasts;
        opened = λ clean opens. first.follows.opened (before clean) (second.follows.opened clean opens);
      };
      same = λ clean opens. second.same clean opens ∙ first.same (before clean) (second.follows.opened clean opens);
    }

-- what holds of any answer holds of this one
pub always : {R E : Type 0} (result : Result R E) (P : Type 0) → P → IfOk result (λ _. P)
always (Ok x) P holds = holds
always (Err e) P holds = tt

-- the rows that were read are all that a query answered
pub read_whole : {X : Type 0} (read : Row → Option X) (sql : List ℕ) (params : Row) (old new : State) (records : List X)
    → AreRead read sql params old new records → AreRecords read sql params old new
read_whole read sql params old new records it =
    record { rows = it.1.rows; records = records; reads = it.1.reads; shown = it.1.shown }

-- a database that lists the hall's tables opens to the world of its rows
pub opens_hall : (world : World) (db : Trees) (left : World) → HoldsHall world db → OpensTo StandsFor db left
    → left ≡ world
opens_hall world db left holds opens = opens world (inl (holds.0, sym holds.1))

-- as an open store's does
pub lists_hall : (s : State) → IsHall s → IsLive s → HasCleanDisk s → IsTrue s.is_open
    → ListsLike hall_schema s.now.trees
lists_hall s hall live clean opens = (s.now.schema, (hall.settled clean opens).1, (live opens).0)

-- at rest, while the store serves, a stop leaves its world
pub settled_at : {S : Type 0} (g : Ghosts S) → ((s : S) (db : Trees) → IsTrue (g.view s).is_open → g.recovers s db
    → db ≡ (g.view s).committed)
    → (held : Held S) → IsHall (state g held) → IsLive (state g held) → IsSettled (content_of (state g held))
settled_at g law held hall live clean opens left it =
    let s = state g held in
    let same : it.0 ≡ s.now.trees = law held.store it.0 opens it.1
    ∙ sym (ap (λ (d : Database). d.trees) (hall.settled clean opens).0) in
    opens_hall (world_of s.now.trees) it.0 left (subst (HoldsHall (world_of s.now.trees)) (sym same)
    (lists_hall s hall live clean opens, refl)) it.2
