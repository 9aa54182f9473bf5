-- What a migration leaves of the target.
use Rattle.std.proofs.Common.{◌≡◌, ◌≢◌, ◌↔◌, [], inl, inr, ℕ, Bool, false, IsErrAnd, IsTrue, Result, Ok, Err, refl, sym}
use Rattle.std.proofs.Common.{ap, subst, ◌∙◌, arith}
use Rattle.std.proofs.lemmas.Result.{IfErr-weaker}
use Rattle.std.specs.FinMap.{empty}
use Rattle.sqlite.specs.Effect.{Database}
use Rattle.sqlite.specs.Held.{Held, state}
use Rattle.sqlite.specs.State.{State, HasCleanDisk, IsLive}
use Rattle.sqlite_trees.specs.declared.store.Store.{Ghosts}
use Rattle.sqlite.specs.Tree.{Trees}
use Rattle.hall_policy.specs.World.{World}
use Rattle.hall_store.specs.Maps.{empty_world}
use Rattle.hall_store.specs.Store.{Fails, IsSettled, Leads, LeavesNoOther, Served}
use Rattle.hall_store.specs.declared.fault.StoreFault.{StoreFault}
use Rattle.hall_store.specs.declared.fault.StoreFault.TheVariants.{Failed}
use Rattle.hall_store.proofs.Knowing.{leads_then}
use Rattle.hall_sql.specs.declared.tables.HallTable.TheVariants.{Testers}
use Rattle.hall_sql.specs.declared.migration.Migrated.{Migrated}
use Rattle.hall_sql.specs.declared.migration.Migrated.TheVariants.{Done, Occupied}
use Rattle.hall_sql.specs.declared.whole.Whole.{Whole}
use Rattle.hall_sql.specs.AllRead.{AreAllRead, IsRead}
use Rattle.hall_sql.specs.Cause.{ReadFails}
use Rattle.hall_sql.specs.Fill.{AreFilled, Fills}
use Rattle.hall_sql.specs.FillCause.{CannotFill, FillCountedFails, TablesFail, TakeFails}
use Rattle.hall_sql.specs.Migrate.{TookWorld, HoldsOther, Leaves, Migrates, StandsForOld, StopsAtWorld, TargetTakes}
use Rattle.hall_sql.specs.Migrate.{WasBefore, old_content_of}
use Rattle.hall_sql.specs.Rows.{tester_in, world_of}
use Rattle.hall_sql.specs.Stands.{HoldsHall, ListsLike}
use Rattle.hall_sql.specs.Standing.{AddsOutcomes, IsBareLike, IsHall, IsTabled, KeptTables, KeptAnyTables, KeptTablesIn}
use Rattle.hall_sql.specs.Content.{content_of}
use Rattle.hall_sql.specs.declared.testers.TheConstants.{ALL_TESTERS}
use Rattle.hall_sql.specs.Tables.{hall_schema, old_schema}
use Rattle.hall_sql.specs.Versions.{IsAnyHall}
use Rattle.hall_sql.specs.Whole.{AreRecords}
use Rattle.hall_sql.specs.WholeRows.{AreRowsOf, AreSameRows, IsEmptyIn, count_of, without_testers}
use Rattle.hall_sql.proofs.AdoptLemmas.{bare_world as bare_empty}
use Rattle.hall_sql.proofs.AllRead.{all_bare, bare_read, read_all, read_before, read_fails}
use Rattle.hall_sql.proofs.FillLemmas.{FillsWorlds, fills_read, fills_worlds}
use Rattle.hall_sql.proofs.FilledWorlds.{filled_whole}
use Rattle.hall_sql.proofs.CanonicalTexts.{fills_texts}
use Rattle.hall_sql.proofs.LastLemmas.{follows_leads}
use Rattle.hall_sql.proofs.StoreLemmas.{always, opens_hall, over_hall, rested_hall, rested_stayed, rests_on, stays_on}
use Rattle.hall_sql.proofs.TransactionLemmas.{rests_itself}
use Rattle.hall_sql.proofs.WriteCauseLemmas.{cause_over}
use Rattle.hall_sql.proofs.WholeRows.{bare_rows, bare_world, none_counted, nothing_kept, one_rows, one_world}
use Rattle.hall_sql.proofs.WholeRows.{rows_counted}

-- ---- what the tables hold beside rows

-- a world with testers is neither nothing nor a world without
pub has_some : (held : World) → ¬ (held.testers ≡ empty) → (held ≢ empty_world)
    × ((world : World) → world.testers ≡ empty → held ≢ world)
has_some held some = (
  λ is. some (ap (λ (w : World). w.testers) is),
  λ world bare is. some
      (ap (λ (w : World). w.testers) is ∙ bare),
)

module _ (held : World) (found : Whole) (are : AreRowsOf held found) where
  pub is_nothing : held.testers ≡ empty → count_of found ≡ 0 → held ≡ empty_world
  is_nothing none zero = bare_world held none ∙ nothing_kept held found are zero

  pub is_something : ¬ (count_of found ≡ 0) → held ≢ empty_world
  is_something some is = some (rows_counted held found are ∙ none_counted held (ap without_testers is))

  module _ (world : World) (rows : Whole) (own : AreRowsOf world rows) where
    pub are_these : held.testers ≡ empty → world.testers ≡ empty → AreSameRows found rows → held ≡ world
    are_these none bare same = bare_world held none ∙ one_world held world found rows are own same
        ∙ sym (bare_world world bare)

    pub are_others : ¬ (AreSameRows found rows) → held ≢ world
    are_others apart is = apart (one_rows held world found rows are own (ap without_testers is))

module _ (mid new : State) (held : Whole) (rested : KeptTables mid new)
    (read : HasCleanDisk mid → IsTrue mid.is_open × AreRowsOf (world_of mid.now.trees) held)
    (has : Bool) (told : HasCleanDisk new → IsTrue new.is_open
    × ((has ≡ false) ↔ ((world_of new.now.trees).testers ≡ empty))) where
  -- the rows that were read are those of the tables after the look for testers
  still : HasCleanDisk new → AreRowsOf (world_of new.now.trees) held
  still clean =
      let was : HasCleanDisk mid = omega (arith, rested.follows.lasts.clean, clean) in
      subst (λ (d : Database). AreRowsOf (world_of d.trees) held) (sym (rested.same clean (told clean).0)) (read was).1

  pub finds_nothing : has ≡ false → count_of held ≡ 0 → HasCleanDisk new → IsTrue new.is_open
      × (world_of new.now.trees ≡ empty_world)
  finds_nothing none zero clean =
      let it = told clean in (it.0, is_nothing (world_of new.now.trees) held (still clean) (it.1.0 none) zero)

  pub finds_these : (rows : Whole) → has ≡ false → AreSameRows held rows → HasCleanDisk new
      → IsTrue new.is_open × ((world : World) → AreRowsOf world rows → world.testers ≡ empty
      → world_of new.now.trees ≡ world)
  finds_these rows none same clean =
      let it = told clean in (
        it.0,
        λ world own bare. are_these (world_of new.now.trees) held (still clean) world rows own (it.1.0 none) bare
            same,
      )

  pub finds_others : (rows : Whole) → ¬ (count_of held ≡ 0) → ¬ (AreSameRows held rows) → HasCleanDisk new
      → IsTrue new.is_open × ((world_of new.now.trees ≢ empty_world)
      × ((world : World) → AreRowsOf world rows → world.testers ≡ empty → world_of new.now.trees ≢ world))
  finds_others rows some apart clean =
      let now = still clean in (
        (told clean).0,
        (
          is_something (world_of new.now.trees) held now some,
          λ world own bare. are_others
              (world_of new.now.trees) held now world rows own apart,
        ),
      )

-- six tables that are read, and that of the testers
all_seven : (trees : Trees) → AreAllRead old_schema trees → IsRead trees 14 → AreAllRead hall_schema trees
all_seven trees six testers = (
  six.0,
  (
    six.1.0,
    (
      six.1.1.0,
      (
        six.1.1.1.0,
        (six.1.1.1.1.0, (six.1.1.1.1.1.0, (testers, tt))),
      ),
    ),
  ),
)

-- the rows were read, and then the testers
pub compared : (old mid new : State) → IsHall old → KeptAnyTables old mid → (HasCleanDisk mid → IsTrue mid.is_open)
    → (HasCleanDisk mid → AreAllRead old_schema old.now.trees) → KeptTables mid new
    → (HasCleanDisk new → AreRecords tester_in ALL_TESTERS.now [] mid new) → HasCleanDisk new
    → AreAllRead hall_schema old.now.trees
compared old mid new hall rested serves six after testers clean =
    let was : HasCleanDisk mid = omega (arith, after.follows.lasts.clean, clean) in
    let over : IsAnyHall old = over_hall hall (λ schema ours. inr ours) in
    all_seven old.now.trees (six was)
    (read_before 14 old mid over rested was (serves was)
    (read_all Testers mid new was (over_hall (rested_hall {old = old} {new = mid} hall rested).tabled (λ schema ours. ours))
    (testers clean)))

-- where not each row of the older version's tables is a record, not each of all is
pub six_fail : (old new : State) → TablesFail old_schema old new → TablesFail hall_schema old new
six_fail old new (inl cause) = inl cause
six_fail old new (inr unread) =
    inr (λ all. unread (all.0, (all.1.0, (all.1.1.0, (all.1.1.1.0, (all.1.1.1.1.0, (all.1.1.1.1.1.0, tt)))))))

-- and so where the testers aren't read after them
pub testers_fail : (old mid new : State) → IsHall old → KeptAnyTables old mid → (HasCleanDisk mid → IsTrue mid.is_open)
    → KeptTables mid new
    → HasCleanDisk new → ReadFails tester_in ALL_TESTERS.now [] mid new → TablesFail hall_schema old new
testers_fail old mid new hall rested serves after clean why =
    let first = rested_hall {old = old} {new = mid} hall rested in
    let was : HasCleanDisk mid = omega (arith, after.follows.lasts.clean, clean) in
    elim (read_fails Testers mid new was (over_hall first.tabled (λ schema ours. ours)) why) [
      | inl cause ↦ inl (cause_over old mid new first.follows.lasts was after.follows.lasts cause)
      | inr unread ↦ inr (λ all. unread (subst (λ (d : Database). IsRead d.trees 14) (sym (first.same was (serves was)))
          all.1.1.1.1.1.1.0))
    ]

-- why a target takes nothing that was found to hold nothing
pub take_fails : (old mid new : State) (rows : Whole) (result : Result Migrated StoreFault) → KeptTables old mid
    → (HasCleanDisk mid → IsTrue mid.is_open) → IsEmptyIn mid → Leaves mid new result
    → (HasCleanDisk new → Fails (FillCountedFails rows mid new) result) → HasCleanDisk new
    → Fails (TakeFails rows old new) result
take_fails old mid new rows (Ok migrated) rested serves bare leaves cause clean = tt
take_fails old mid new rows (Err e) rested serves bare leaves cause clean = λ failed.
    let was : HasCleanDisk mid = omega (arith, leaves.follows.lasts.clean, clean) in
    let opens = serves was in
    elim (cause clean failed) [
      | inl store ↦ inl (inl (cause_over old mid new rested.follows.lasts was leaves.follows.lasts store))
      | inr cannot ↦ inr (subst (λ (d : Database). IsBareLike hall_schema d × CannotFill rows d) (rested.same was opens)
          (bare was opens, cannot))
    ]

-- ---- what a target took

-- tables that hold nothing, of which each row is a record, have no row
pub found_bare : (old new : State) → KeptTables old new → (HasCleanDisk new → IsTrue new.is_open
    × (world_of new.now.trees ≡ empty_world))
    → (HasCleanDisk new → AreAllRead hall_schema old.now.trees) → IsEmptyIn new
found_bare old new rested told read clean opens =
    all_bare new.now (rested.tabled.settled clean opens).1 (told clean).1
    (subst (λ (d : Database). AreAllRead hall_schema d.trees) (sym (rested.same clean opens)) (read clean))

-- tables that had no row were filled
pub filled_takes : (old new : State) (world : World) (rows : Whole) (count : ℕ) → AreRowsOf world rows
    → world.testers ≡ empty
    → count ≡ count_of rows → IsEmptyIn old → Leads (content_of old) (content_of new)
    → (HasCleanDisk new → IsTrue new.is_open × Fills rows old.now new.now)
    → HasCleanDisk new → TookWorld world count old new
filled_takes old new world rows count are bare is empties leads filled clean =
    let it = filled clean in
    let none : IsBareLike hall_schema old.now = empties (leads.honest clean) (leads.serves clean it.0) in
    record {
      serves = it.0;
      held = filled_whole world (world_of new.now.trees) rows are
          (subst (λ (w : World). FillsWorlds rows w (world_of new.now.trees)) (bare_empty old.now.trees none.empty)
          (fills_worlds rows old.now new.now it.1))
          ∙ sym (bare_world world bare);
      read = fills_read rows old.now new.now it.1 (bare_read old.now none);
      before = inl (none, is ∙ rows_counted world rows are, fills_texts rows old.now new.now it.1 none.empty.1.0);
    }

-- what a stop leaves of tables that had no row, and are filled
pub filled_stops : (old new : State) (world : World) (rows : Whole) → AreRowsOf world rows → world.testers ≡ empty
    → IsEmptyIn old → Leads (content_of old) (content_of new)
    → (IsTrue old.is_open → AddsOutcomes (AreFilled rows old.now) old new) → IsTrue old.is_open
    → StopsAtWorld world old new
filled_stops old new world rows are bare empties leads outcomes opens clean left it =
    elim (outcomes opens clean it.0 it.1) [
      | inl earlier ↦ inl (it.0, earlier, it.2)
      | inr made ↦
          let none : IsBareLike hall_schema old.now = empties (leads.honest clean) opens in
          let whole : world_of made.0.trees ≡ world =
          filled_whole world (world_of made.0.trees) rows are
          (subst (λ (w : World). FillsWorlds rows w (world_of made.0.trees)) (bare_empty old.now.trees none.empty)
          (fills_worlds rows old.now made.0 made.1))
          ∙ sym (bare_world world bare) in
          inr (opens, opens_hall world it.0 left (subst (HoldsHall world) (sym made.3) (made.2, whole)) it.2)
    ]

-- what a stop leaves of tables that rest
pub rested_stops : (old new : State) (world : World) → KeptTables old new → StopsAtWorld world old new
rested_stops old new world rested clean left it = inl (it.0, rested.stops clean it.0 it.1, it.2)

-- and of those that rested before they were filled
pub stops_after : (old mid new : State) (world : World) → KeptTables old mid → (HasCleanDisk mid → IsTrue mid.is_open)
    → Leads (content_of mid) (content_of new)
    → (IsTrue mid.is_open → StopsAtWorld world mid new) → StopsAtWorld world old new
stops_after old mid new world rested serves leads stops clean left it =
    let was = leads.honest clean in
    let opens = serves was in
    elim (stops opens clean left it) [
      | inl earlier ↦ inl (earlier.0, rested.stops was earlier.0 earlier.1, earlier.2)
      | inr made ↦ inr (rested.follows.opened was opens, made.1)
    ]

-- whatever is answered, a target that was left or filled leads on
pub leaves_leads : (old new : State) (result : Result Migrated StoreFault) → Leaves old new result
    → Leads (content_of old) (content_of new)
leaves_leads old new (Ok (Done count)) leaves = leaves
leaves_leads old new (Ok Occupied) leaves = follows_leads old new leaves.follows
leaves_leads old new (Err fault) leaves = follows_leads old new leaves.follows

-- a target that took after it rested
pub leaves_after : (old mid new : State) (result : Result Migrated StoreFault) → KeptTables old mid
    → Leaves mid new result → Leaves old new result
leaves_after old mid new (Ok (Done count)) rested leaves =
    leads_then (content_of old) (content_of mid) (content_of new) (follows_leads old mid rested.follows) leaves
leaves_after old mid new (Ok Occupied) rested leaves = rests_on old mid new rested leaves
leaves_after old mid new (Err fault) rested leaves = stays_on old mid new rested leaves

was_after : (old mid new : State) (world : World) (count : ℕ) → KeptTables old mid → HasCleanDisk mid
    → IsTrue mid.is_open
    → WasBefore world count mid new → WasBefore world count old new
was_after old mid new world count rested clean opens (inl bare) = inl
    (subst (IsBareLike hall_schema) (rested.same clean opens) bare.0, bare.1, bare.2)
was_after old mid new world count rested clean opens (inr held) =
    inr (
      subst (λ (d : Database). world_of d.trees ≡ world) (rested.same clean opens) held.0,
      held.1,
      rests_on old mid
          new rested held.2,
    )

pub takes_after : (old mid new : State) (world : World) (result : Result Migrated StoreFault) → KeptTables old mid
    → (HasCleanDisk mid → IsTrue mid.is_open)
    → Leaves mid new result → TargetTakes world mid new result → TargetTakes world old new result
takes_after old mid new world (Ok (Done count)) rested serves leaves takes = λ clean.
    let it = takes clean in
    let was : HasCleanDisk mid = leaves.honest clean in
    record {
      serves = it.serves;
      held = it.held;
      read = it.read;
      before = was_after old mid new world count rested was
          (serves was) it.before;
    }
takes_after old mid new world (Ok Occupied) rested serves leaves takes = λ clean.
    let it = takes clean in
    let was : HasCleanDisk mid = omega (arith, leaves.follows.lasts.clean, clean) in
    let same = rested.same was (serves was) in
    record {
      some = subst (λ (d : Database). world_of d.trees ≢ empty_world) same it.some;
      other = subst (λ (d : Database). world_of d.trees ≢ world) same it.other;
      read = subst (λ (d : Database). AreAllRead hall_schema d.trees) same it.read;
    }
takes_after old mid new world (Err fault) rested serves leaves takes = tt

-- it held the world already
pub had_taken : (old new : State) (world : World) → KeptTables old new
    → (HasCleanDisk new → IsTrue new.is_open × (world_of new.now.trees ≡ world))
    → (HasCleanDisk new → AreAllRead hall_schema old.now.trees)
    → HasCleanDisk new → TookWorld world 0 old new
had_taken old new world rested has read clean =
    let it = has clean in
    let same = rested.same clean it.0 in
    record {
      serves = it.0;
      held = it.1;
      read = subst (λ (d : Database). AreAllRead hall_schema d.trees) (sym same) (read clean);
      before = inr (subst (λ (d : Database). world_of d.trees ≡ world) same it.1, refl, rested);
    }

-- it holds another
pub is_left : (old new : State) (world : World) → KeptTables old new
    → (HasCleanDisk new → IsTrue new.is_open × ((world_of new.now.trees ≢ empty_world)
    × (world_of new.now.trees ≢ world)))
    → (HasCleanDisk new → AreAllRead hall_schema old.now.trees) → HasCleanDisk new → HoldsOther world old
is_left old new world rested has read clean =
    let it = has clean in
    let same = rested.same clean it.0 in
    record {
      some = subst (λ (d : Database). world_of d.trees ≢ empty_world) same it.1.0;
      other = subst (λ (d : Database). world_of d.trees ≢ world) same it.1.1;
      read = read clean;
    }

-- ---- the source

-- its rows are those of its world, which has no testers
pub source_told : (s : State) (result : Result Whole StoreFault) → Served (content_of s) result AreRowsOf
    → Served (old_content_of s) result AreRowsOf
source_told s (Ok rows) told = λ clean. let it = told clean in (it.0, bare_rows (world_of s.now.trees) rows it.1)
source_told s (Err fault) told = tt

-- a stop leaves it as it could be left before
source_stops : (was now : State) → KeptTablesIn old_schema was now
    → LeavesNoOther (old_content_of was) (old_content_of now)
source_stops was now rested clean left it = (it.0, rested.stops clean it.0 it.1, it.2)

-- and at rest, while it serves, as it is
pub source_settled : {S : Type 0} (g : Ghosts S) → ((s : S) (db : Trees) → IsTrue (g.view s).is_open → g.recovers s db
    → db ≡ (g.view s).committed)
    → (held : Held S) → IsTabled old_schema (state g held) → IsLive (state g held)
    → IsSettled (old_content_of (state g held))
source_settled g law held tabled live clean opens left it =
    let s = state g held in
    let same : it.0 ≡ s.now.trees = law held.store it.0 opens it.1
    ∙ sym (ap (λ (d : Database). d.trees) (tabled.settled clean opens).0) in
    let listed : ListsLike old_schema s.now.trees = (s.now.schema, (tabled.settled clean opens).1, (live opens).0) in
    let world = without_testers (world_of s.now.trees) in
    it.2 world (subst (λ (db : Trees). StandsForOld db world) (sym same) (listed, refl))

-- ---- both

-- what the target did with the rows that were read
pub migrated : (was now before after : State) (rows : Whole) (result : Result Migrated StoreFault)
    → KeptTablesIn old_schema was now
    → (HasCleanDisk now → IsTrue now.is_open × AreRowsOf (without_testers (world_of now.now.trees)) rows)
    → (HasCleanDisk now → AreAllRead old_schema was.now.trees)
    → Leaves before after result
    → ((world : World) → AreRowsOf world rows → world.testers ≡ empty → StopsAtWorld world before after)
    → ((world : World) → AreRowsOf world rows → world.testers ≡ empty → TargetTakes world before after result)
    → (HasCleanDisk after → Fails (TakeFails rows before after) result) → Migrates was now before after result
migrated was now before after rows result rested told read leaves stops takes fails = record {
  source = rested;
  kept = source_stops was now rested;
  read = λ clean. always result (AreAllRead old_schema was.now.trees) (read clean);
  target = leaves;
  stops = λ clean.
      let it = told clean in
      subst (λ (d : Database). StopsAtWorld (without_testers (world_of d.trees)) before after) (rested.same clean it.0)
      (stops (without_testers (world_of now.now.trees)) it.1 refl);
  taken = λ clean.
      let it = told clean in
      subst (λ (d : Database). TargetTakes (without_testers (world_of d.trees)) before after result)
      (rested.same clean it.0)
      (takes (without_testers (world_of now.now.trees)) it.1 refl);
  cause = λ clean late.
      let it = told clean in
      let own = subst (λ (d : Database). AreRowsOf (without_testers (world_of d.trees)) rows) (rested.same clean it.0)
      it.1 in
      IfErr-weaker result _ _ (λ fault why failed. inr (rows, own, why failed)) (fails late);
}

-- where the source could not be read, the target was not asked
pub unmigrated : (was now before : State) (fault : StoreFault) (result : Result Migrated StoreFault)
    → IsErrAnd result (λ e. e ≡ fault)
    → KeptTablesIn old_schema was now → (HasCleanDisk now → fault ≡ Failed → TablesFail old_schema was now)
    → IsHall before
    → Migrates was now before before result
unmigrated was now before fault (Ok done) is rested fails hall = absurd is
unmigrated was now before fault (Err e) is rested fails hall = record {
  source = rested;
  kept = source_stops was now rested;
  read = λ clean. tt;
  target = rested_stayed (rests_itself before hall);
  stops = λ clean h left it. inl it;
  taken = λ clean. tt;
  cause = λ clean late failed. inl (fails clean (sym is ∙ failed));
}
