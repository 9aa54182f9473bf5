-- From what a statement that writes leaves to what the trait of stores says.
use Rattle.std.proofs.Common.{◌≡◌, inl, inr, ℕ, ℤ, pos, List, Bool, true, false, cond, if◌then◌else◌, IsTrue, IsErrAnd}
use Rattle.std.proofs.Common.{Result, Ok, Err, OnOk, OnErr, None, refl, sym, ap, subst, ◌∙◌, arith}
use Rattle.sqlite.specs.declared.types.Value.{Value}
use Rattle.sqlite.specs.declared.types.Value.TheVariants.{Null, Int}
use Rattle.sqlite.specs.Cast.{cast}
use Rattle.sqlite.specs.Kind.TheVariants.{Integer}
use Rattle.sqlite.specs.Ops.{unary}
use Rattle.sqlite.specs.Order.{Row}
use Rattle.sqlite.specs.Effect.{Database}
use Rattle.sqlite.specs.State.{State, HasCleanDisk, Writes}
use Rattle.sqlite_schema.specs.declared.command.Command.{Command}
use Rattle.hall_store.specs.Store.{LeavesOneOf, MakesInWorld}
use Rattle.hall_store.specs.Change.{changed}
use Rattle.hall_store.specs.declared.change.Change.{Change}
use Rattle.hall_sql.specs.Tables.{IsHallSchema}
use Rattle.hall_sql.specs.Rows.{world_of}
use Rattle.hall_sql.specs.Spared.{may_write, KeptOtherRows}
use Rattle.hall_sql.specs.Stands.{HoldsHall}
use Rattle.hall_sql.specs.Standing.{AddsNoOutcome, AddsOutcomes, LeadsConnection, AreAllKeyed, IsHall, KeptTables}
use Rattle.hall_sql.specs.Standing.{KeptRows, HasMade, without_limit}
use Rattle.hall_sql.specs.Content.{MakesInTables, content_of}
use Rattle.hall_store.proofs.Knowing.{leads_then}
use Rattle.hall_sql.proofs.LastLemmas.{follows_leads}
use Rattle.hall_sql.proofs.SparedLemmas.{same_spared}
use Rattle.hall_sql.proofs.StoreLemmas.{opens_hall, rested_stayed, stays_on}
use Rattle.hall_sql.proofs.UnreadMarks.{mark_once}

-- a write outside a transaction is committed
pub writes_hall : (old new : State) (command : Command) (text : List ℕ) (given : Row) (count : ℕ)
    → old.in_transaction ≡ false
    → (w : Writes old new None command text given count) → IsHallSchema new.now.schema → AreAllKeyed new.now.trees
    → IsHall (without_limit new)
writes_hall old new command text given count mode w has keyed = record {
  unlimited = refl;
  autocommit = λ clean. w.shown.mode ∙ mode;
  keyed = λ clean opens. keyed;
  settled = λ clean opens. (sym (w.shown.committed_is ∙ ap (λ b. if b then old.committed else new.now) mode), has);
}

-- where the store served, a stop leaves what it could leave before, or a hall of the world that the change makes
abbrev pub StopsAt : Change → State → State → Type 0
StopsAt change old new = IsTrue old.is_open → AddsOutcomes (HoldsHall (changed change (world_of old.now.trees))) old new

-- so it is told of worlds
pub stops_at : (change : Change) (old new : State) → StopsAt change old new → IsTrue old.is_open
    → LeavesOneOf (λ before left. left ≡ changed change before) (content_of old) (content_of new)
stops_at change old new stops opens clean left it = elim (stops opens clean it.0 it.1) [
  | inl earlier ↦ inl (it.0, earlier, it.2)
  | inr made ↦ inr (opens, opens_hall (changed change (world_of old.now.trees)) it.0 left made it.2)
]

-- and where no outcome was added
pub no_stops : (change : Change) (old new : State) → AddsNoOutcome old new → StopsAt change old new
no_stops change old new stops opens clean db may = inl (stops clean db may)

-- a statement that ran makes the change
pub made_wrote : {R E : Type 0} (change : Change) (old new : State) (done : R) → IsHall old → LeadsConnection old new
    → StopsAt change old new → (HasCleanDisk old → HasCleanDisk new → HasMade change old new)
    → MakesInTables {E = E} change old new (Ok done)
made_wrote change old new done hall lasts stops made =
    let before = λ (clean : HasCleanDisk new). let was : HasCleanDisk old = omega (arith, lasts.clean, clean) in was in
    let it = λ (clean : HasCleanDisk new). made (before clean) clean in
    record {
      hall = record {
        unlimited = lasts.limit ∙ hall.unlimited;
        autocommit = λ clean. (it clean).hall.autocommit clean;
        settled = λ clean opens. (it clean).hall.settled clean opens;
        keyed = λ clean opens. (it clean).hall.keyed clean opens;
      };
      makes = record {
        leads = record {
          honest = before;
          serves = λ clean opens. (it clean).was_open;
          counts = lasts.counts;
          lasts = λ clean opens. inl (it clean).serves;
        };
        once = mark_once old new;
        stops = stops_at change old new stops;
        made = λ clean. ((it clean).serves, (it clean).world);
      };
      others = λ clean. (it clean).others;
      refused = tt;
    }

-- and one that is refused leaves the tables
pub stayed_wrote : {R E : Type 0} (change : Change) (old new : State) (fault : E) → StopsAt change old new
    → KeptRows old new → MakesInTables {R = R} change old new (Err fault)
stayed_wrote change old new fault stops rested = record {
  hall = rested.tabled;
  makes = record {
    leads = follows_leads old new rested.follows;
    once = mark_once old new;
    stops = stops_at change old new stops;
    made = λ clean opens. ap (λ (d : Database). world_of d.trees) (rested.same clean opens);
  };
  others = λ clean. tt;
  refused = rested;
}

-- so does a call that rests
pub rested_wrote : {R E : Type 0} (change : Change) (old new : State) (fault : E) → KeptTables old new
    → MakesInTables {R = R} change old new (Err fault)
rested_wrote change old new fault rested = stayed_wrote change old new fault (no_stops change old new rested.stops)
    (rested_stayed rested)

-- so does a call that rests before it
pub rested_wrote_as : {R E : Type 0} (change : Change) (old new : State) (fault : E) (result : Result R E)
    → IsErrAnd result (λ e. e ≡ fault) → KeptTables old new
    → MakesInTables change old new result
rested_wrote_as change old new fault (Ok done) is rested = absurd is
rested_wrote_as change old new fault (Err e) is rested = rested_wrote change old new e rested

-- a write after a query that left the world
pub rested_then : {R E : Type 0} (change : Change) (old mid new : State) (result : Result R E) → KeptTables old mid
    → (HasCleanDisk mid → IsTrue mid.is_open) → MakesInTables change mid new result
    → MakesInTables change old new result
rested_then {R} {E} change old mid new result rested serves wrote =
    let before = wrote.makes.leads.honest in
    let same = λ (clean : HasCleanDisk new). rested.same (before clean) (serves (before clean)) in
    let world = λ (clean : HasCleanDisk new). ap (λ (d : Database). world_of d.trees) (same clean) in
    record {
      hall = wrote.hall;
      makes = record {
        leads = leads_then (content_of old) (content_of mid) (content_of new) (follows_leads old mid rested.follows)
            wrote.makes.leads;
        once = mark_once old new;
        stops = λ opens clean left it. elim (wrote.makes.stops (serves (before clean)) clean left it) [
          | inl earlier ↦ inl (earlier.0, rested.stops (before clean) earlier.0 earlier.1, earlier.2)
          | inr made ↦ inr (opens, made.1 ∙ ap (changed change) (world clean))
        ];
        made = by result wrote.makes.made world;
      };
      others = λ clean. subst (λ (d : Database). OnOk result (KeptOtherRows (may_write change) d.trees new.now.trees))
          (same clean) (wrote.others clean);
      refused = left result wrote.refused;
    }
  where
    by : (result : Result R E) → MakesInWorld change (content_of mid) (content_of new) result
        → (HasCleanDisk new → world_of mid.now.trees ≡ world_of old.now.trees)
        → MakesInWorld change (content_of old) (content_of new) result
    by (Ok done) made world = λ clean. let it = made clean in (it.0, it.1 ∙ ap (changed change) (world clean))
    by (Err fault) made world = λ clean opens. made clean opens ∙ world clean

    left : (result : Result R E) → OnErr result (KeptRows mid new) → OnErr result (KeptRows old new)
    left (Ok done) none = tt
    left (Err fault) second = stays_on old mid new rested second

-- a query that left the world made a change that changes nothing
pub rested_made : {R E : Type 0} (change : Change) (old new : State) (done : R) → KeptTables old new
    → (HasCleanDisk new → IsTrue new.is_open)
    → (HasCleanDisk new → changed change (world_of new.now.trees) ≡ world_of new.now.trees)
    → MakesInTables {E = E} change old new (Ok done)
rested_made change old new done rested serves nothing = record {
  hall = rested.tabled;
  makes = record {
    leads = follows_leads old new rested.follows;
    once = mark_once old new;
    stops = stops_at change old new (no_stops change old new rested.stops);
    made = λ clean.
        let world = ap (λ (d : Database). world_of d.trees) (rested.same clean (serves clean)) in
        (serves clean, sym (nothing clean) ∙ ap (changed change) world);
  };
  others = λ clean. subst (λ (d : Database). KeptOtherRows (may_write change) d.trees new.now.trees)
      (rested.same clean (serves clean)) (same_spared (may_write change) new.now.trees);
  refused = tt;
}

-- a write that made one change made another that is the same of its world and may write the same rows
pub wrote_too : {R E : Type 0} (change other : Change) (old new : State) (result : Result R E)
    → (HasCleanDisk old → (changed change (world_of old.now.trees) ≡ changed other (world_of old.now.trees))
    × (may_write change ≡ may_write other))
    → MakesInTables change old new result → MakesInTables other old new result
wrote_too {R} {E} change other old new result same wrote = record {
  hall = wrote.hall;
  makes = record {
    leads = wrote.makes.leads;
    once = mark_once old new;
    stops = λ opens clean left it. elim (wrote.makes.stops opens clean left it) [
      | inl earlier ↦ inl earlier
      | inr made ↦ inr (opens, made.1 ∙ (same (wrote.makes.leads.honest clean)).0)
    ];
    made = by result wrote.makes.made wrote.makes.leads.honest;
  };
  others = λ clean. subst (λ takes. OnOk result (KeptOtherRows takes old.now.trees new.now.trees))
      (same (wrote.makes.leads.honest clean)).1 (wrote.others clean);
  refused = wrote.refused;
}
  where
    by : (result : Result R E) → MakesInWorld change (content_of old) (content_of new) result
        → (HasCleanDisk new → HasCleanDisk old)
        → MakesInWorld other (content_of old) (content_of new) result
    by (Ok done) made before = λ clean. let it = made clean in (it.0, it.1 ∙ (same (before clean)).0)
    by (Err fault) made before = made

either : (b : Bool) (x : Value) → cond b x x ≡ x
either true x = refl
either false x = refl

-- casts that change nothing
pub cast_null : cast Integer Null ≡ Null
unfolding unary
cast_null = either _ Null

pub cast_number : (n : ℕ) → cast Integer (Int (pos n)) ≡ Int (pos n)
unfolding unary
cast_number n = either _ (Int (pos n))

pub cast_int : (z : ℤ) → cast Integer (Int z) ≡ Int z
unfolding unary
cast_int z = either _ (Int z)
