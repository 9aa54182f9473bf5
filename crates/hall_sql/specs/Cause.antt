-- Why a read of the tables answers that it failed.
use Rattle.std.specs.Prelude.{◌≡◌, ◌≢◌, ◌⊎◌, ◌≤◌, ◌∷◌, ◌++◌, ℕ, false, List, [], length, map, slice_get}
use Rattle.std.specs.Prelude.{Contains, IsTrue, Option, Some, None}
use Rattle.sqlite.specs.declared.types.Value.TheVariants.{Text}
use Rattle.sqlite.specs.Order.{Row}
use Rattle.sqlite.specs.State.{State, Begins, Shown}
use Rattle.hall_policy.specs.Lists.{AreEntries, AreTesters}
use Rattle.hall_policy.specs.Sink.{HasTaken}
use Rattle.hall_policy.specs.declared.record.Entry.{Entry}
use Rattle.hall_policy.specs.declared.record.PlaceKey.{PlaceKey}
use Rattle.hall_policy.specs.declared.record.Round.{Round}
use Rattle.hall_store.specs.Store.{HasNoRound, MoreFaults}
use Rattle.hall_sql.specs.Feed.{AreAll, IsTurnedAway}
use Rattle.hall_sql.specs.Places.{AreNumbered}
use Rattle.hall_sql.specs.Rows.{place_in, round_in, tester_in, world_of}
use Rattle.hall_sql.specs.declared.rounds.TheConstants.{HEAD, PLACES_OF}
use Rattle.hall_sql.specs.declared.testers.TheConstants.{TESTERS_OF}

-- the cause lies in the store: a fault of its device was counted in the call, or had shut the store before
abbrev pub IsStoreCause : State → State → Type 0
IsStoreCause old new = MoreFaults old.faults new.faults ⊎ (old.is_open ≡ false)

-- one of the rows is no record of this kind
abbrev pub IsAnyUnread : {X : Type 0} → (Row → Option X) → List Row → Type 0
IsAnyUnread read rows = (row : Row) × Contains rows row × (read row ≡ None)

-- Why a read of rows fails: the cause lies in the store, or over the tables as they were the query answers rows of
-- which one is no record.
abbrev pub ReadFails : {X : Type 0} → (Row → Option X) → List ℕ → Row → State → State → Type 0
ReadFails read sql params old new =
    IsStoreCause old new ⊎ ((rows : List Row) × Shown sql params old new rows × IsAnyUnread read rows)

-- what was found, the places and the testers' names make no round with its lists: there are places and no round, or
-- they are not numbered from 1 on, or the puzzles there are no list of a round, or the names are no list of testers
abbrev pub AreNoRound : Option Round → List (PlaceKey × Entry) → List (List ℕ) → Type 0
AreNoRound None places names = places ≢ []
AreNoRound (Some round) places names =
    ¬ (AreNumbered places × AreEntries (map (λ place. place.1) places) × AreTesters names)

-- Why a read of a round fails: that of its head does, or that of its places, or that of its testers, or no answer is
-- right.
abbrev pub RoundFails : List ℕ → State → State → Type 0
RoundFails id old new =
    ReadFails round_in HEAD.now (Text id ∷ []) old new
    ⊎ (ReadFails place_in PLACES_OF.now (Text id ∷ []) old new
    ⊎ (ReadFails tester_in TESTERS_OF.now (Text id ∷ []) old new ⊎ HasNoRound (world_of old.now.trees) id))

-- The sink has taken the records of the first rows that the query answers over the tables as they were, and the next
-- row is no record, or the sink refuses it.
pub record StopsAtRow {K X : Type 0} (read : Row → Option X) (Takes : K → X → K → Type 0) (Refuses : K → X → Type 0)
    (sql : List ℕ) (params : Row) (old : State) (before after : K) : Type 0 where
  pub taken : List X
  pub took : HasTaken Takes before taken after
  pub rows : List Row
  pub reads : map read rows ≡ map Some taken
  pub row : Row
  pub begun : Begins sql params old (rows ++ row ∷ [])
  pub stops : IsTurnedAway read Refuses after row

-- Why a sink is not given all rows: the cause lies in the store, or it stops at a row.
abbrev pub FeedFails : {K X : Type 0} → (Row → Option X) → (K → X → K → Type 0) → (K → X → Type 0) → List ℕ → Row →
    State → State → K → K → Type 0
FeedFails read Takes Refuses sql params old new before after =
    IsStoreCause old new ⊎ StopsAtRow read Takes Refuses sql params old before after

-- ---- what a read hands over

-- the records that the query's answer is, in a store that serves
abbrev pub AreRead : {X : Type 0} → (Row → Option X) → List ℕ → Row → State → State → List X → Type 0
AreRead read sql params old new records = IsTrue new.is_open × AreAll read sql params old new records

-- the one record that the query's answer is, if any, in a store that serves
pub record IsFound {X : Type 0} (read : Row → Option X) (sql : List ℕ) (params : Row) (old new : State)
    (found : Option X) : Type 0 where
  pub records : List X
  pub few : length records ≤ 1
  pub is : found ≡ slice_get records 0
  pub are : AreRead read sql params old new records
