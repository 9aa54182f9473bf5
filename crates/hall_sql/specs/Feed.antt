-- Rows that are given to a sink one after another.
use Rattle.std.specs.Prelude.{◌≡◌, ◌≢◌, ◌⊎◌, ◌++◌, ◌∷◌, ℕ, Bool, true, false, List, [], map, Option, Some, None}
use Rattle.std.specs.Prelude.{Result, Ok, Err, IsTrue, Contains}
use Rattle.sqlite_trees.specs.declared.store.Store.{Ghosts}
use Rattle.sqlite.specs.declared.error.Error.{Error}
use Rattle.sqlite.specs.declared.error.Error.TheVariants.{SqliteFailure}
use Rattle.sqlite.specs.declared.error.ErrorCode.TheVariants.{OutOfMemory}
use Rattle.sqlite.specs.Order.{Row}
use Rattle.sqlite.specs.Held.{Held, state}
use Rattle.sqlite.specs.Given.{Advances, FailsToAdvance, HasGiven}
use Rattle.sqlite.specs.State.{State, HasCleanDisk, IsUnchanged, Begins, Shown}
use Rattle.hall_policy.specs.Sink.{HasTaken}

-- one row more was read, and the sink took its record; or there is none
abbrev pub Steps : {S K X : Type 0} → Ghosts S → (Row → Option X) → (K → X → K → Type 0) →
    Held S → Held S → K → K → Bool → Type 0
Steps {S} {K} {X} g read Takes old new before after true =
    (x : X) × Takes before x after
    × (HasCleanDisk (state g new) → IsUnchanged (state g old) (state g new)
    × ((row : Row) × Advances g old new (Some row) × (read row ≡ Some x)))
Steps g read Takes old new before after false =
    (after ≡ before)
    × (HasCleanDisk (state g new) → IsUnchanged (state g old) (state g new) × Advances g old new None)

-- the row is no record, or the sink refuses its record
abbrev pub IsTurnedAway : {K X : Type 0} → (Row → Option X) → (K → X → Type 0) → K → Row → Type 0
IsTurnedAway {K} {X} read Refuses sink row = (read row ≡ None) ⊎ ((x : X) × (read row ≡ Some x) × Refuses sink x)

-- Why no row more is given: the query fails, though not by being out of memory, or its next row is turned away.
abbrev pub StepFails : {S K X : Type 0} → Ghosts S → (Row → Option X) → (K → X → Type 0) → Held S → Held S → K → Type 0
StepFails g read Refuses old new sink =
    ((e : Error) × (e ≢ SqliteFailure OutOfMemory) × FailsToAdvance g old new e)
    ⊎ (IsUnchanged (state g old) (state g new) × (row : Row) × Advances g old new (Some row)
    × IsTurnedAway read Refuses sink row)

-- the connection runs the query, and has given rows that read as these records
pub record HasRead {S X : Type 0} (g : Ghosts S) (read : Row → Option X) (sql : List ℕ) (params : Row) (first : State)
    (held : Held S) (taken : List X) : Type 0 where
  pub same : IsUnchanged first (state g held)
  pub rows : List Row
  pub given : HasGiven g sql params held rows
  pub reads : map read rows ≡ map Some taken

-- and the sink has taken these records
abbrev pub Taking : {S K X : Type 0} → Ghosts S → (Row → Option X) → (K → X → K → Type 0) → List ℕ → Row →
    State → Held S → K → K → Type 0
Taking {S} {K} {X} g read Takes sql params first held before after =
    (taken : List X) × HasTaken Takes before taken after
    × (HasCleanDisk (state g held) → HasRead g read sql params first held taken)

-- the query's answer over the tables as they were, in a store that served, reads as these records
pub record AreAll {X : Type 0} (read : Row → Option X) (sql : List ℕ) (params : Row) (old new : State) (taken : List X)
    : Type 0 where
  pub served : IsTrue old.is_open
  pub rows : List Row
  pub reads : map read rows ≡ map Some taken
  pub shown : Shown sql params old new rows

-- the first rows of it do
pub record AreFirst {S X : Type 0} (g : Ghosts S) (read : Row → Option X) (sql : List ℕ) (params : Row) (old : State)
    (taken : List X) : Type 0 where
  pub served : IsTrue old.is_open
  pub rows : List Row
  pub reads : map read rows ≡ map Some taken
  pub from : Held S
  pub same : (state g from).now ≡ old.now
  pub begun : Begins sql params (state g from) rows

-- A sink has taken the records that a query's rows are: all; or, where the call is refused, some of the first ones.
abbrev pub FedRows : {S K X E : Type 0} → Ghosts S → (Row → Option X) → (K → X → K → Type 0) → List ℕ → Row →
    State → State → K → Result (Unit {0}) E → K → Type 0
FedRows {S} {K} {X} g read Takes sql params old new before (Ok done) after =
    (taken : List X) × HasTaken Takes before taken after
    × (HasCleanDisk new → IsTrue new.is_open × AreAll read sql params old new taken)
FedRows {S} {K} {X} g read Takes sql params old new before (Err fault) after =
    (taken : List X) × HasTaken Takes before taken after
    × ((taken ≡ []) ⊎ (HasCleanDisk new → AreFirst g read sql params old taken))

-- ---- what is told of all rows

-- the rows that were noted
abbrev pub noted : List (Row × Unit {0}) → List Row
noted items = map (λ (it : Row × Unit {0}). it.0) items

-- the row stands behind those before
abbrev pub IsAdded : List Row → Row → List Row → Type 0
IsAdded before row after = after ≡ before ++ row ∷ []

-- one of the rows is so
abbrev pub IsAny : (Row → Type 0) → List Row → Type 0
IsAny Is rows = (row : Row) × Contains rows row × Is row

-- this is told of the rows, or there was one of which nothing can be told
abbrev pub AreLooked : {C : Type 0} → (List Row → C → Type 0) → (Row → Type 0) → List Row → Bool → C → Type 0
AreLooked Tells IsUnread rows false told = Tells rows told
AreLooked Tells IsUnread rows true told = IsAny IsUnread rows

-- it is told of the query's answer over the tables as they were, in a store that served and serves
pub record IsToldOf {C : Type 0} (Tells : List Row → C → Type 0) (sql : List ℕ) (params : Row) (old new : State)
    (told : C) : Type 0 where
  pub serves : IsTrue new.is_open
  pub served : IsTrue old.is_open
  pub rows : List Row
  pub tells : Tells rows told
  pub shown : Shown sql params old new rows
