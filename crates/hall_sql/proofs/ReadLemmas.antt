-- What a read of the tables tells, from what its query told.
use Rattle.std.proofs.Common.{◌≡◌, ℕ, List, [], Option, Result, Ok, Err, IsTrue, IfOk, IfErr, IsErrAnd, sym, ◌∙◌}
use Rattle.std.proofs.lemmas.Result.{IfOk-weaker}
use Rattle.sqlite.specs.Order.{Row}
use Rattle.sqlite.specs.Schema.{Schema}
use Rattle.sqlite.specs.State.{State, HasCleanDisk}
use Rattle.hall_policy.specs.World.{World}
use Rattle.hall_store.specs.Store.{CanFailIn, Fails}
use Rattle.hall_store.specs.declared.fault.StoreFault.{StoreFault}
use Rattle.hall_store.specs.declared.fault.StoreFault.TheVariants.{Memory, Failed}
use Rattle.hall_sql.specs.Content.{content_of}
use Rattle.hall_sql.specs.Cause.{AreRead, IsFound, ReadFails}
use Rattle.hall_sql.specs.Counts.{AreSoMany}
use Rattle.hall_sql.specs.Feed.{AreAll}
use Rattle.hall_sql.specs.Reads.{Reads, ReadsRows, ReadsTable}
use Rattle.hall_sql.specs.Rows.{world_of}
use Rattle.hall_sql.specs.Standing.{AreAllKeyed, AreKeyedIn, IsHall, KeptAnyTables, KeptTables}
use Rattle.hall_sql.specs.Tables.{IsHallSchema}
use Rattle.hall_sql.specs.Versions.{IsAnyHall, IsVersion}
use Rattle.hall_sql.specs.Whole.{AreRecords}
use Rattle.hall_store.proofs.Knowing.{fails_as}
use Rattle.hall_sql.proofs.FailLemmas.{read_fault}
use Rattle.hall_sql.proofs.StoreLemmas.{read_whole, rested_hall, rested_kept, told, told_so}
use Rattle.hall_sql.proofs.UnreadRows.{TellsUnread}
use Rattle.hall_sql.proofs.Versions.{told_any}

-- ---- one query

module _ {X R : Type 0} (read : Row → Option X) (sql : List ℕ) (params : Row) {old new : State}
    (result : Result R StoreFault)
    (Means : World → R → Type 0) (hall : IsHall old) (rested : KeptTables old new) where
  reads_by : (Why : Type 0) (P : R → Type 0)
      → ((x : R) → P x → (records : List X) × AreRead read sql params old new records)
      → (HasCleanDisk new → IfOk result P) → Fails (CanFailIn (content_of old) (content_of new)) result → (HasCleanDisk new → Fails Why result)
      → ((x : R) → P x → IsTrue old.is_open → IsHallSchema old.now.schema → AreAllKeyed old.now.trees
      → Means (world_of old.now.trees) x)
      → Reads old new result Means (AreRecords read sql params old new) (CanFailIn (content_of old) (content_of new)) Why
  reads_by Why P all has fault cause means = record {
    kept = rested_kept old new rested;
    rested = rested;
    served = told old new result P Means hall rested has (λ x it. (all x it).1.0) (λ x it clean. means x it);
    fault = fault;
    whole = λ clean. IfOk-weaker result P _
        (λ x it. let them = all x it in read_whole read sql params old new them.0 them.1) (has clean);
    cause = cause;
  }

  -- rows that are handed over
  pub reads_rows : (items : R → List X) → TellsUnread read sql params
      → (HasCleanDisk new → IfOk result (λ out. AreRead read sql params old new (items out)))
      → (HasCleanDisk new → Fails (ReadFails read sql params old new) result)
      → ((out : R) → AreAll read sql params old new (items out) → IsTrue old.is_open → IsHallSchema old.now.schema
      → AreAllKeyed old.now.trees → Means (world_of old.now.trees) out)
      → ReadsRows read sql params old new result Means
  reads_rows items unread has cause means =
      reads_by (ReadFails read sql params old new) (λ out. AreRead read sql params old new (items out))
      (λ out it. (items out, it)) has
      (read_fault hall rested result read sql params unread cause) cause (λ out it. means out it.1)

  -- rows that are counted
  pub reads_count : (count : R → ℕ) → TellsUnread read sql params
      → (HasCleanDisk new → IfOk result (λ out. AreSoMany read sql params old new (count out)))
      → (HasCleanDisk new → Fails (ReadFails read sql params old new) result)
      → ((out : R) → AreSoMany read sql params old new (count out) → IsTrue old.is_open → IsHallSchema old.now.schema
      → AreAllKeyed old.now.trees → Means (world_of old.now.trees) out)
      → ReadsRows read sql params old new result Means
  reads_count count unread has cause means =
      reads_by (ReadFails read sql params old new) (λ out. AreSoMany read sql params old new (count out))
      (λ out it. (it.records, it.are)) has
      (read_fault hall rested result read sql params unread cause) cause means

-- an answer that a count of rows gives
pub answers_count : {X R : Type 0} (read : Row → Option X) (sql : List ℕ) (params : Row) {old new : State} (answer : R)
    (Means : World → R → Type 0) → IsHall old → KeptTables old new → (count : ℕ)
    → (HasCleanDisk new → AreSoMany read sql params old new count)
    → (AreSoMany read sql params old new count → IsTrue old.is_open → IsHallSchema old.now.schema
    → AreAllKeyed old.now.trees → Means (world_of old.now.trees) answer)
    → ReadsRows read sql params old new (Ok answer) Means
answers_count read sql params {old} {new} answer Means hall rested count has means = record {
  kept = rested_kept old new rested;
  rested = rested;
  served = told_so old new (λ world. Means world answer) hall rested (λ clean. (has clean).are.0)
      (λ clean. means (has clean));
  fault = tt;
  whole = λ clean. let it = has clean in read_whole read sql params old new it.records it.are;
  cause = λ clean. tt;
}

-- a row that is found
pub finds_row : {X : Type 0} (read : Row → Option X) (sql : List ℕ) (params : Row) {old new : State}
    (result : Result (Option X) StoreFault)
    (Means : World → Option X → Type 0) → IsHall old → KeptTables old new → TellsUnread read sql params
    → (HasCleanDisk new → IfOk result (IsFound read sql params old new))
    → (HasCleanDisk new → Fails (ReadFails read sql params old new) result)
    → ((found : Option X) → IsFound read sql params old new found → IsTrue old.is_open → IsHallSchema old.now.schema
    → AreAllKeyed old.now.trees → Means (world_of old.now.trees) found)
    → ReadsRows read sql params old new result Means
finds_row read sql params {old} {new} result Means hall rested unread has cause means =
    reads_by read sql params result Means hall rested (ReadFails read sql params old new)
    (IsFound read sql params old new)
    (λ found it. (it.records, it.are)) has
    (read_fault hall rested result read sql params unread cause) cause means

-- a call that is refused
pub refused : {R : Type 0} {old new : State} (result : Result R StoreFault) (Means : World → R → Type 0)
    (Whole Reason Why : Type 0)
    (fault : StoreFault) → KeptTables old new → IsErrAnd result (λ e. e ≡ fault) → Fails Reason result
    → (HasCleanDisk new → Fails Why result)
    → Reads old new result Means Whole Reason Why
refused (Ok x) Means Whole Reason Why fault rested is why cause = absurd is
refused {R} {old} {new} (Err e) Means Whole Reason Why fault rested is why cause =
    record {
      kept = rested_kept old new rested;
      rested = rested;
      served = tt;
      fault = why;
      whole = λ clean. tt;
      cause = cause;
    }

-- as its query was
pub refused_rows : {X R : Type 0} (read : Row → Option X) (sql : List ℕ) (params : Row) {old new : State}
    (result : Result R StoreFault) (Means : World → R → Type 0) (fault : StoreFault) → IsHall old → KeptTables old new
    → TellsUnread read sql params
    → IsErrAnd result (λ e. e ≡ fault) → (HasCleanDisk new → fault ≡ Failed → ReadFails read sql params old new)
    → ReadsRows read sql params old new result Means
refused_rows read sql params {old} {new} result Means fault hall rested unread is cause =
    let why = λ (clean : HasCleanDisk new). fails_as result (ReadFails read sql params old new) fault is (cause clean)
    in
    refused result Means (AreRecords read sql params old new) (CanFailIn (content_of old) (content_of new))
    (ReadFails read sql params old new) fault rested is
    (read_fault hall rested result read sql params unread why) why

-- ---- what is made of another read

-- an answer that another read's gives
pub answers_so : {A B : Type 0} {old new : State} {Told : World → A → Type 0} {Whole Reason Why : Type 0}
    {answer : A}
    (result : Result B StoreFault)
    (Means : World → B → Type 0) → Reads old new (Ok answer) Told Whole Reason Why
    → (HasCleanDisk new → Told (world_of new.now.trees) answer → IfOk result (Means (world_of new.now.trees)))
    → IfErr result (λ fault. fault ≡ Memory) → Reads old new result Means Whole Reason Why
answers_so (Ok x) Means first means memory = record {
  kept = first.kept;
  rested = first.rested;
  served = λ clean. let it = first.served clean in (it.0, means clean it.1);
  fault = tt;
  whole = first.whole;
  cause = λ clean. tt;
}
answers_so (Err e) Means first means memory = record {
  kept = first.kept;
  rested = first.rested;
  served = tt;
  fault = λ failed. absurd (let no : Memory ≡ Failed = sym memory ∙ failed in cc);
  whole = λ clean. tt;
  cause = λ clean failed. absurd (let no : Memory ≡ Failed = sym memory ∙ failed in cc);
}

-- a call that is refused as another read was
pub refused_as : {A B : Type 0} {old new : State} {Told : World → A → Type 0} {Whole Reason Why : Type 0}
    {fault : StoreFault}
    (result : Result B StoreFault)
    (Means : World → B → Type 0) → Reads old new (Err fault) Told Whole Reason Why → IsErrAnd result (λ e. e ≡ fault)
    → Reads old new result Means Whole Reason Why
refused_as (Ok x) Means first is = absurd is
refused_as (Err e) Means first is = record {
  kept = first.kept;
  rested = first.rested;
  served = tt;
  fault = λ failed. first.fault (sym is ∙ failed);
  whole = λ clean. tt;
  cause = λ clean failed. first.cause clean (sym is ∙ failed);
}

-- ---- whole tables

-- the rows of a table of either version
pub reads_table : {X R : Type 0} (read : Row → Option X) (sql : List ℕ) {old new : State} (result : Result R StoreFault)
    (Means : World → R → Type 0) → IsAnyHall old → KeptAnyTables old new → (items : R → List X)
    → (HasCleanDisk new → IfOk result (λ out. AreRead read sql [] old new (items out)))
    → (HasCleanDisk new → Fails (ReadFails read sql [] old new) result)
    → ((out : R) → AreAll read sql [] old new (items out) → IsTrue old.is_open → (schema : Schema) → IsVersion schema
    → old.now.schema ≡ schema
    → AreKeyedIn schema old.now.trees → Means (world_of old.now.trees) out)
    → ReadsTable read sql old new result Means
reads_table {X} {R} read sql {old} {new} result Means hall rested items has cause means = record {
  rested = rested;
  served = told_any old new result Are Means hall rested has (λ out it. it.0) (λ out it. means out it.1);
  whole = λ clean. IfOk-weaker result Are _ (λ out it. read_whole read sql [] old new (items out) it) (has clean);
  cause = cause;
}
  where
    Are : R → Type 0
    Are out = AreRead read sql [] old new (items out)

-- over the hall's tables it is a read as the others
pub table_in_hall : {X R : Type 0} (read : Row → Option X) (sql : List ℕ) {old new : State}
    (result : Result R StoreFault)
    {Means : World → R → Type 0} → IsHall old → TellsUnread read sql [] → ReadsTable read sql old new result Means
    → ReadsRows read sql [] old new result Means
table_in_hall read sql {old} {new} result hall unread it =
    let rested = rested_hall hall it.rested in
    record {
      kept = rested_kept old new rested;
      rested = rested;
      served = it.served;
      fault = read_fault hall rested result read sql [] unread it.cause;
      whole = it.whole;
      cause = it.cause;
    }
