-- What is written of a check, from what each step of it tells.
use Rattle.std.proofs.Common.{◌≡◌, ◌⊎◌, ◌∙◌, ℕ, List, false, true, Option, Result, Ok, Err, IfOk, IsTrue, inl, inr, sym}
use Rattle.std.proofs.Common.{ap, subst, arith}
use Rattle.std.proofs.lemmas.Bool.{cases_Bool}
use Rattle.std.specs.Prelude.{IfErr, IsErrOf, string_bytes}
use Rattle.sqlite_trees.specs.declared.memory.MemStore.{MemStore}
use Rattle.sqlite.specs.Effect.{Database}
use Rattle.sqlite.specs.Held.{Held, state}
use Rattle.sqlite.specs.State.{State, HasCleanDisk}
use Rattle.sqlite.specs.Steps.{over_memory}
use Rattle.hall_grid.specs.Device.{Tally}
use Rattle.hall_store.specs.Maps.{empty_world}
use Rattle.hall_store.specs.Store.{CanFailIn, Content, Kept}
use Rattle.hall_store.specs.declared.fault.StoreFault.{StoreFault}
use Rattle.hall_store.specs.declared.fault.StoreFault.TheVariants as store
use Rattle.hall_store.proofs.Knowing.{kept_then, more_after}
use Rattle.hall_sql.specs.AllRead.{AreAllRead}
use Rattle.hall_sql.specs.BadRows.{HaveRoom}
use Rattle.hall_sql.specs.CanFail.{StoreCanFail}
use Rattle.hall_sql.specs.Cause.{IsStoreCause}
use Rattle.hall_sql.specs.CopyCause.{CannotCopy}
use Rattle.hall_sql.specs.FillCause.{TablesFail}
use Rattle.hall_sql.specs.Made.{all_tables}
use Rattle.hall_sql.specs.Migrate.{MigrateFails, Migrates, old_content_of}
use Rattle.hall_sql.specs.Standing.{IsBareDatabase, IsBareLike, KeptTables, KeptTablesIn}
use Rattle.hall_sql.specs.Content.{content_of}
use Rattle.hall_sql.specs.Tables.{IsLike, hall_schema, old_schema}
use Rattle.hall_sql.specs.WholeRows.{without_testers}
use Rattle.hall_sql.specs.Rows.{world_of}
use Rattle.hall_sql.specs.declared.migration.Migrated.TheVariants.{Done, Occupied}
use Rattle.hall_sql.proofs.AllRead.{bare_read}
use Rattle.hall_sql.proofs.OpenedLemmas.{memory_serves}
use Rattle.hall_sql.proofs.StoreLemmas.{rested_kept}
use Rattle.hall_sql.proofs.UnreadMarks.{still_read}
use Rattle.hall_sql.proofs.Wordings.{like_itself}
use Rattle.hall_sql.proofs.WriteCauseLemmas.{cause_over}
use Rattle.hall_check.specs.Checked.{IsChecked}
use Rattle.hall_check.specs.declared.sanity.Checked.{Checked}
use Rattle.hall_tool.specs.CheckRun.{CopyFails, CopyText, IsFoundWritten, OldFails, OldFound, PresentText}
use Rattle.hall_tool.specs.Shown.{IsShownBy}
use Rattle.hall_tool.specs.WorldText.{WorldText}
use Rattle.hall_tool.specs.declared.ending.Ending.{Ending}
use Rattle.hall_tool.specs.declared.fault.ToolFault.{ToolFault}
use Rattle.hall_tool.specs.declared.fault.ToolFault.TheVariants.{Memory, Store}

-- the text that was found was written, or none was found
pub found_written : {W : Type 0} (Text : List ℕ → ℕ → Type 0) (contents : W → Option (List ℕ)) (old new : Tally W)
    (Why : Type 0) (found : Result Ending ToolFault) (ended : Result ℕ ToolFault)
    → IfOk found (λ ending. Text (string_bytes ending.line) ending.status)
    → IfErr found (λ e. (e ≡ Memory) ⊎ (e ≡ Store)) → (IsErrOf found Store → Why)
    → IfOk found (λ ending. IsShownBy ending.status contents (string_bytes ending.line) old new ended)
    → IfErr found (λ e. (ended ≡ Err e) × (new ≡ old)) → IsFoundWritten Text Why contents old new ended
found_written Text contents old new Why (Ok ending) ended text cause why shown fault =
    inl (string_bytes ending.line, ending.status, text, shown)
found_written Text contents old new Why (Err e) ended text cause why shown fault = inr (
  fault.1,
  elim cause [
    | inl memory ↦ inl (let e : ended ≡ Err Memory = fault.0 ∙ ap Err memory in e)
    | inr store ↦ inr ((let is : ended ≡ Err Store = fault.0 ∙ ap Err store in is), why (ap Err store))
  ],
)

-- the world of the tables of the version before, which served, stayed
same_world : (old mid : State) → KeptTablesIn old_schema old mid → HasCleanDisk mid → IsTrue mid.is_open
    → (old_content_of mid).world ≡ (old_content_of old).world
same_world old mid rested clean opens = ap (λ (d : Database). without_testers (world_of d.trees))
    (rested.same clean opens)

-- a world that stayed was checked as it was
pub world_checked : (budget : Option ℕ) (old new : Content) (checked : Checked) → Kept old new
    → (new.honest → new.serves × IsChecked new.world budget checked) → new.honest → IsChecked old.world budget checked
world_checked budget old new checked kept told honest =
    let now = told honest in
    subst (λ world. IsChecked world budget checked) (kept.world honest now.0) now.1

-- of the present version, after its rows were found to be records
pub present_text : (budget : Option ℕ) (old mid new : State) (text : List ℕ) (status : ℕ)
    → KeptTables old mid → Kept (content_of mid) (content_of new) → (HasCleanDisk mid → IsTrue mid.is_open)
    → (HasCleanDisk mid → AreAllRead hall_schema old.now.trees) → (HasCleanDisk mid → HaveRoom all_tables old.now.trees)
    → (HasCleanDisk new → IsTrue new.is_open)
    → WorldText budget (HasCleanDisk new) (content_of mid).world text status → PresentText budget old new text status
present_text budget old mid new text status rested kept serves whole room opens (checked, told, line, ends) = inr (
  λ clean. (opens clean, whole (kept.honest clean), room (kept.honest clean)),
  (
    checked,
    λ clean. (let was = kept.honest clean in
        subst (λ world. IsChecked world budget checked) ((rested_kept old mid rested).world was (serves was))
        (told clean)),
    line,
    ends,
  ),
)

-- and its world stayed
pub present_kept : (old mid new : State) → KeptTables old mid → Kept (content_of mid) (content_of new)
    → Kept (content_of old) (content_of new)
present_kept old mid new rested kept =
    kept_then (content_of old) (content_of mid) (content_of new) (rested_kept old mid rested) kept

-- so that the copy's world is theirs
pub old_text : (budget : Option ℕ) (old mid new : State) (text : List ℕ) (status : ℕ)
    → KeptTablesIn old_schema old mid → KeptTablesIn old_schema mid new → (HasCleanDisk mid → IsTrue mid.is_open)
    → (HasCleanDisk mid → AreAllRead old_schema old.now.trees)
    → CopyText budget mid new text status → OldFound budget old new text status
old_text budget old mid new text status first second serves whole (checked, told, line, ends) =
    let before : HasCleanDisk new → HasCleanDisk mid = λ (clean : HasCleanDisk new). let was : HasCleanDisk mid = omega
    (arith, second.follows.lasts.clean, clean) in was in
    inr (
      λ clean. whole (before clean),
      (
        checked,
        λ clean. subst (λ world. IsChecked world budget checked)
            (same_world old mid first (before clean) (serves (before clean))) (told clean),
        line,
        ends,
      ),
    )

-- the world that was checked in memory is the one that was copied
pub copy_text : (budget : Option ℕ) (source left : State) (empty filled last : Held MemStore) (count : ℕ)
    (text : List ℕ) (status : ℕ)
    → Migrates source left (state over_memory empty) (state over_memory filled) (Ok (Done count))
    → WorldText budget (HasCleanDisk (state over_memory last)) (content_of (state over_memory filled)).world text status
    → CopyText budget source left text status
copy_text budget source left empty filled last count text status migrates (checked, told, line, ends) = (
  checked,
  λ clean. subst (λ world. IsChecked world budget checked) (migrates.taken clean (memory_serves filled).0).held
      (told (memory_serves last).0),
  line,
  ends,
)

-- ---- why nothing was found

-- where each row was a record, it is still one, so that no row is a cause
pub reads_fail : (old new : State) → Kept (content_of old) (content_of new)
    → (HasCleanDisk old → IsTrue old.is_open → AreAllRead hall_schema old.now.trees)
    → CanFailIn (content_of old) (content_of new) → StoreCanFail old new
reads_fail old new kept whole (inl more) = inl more
reads_fail old new kept whole (inr can) = inr (λ clean. elim (can clean) [
  | inl shut ↦ inl shut
  | inr unread ↦ elim (cases_Bool new.is_open) [
    | inl opens ↦
        let was = kept.honest clean in
        absurd (unread (still_read old new kept.writes (whole was (kept.serves clean opens)) clean opens))
    | inr shut ↦ inl shut
  ]
])

-- so of the present version, after each of its rows was found to be a record
pub present_fails : (old mid new : State) → KeptTables old mid → Kept (content_of mid) (content_of new)
    → (HasCleanDisk mid → AreAllRead hall_schema old.now.trees) → CanFailIn (content_of mid) (content_of new)
    → StoreCanFail old new
present_fails old mid new rested kept whole can = elim (reads_fail mid new kept
    (λ was opens. subst (λ (d : Database). AreAllRead hall_schema d.trees) (sym (rested.same was opens)) (whole was)) can) [
      | inl more ↦ inl (more_after old.faults mid.faults new.faults rested.follows.lasts.counts more)
      | inr why ↦ inr why
    ]

-- the store failed where that is what is told
pub store_failed : {R : Type 0} (fault : StoreFault) (e : ToolFault) → ((fault ≡ store.Memory) × (e ≡ Memory))
    ⊎ ((fault ≡ store.Failed) × (e ≡ Store))
    → IsErrOf {T = R} (Err e) Store → fault ≡ store.Failed
store_failed fault e (inl memory) is = absurd (let same : e ≡ Store = cc in let no : Memory ≡ Store = sym memory.1
    ∙ same in cc)
store_failed fault e (inr failed) is = failed.0

-- over memory the store is no cause
no_cause : (old new : Held MemStore) → ¬ (IsStoreCause (state over_memory old) (state over_memory new))
no_cause old new (inl (inl more)) = omega (arith, more)
no_cause old new (inl (inr top)) = omega (arith, top)
no_cause old new (inr shut) = let no : false ≡ true = sym shut ∙ (memory_serves old).1 in cc

-- and nothing is
never_fails : (old new : Held MemStore) → ¬ (StoreCanFail (state over_memory old) (state over_memory new))
never_fails old new (inl (inl more)) = omega (arith, more)
never_fails old new (inl (inr top)) = omega (arith, top)
never_fails old new (inr can) = elim (can (memory_serves new).0) [
  | inl shut ↦ let no : false ≡ true = sym shut ∙ (memory_serves new).1 in cc
  | inr none ↦ none
]

-- the tables that were to take the rows had none
pub bare_like : (held : Held MemStore) → IsBareDatabase hall_schema (state over_memory held).now
    → IsBareLike hall_schema (state over_memory held).now
bare_like held bare = record {
  is = subst (λ s. IsLike hall_schema s) (sym bare.is) (like_itself hall_schema);
  empty =
      bare.empty;
}

module _ (source left : State) (empty : Held MemStore) (bare : IsBareDatabase hall_schema (state over_memory empty).now)
  where
    -- the copy was not made
    pub copy_refused : (after : Held MemStore) (fault : StoreFault)
        → Migrates source left (state over_memory empty) (state over_memory after) (Err fault) → fault ≡ store.Failed
        → CopyFails source left
    copy_refused after fault migrates failed clean = go (migrates.cause clean (memory_serves after).0 failed)
      where
        go : MigrateFails source left (state over_memory empty) (state over_memory after)
            → TablesFail old_schema source left ⊎ CannotCopy (old_content_of source).world
        go (inl unread) = inl unread
        go (inr (rows, own, inl (inl cause))) = absurd (no_cause empty after cause)
        go (inr (rows, own, inl (inr unread))) = absurd (unread
            (bare_read (state over_memory empty).now (bare_like empty bare)))
        go (inr (rows, own, inr (like, cannot))) = inr (rows, own, (state over_memory empty).now, like, cannot)

    -- it can't be held up by what the tables in memory held before, which was nothing
    pub never_occupied : (after : Held MemStore) → (content_of (state over_memory empty)).world ≡ empty_world
        → Migrates source left (state over_memory empty) (state over_memory after) (Ok Occupied) → CopyFails source left
    never_occupied after none migrates clean = absurd ((migrates.taken clean (memory_serves after).0).some none)

    -- or it was made, and then each of its rows is a record, so that it is read
    pub copy_unread : (filled last : Held MemStore) (count : ℕ)
        → Migrates source left (state over_memory empty) (state over_memory filled) (Ok (Done count))
        → Kept (content_of (state over_memory filled)) (content_of (state over_memory last))
        → CanFailIn (content_of (state over_memory filled)) (content_of (state over_memory last))
        → CopyFails source left
    copy_unread filled last count migrates kept can clean =
        absurd (never_fails filled last (reads_fail (state over_memory filled) (state over_memory last) kept
        (λ was opens. (migrates.taken clean was).read) can))

-- after each row was found to be a record
pub old_fails : (old mid new : State) → KeptTablesIn old_schema old mid → KeptTablesIn old_schema mid new
    → (HasCleanDisk mid → IsTrue mid.is_open)
    → (HasCleanDisk mid → AreAllRead old_schema old.now.trees) → CopyFails mid new → OldFails old new
old_fails old mid new first second serves whole fails clean =
    let was : HasCleanDisk mid = omega (arith, second.follows.lasts.clean, clean) in
    let opens = serves was in
    let world = same_world old mid first was opens in
    let all = whole was in
    elim (fails clean) [
      | inl unread ↦ elim unread [
        | inl cause ↦ inl (cause_over old mid new first.follows.lasts was second.follows.lasts cause)
        | inr some ↦ absurd (some (subst (λ (d : Database). AreAllRead old_schema d.trees) (sym (first.same was opens))
            all))
      ]
      | inr cannot ↦ inr (all, subst CannotCopy world cannot)
    ]
