-- Why a write fails, from what the connection refused.
use Rattle.std.proofs.Common.{IsErrAnd, ◌≡◌, ◌≢◌, ◌⊎◌, inl, inr, ℕ, zero, suc, ◌+◌, ◌<◌, ◌≤◌, List, ◌∷◌, length, drop}
use Rattle.std.proofs.Common.{get_or, true, false, ◌||◌, ◌&&◌, append-nil, Option, Some, None, Result, Ok, Err, IsTrue}
use Rattle.std.proofs.Common.{IsSome, is_some, refl, sym, ap, subst, ◌∙◌, arith}
use Rattle.std.proofs.lemmas.Bool.{cases_Bool}
use Rattle.std.proofs.lemmas.Result.{IfErr-weaker}
use Rattle.sqlite_schema.specs.declared.command.Returning.{Returning}
use Rattle.sqlite_schema.specs.declared.command.Command.{Command}
use Rattle.sqlite_schema.specs.declared.command.Command.TheVariants.{Insert, Update, Delete}
use Rattle.sqlite_resolve.specs.declared.compiled.Compiled.{Compiled}
use Rattle.sqlite.specs.declared.error.ErrorCode.TheVariants as code
use Rattle.sqlite.specs.declared.error.Error.{Error}
use Rattle.sqlite.specs.declared.error.Error.TheVariants.{SqliteFailure}
use Rattle.sqlite.specs.Order.{Row}
use Rattle.sqlite.specs.Does.{Does}
use Rattle.sqlite.specs.Listing.{understood}
use Rattle.sqlite.specs.State.{IsLive, State, HasCleanDisk, IsMisplaced, Escapes, EndsScope, RunsCommand, Executes}
use Rattle.sqlite.specs.State.{ExecutesIn}
use Rattle.sqlite.specs.State.{mode_of, text_of, is_pragma, shows_rows}
use Rattle.sqlite.specs.Steps.{FailsToCommit}
use Rattle.sqlite.proofs.Callers.{IsPlain, command_of, statement_of}
use Rattle.hall_policy.specs.World.{World}
use Rattle.hall_store.specs.Store.{Fails, MoreFaults}
use Rattle.hall_store.specs.declared.fault.StoreFault.{StoreFault}
use Rattle.hall_store.specs.declared.fault.StoreFault.TheVariants.{Failed}
use Rattle.hall_store.proofs.Knowing.{fails_as}
use Rattle.sqlite.specs.Schema.{Schema}
use Rattle.hall_sql.specs.Rows.{world_of}
use Rattle.hall_sql.specs.Standing.{IsHall, KeptTables, LeadsConnection}
use Rattle.hall_sql.specs.Inside.{KeptTransaction, IsHallData, LeadsUncommitted, MakesInside}
use Rattle.sqlite_trees.specs.declared.store.Store.{Ghosts}
use Rattle.sqlite.specs.Held.{Held, state}
use Rattle.hall_sql.specs.Asked.{IsAsked, is_whole}
use Rattle.hall_sql.specs.Cause.{IsStoreCause}
use Rattle.std.specs.List.{filter}
use Rattle.sqlite.specs.Effect.{Database, is_query}
use Rattle.hall_grid.specs.Canonical.{CanonicalText}
use Rattle.hall_policy.specs.declared.record.PuzzleRow.{PuzzleRow}
use Rattle.hall_policy.specs.declared.record.Round.{Round}
use Rattle.hall_sql.specs.Columns.{HasSoMany, puzzle_params, stands_under}
use Rattle.hall_sql.specs.RoundColumns.{head_params, HasSoManyHeads}
use Rattle.hall_sql.specs.RoundPuts.{CountsHeads}
use Rattle.hall_sql.specs.declared.puzzles.TheConstants.{ADD_PUZZLE, REPLACE_PUZZLE}
use Rattle.hall_sql.specs.declared.round_writes.TheConstants.{ADD_HEAD, REPLACE_HEAD}
use Rattle.hall_sql.proofs.EachLemmas.{next_item}
use Rattle.hall_sql.proofs.OneRow.{one_head, one_puzzle}
use Rattle.hall_sql.specs.WriteCause.{PuzzleIsRefused, PutPuzzleFails, HeadIsRefused, IsHeadRefused, IsEdit, IsWritten}
use Rattle.hall_sql.specs.WriteCause.{IsWrittenIn, enforced, IsStatementRefused, RunFails, Refuses, RefusesInside}
use Rattle.hall_sql.specs.WriteCause.{RefusesToAsk, IsUnderWay, InsideFails}
use Rattle.hall_sql.proofs.AskedLemmas.{store_cause, not_run, open_cause}

-- ---- one statement

-- a text that was computed to be an edit
pub written : {schema : Schema} (sql : List ℕ) (params : Row) (command : Command)
    → command_of (understood schema sql) ≡ command → IsEdit command
    → IsPlain (understood schema sql) → is_whole sql (length params) (understood schema sql) ≡ true
    → IsWrittenIn sql params schema
written sql params command is edit plain whole = record {
  plain = plain;
  whole = whole;
  edits = subst IsEdit (sym is)
      edit;
}

-- an edit is no command that shows rows, nor one that begins or ends a transaction
edit_shows : (command : Command) (returning : Option Returning) → IsEdit command → returning ≡ None
    → (is_query command || (true && (is_pragma command || is_some returning))) ≡ false
edit_shows (Insert at from) returning edit none = rw none refl
edit_shows (Update at q) returning edit none = rw none refl
edit_shows (Delete at q) returning edit none = rw none refl
edit_shows _ returning edit none = absurd edit

edit_placed : (s : State) (command : Command) (e : Error) → IsEdit command → ¬ (IsMisplaced s command e)
edit_placed s command e edit (inl h) = elim h.1 [
  | inl begins ↦ subst IsEdit begins.0 edit
  | inr ends ↦ elim ends.0 [
    | inl commit ↦ subst IsEdit commit edit
    | inr back ↦ subst IsEdit back edit
  ]
]
edit_placed s command e edit (inr h) = elim h.2 [
  | inl release ↦ subst IsEdit release edit
  | inr back ↦ subst IsEdit back edit
]

edit_stays : (s : State) (command : Command) → IsEdit command → ¬ (Escapes 0 s command)
edit_stays s command edit (inl ends) = elim ends [
  | inl commit ↦ subst IsEdit commit edit
  | inr back ↦ subst IsEdit back edit
]
edit_stays s command edit (inr h) = elim h.1 [
  | inl release ↦ subst IsEdit release edit
  | inr back ↦ subst IsEdit back edit
]

module _ (sql : List ℕ) (params : Row) (old new : State) (e : Error) (other : e ≢ SqliteFailure code.OutOfMemory)
    (free : old.step_limit ≡ None) where
  module _ (c : Compiled) (known : understood old.now.schema sql ≡ Ok c) (none : c.returning ≡ None) where
    is_refused : (stop : Option Error) → Does old.step_limit (mode_of old) params old.now (text_of sql c) c.returning
        c.command (Err stop)
        → IsStatementRefused sql params old.now
    is_refused stop does =
        let it : Does None enforced params old.now (text_of sql c) None c.command (Err stop) = rw (free, none) at
        does in (
          stop,
          subst (λ r. Does None enforced params old.now (statement_of sql r) None (command_of r) (Err stop))
              (sym known) it,
        )

    command_cause : IsEdit c.command → RunsCommand old new sql c params (Err e) → RunFails sql params old new
    command_cause edit (inl h) = elim h.0 [
      | inl misplaced ↦ absurd (edit_placed old c.command e edit misplaced)
      | inr refused ↦ inr (is_refused (Some e) refused.1)
    ]
    command_cause edit (inr h) = elim (store_cause old new _ e other h.0 h.1 h.2) [
      | inl cause ↦ inl cause
      | inr large ↦ inr (is_refused None large)
    ]

  executed_cause : IsWrittenIn sql params old.now.schema → Executes sql params old new (Err e)
      → RunFails sql params old new
  unfolding ExecutesIn
  executed_cause it (inl h) = inl (not_run old.now.schema sql params old new e it.plain it.whole other refl h)
  executed_cause it (inr h) =
      let known : understood old.now.schema sql ≡ Ok h.0 = h.1.is in
      let bare = subst IsPlain {x = understood old.now.schema sql} known it.plain in
      let edit : IsEdit h.0.command = subst (λ r. IsEdit (command_of r)) known it.edits in
      let shows : shows_rows false h.0 ≡ false = edit_shows h.0.command h.0.returning edit bare.0 in
      let runs : RunsCommand old new sql h.0 params (Err e) = rw (shows, bare.1, append-nil params) at h.2 in
      command_cause h.0 known bare.0 edit runs

-- outside a transaction
pub refused_cause : (sql : List ℕ) (params : Row) (old new : State) → IsWritten sql params → IsHall old
    → HasCleanDisk old
    → Refuses sql params old new → RunFails sql params old new
refused_cause sql params old new it hall clean refuses = elim (cases_Bool old.is_open) [
  | inl opens ↦ executed_cause sql params old new refuses.0 refuses.1 hall.unlimited
      (it old.now.schema (hall.settled clean opens).1) refuses.2
  | inr shut ↦ inl (inr shut)
]

never_escapes : (sql : List ℕ) (params : Row) (s : State) → IsWrittenIn sql params s.now.schema
    → ¬ (EndsScope 0 sql params s)
unfolding EndsScope
never_escapes sql params s it h =
    let known : understood s.now.schema sql ≡ Ok h.0 = h.1.is in
    edit_stays s h.0.command (subst (λ r. IsEdit (command_of r)) known it.edits) h.2

-- and inside
pub inside_cause : (sql : List ℕ) (params : Row) (old new : State) → IsWritten sql params → IsUnderWay old
    → RefusesInside sql params old new
    → RunFails sql params old new
inside_cause sql params old new it goes refuses = elim refuses.2 [
  | inl ran ↦ executed_cause sql params old new refuses.0 refuses.1 goes.unlimited (it old.now.schema goes.hall.schema)
      ran.0
  | inr ends ↦ absurd (never_escapes sql params old (it old.now.schema goes.hall.schema) ends.0)
]

pub asked_inside : (sql : List ℕ) (params : Row) (old new : State) → IsAsked sql params → IsUnderWay old
    → RefusesToAsk sql params old new
    → IsStoreCause old new
asked_inside sql params old new asks goes refuses = elim refuses.2 [
  | inl fails ↦ open_cause sql params old new refuses.0 (asks old.now.schema goes.hall.schema) goes.unlimited refuses.1
      refl fails
  | inr late ↦
      let known : understood old.now.schema sql ≡ Ok late.0 = late.1.is in
      let plain = (asks old.now.schema goes.hall.schema).plain in
      absurd (let no : false ≡ true = subst IsSome (subst IsPlain {x = understood old.now.schema sql} known plain).0
      late.2 in cc)
]

-- ---- one call after another

more_over : (a b c : ℕ) → a ≤ b → MoreFaults b c → MoreFaults a c
more_over a b c before (inl more) = inl (omega (arith, before, more))
more_over a b c before (inr top) = inr top

more_later : (a b c : ℕ) → b ≤ c → MoreFaults a b → MoreFaults a c
more_later a b c after (inl more) = inl (omega (arith, after, more))
more_later a b c after (inr top) = inr (omega (arith, after, top))

-- what causes a call to fail, causes those to fail that go on after it
pub cause_later : (a b c : State) → LeadsConnection b c → IsStoreCause a b → IsStoreCause a c
cause_later a b c after (inl more) = inl (more_later a.faults b.faults c.faults after.counts more)
cause_later a b c after (inr shut) = inr shut

-- or that went before, where the store then served
pub cause_served : (a b c : State) → a.faults ≤ b.faults → IsTrue b.is_open → IsStoreCause b c → IsStoreCause a c
cause_served a b c before opens (inl more) = inl (more_over a.faults b.faults c.faults before more)
cause_served a b c before opens (inr shut) = absurd (let no : false ≡ true = sym shut ∙ opens in cc)

-- or whether it did or not
pub cause_over : (a b c : State) → LeadsConnection a b → HasCleanDisk b → LeadsConnection b c → IsStoreCause b c
    → IsStoreCause a c
cause_over a b c before clean after cause = elim (cases_Bool b.is_open) [
  | inl opens ↦ cause_served a b c before.counts opens cause
  | inr shut ↦ elim (cases_Bool a.is_open) [
    | inl opened ↦ elim (before.closes clean opened) [
      | inl still ↦ absurd (let no : false ≡ true = sym shut ∙ still in cc)
      | inr more ↦ inl (more_later a.faults b.faults c.faults after.counts more)
    ]
    | inr was ↦ inr was
  ]
]

-- a statement after a call that left the tables
pub run_over : (sql : List ℕ) (params : Row) (a b c : State) → LeadsConnection a b → HasCleanDisk b
    → LeadsConnection b c → b.now ≡ a.now
    → RunFails sql params b c → RunFails sql params a c
run_over sql params a b c before clean after same (inl cause) = inl (cause_over a b c before clean after cause)
run_over sql params a b c before clean after same (inr refused) = inr
    (subst (IsStatementRefused sql params) same refused)

-- so where the store served
pub run_served : (sql : List ℕ) (params : Row) (a b c : State) → a.faults ≤ b.faults → IsTrue b.is_open → b.now ≡ a.now
    → RunFails sql params b c → RunFails sql params a c
run_served sql params a b c before opens same (inl cause) = inl (cause_served a b c before opens cause)
run_served sql params a b c before opens same (inr refused) = inr (subst (IsStatementRefused sql params) same refused)

-- a transaction goes on over the hall's tables
pub goes_on : (a b : State) → IsUnderWay a → LeadsConnection a b → KeptTransaction a b → IsUnderWay b
goes_on a b goes lasts steps =
    record {
      mode = steps.mode;
      unlimited = lasts.limit ∙ goes.unlimited;
      hall = steps.hall goes.hall;
      sound = steps.sound goes.hall goes.sound;
    }

-- ---- several calls

-- the first of them fails as it does alone
pub fails_first : {R Cause Why : Type 0} (Rest : Type 0) (result : Result R StoreFault) (fault : StoreFault)
    → IsErrAnd result (λ e. e ≡ fault) → (fault ≡ Failed → Cause ⊎ Why) → Fails (Cause ⊎ (Why ⊎ Rest)) result
fails_first Rest result fault is why = fails_as result _ fault is (λ failed. elim (why failed) [
  | inl cause ↦ inl cause
  | inr refused ↦ inr (inl refused)
])

-- ---- a call after one that did its part

module _ (First : Database → Database → Type 0) (old mid new : State) (to_mid : LeadsConnection old mid)
    (to_new : LeadsConnection mid new) (did : HasCleanDisk mid → IsTrue old.in_transaction → MakesInside First old mid)
  where
    -- it is called over what the first one left
    gone_on : HasCleanDisk new → IsUnderWay old → IsUnderWay mid × First old.now mid.now
    gone_on clean goes =
        let was : HasCleanDisk mid = omega (arith, to_new.clean, clean) in
        let first = did was goes.mode in
        (goes_on old mid goes to_mid first.steps, first.does goes.hall)

    module _ {Why Both : Type 0} (both : IsHallData mid.now → First old.now mid.now → Why → Both) where
      -- so where it is refused there, both are
      pub then_cause : HasCleanDisk new → IsUnderWay old → (IsUnderWay mid → IsStoreCause mid new ⊎ Why)
          → IsStoreCause old new ⊎ Both
      then_cause clean goes why =
          let on = gone_on clean goes in
          let was : HasCleanDisk mid = omega (arith, to_new.clean, clean) in
          elim (why on.0) [
            | inl cause ↦ inl (cause_over old mid new to_mid was to_new cause)
            | inr refused ↦ inr (both on.0.hall on.1 refused)
          ]

      pub then_fails : {R : Type 0} (result : Result R StoreFault) → InsideFails mid new (IsStoreCause mid new ⊎ Why)
          result
          → InsideFails old new (IsStoreCause old new ⊎ Both) result
      then_fails result fails clean goes =
          IfErr-weaker result _ _ (λ fault why failed. then_cause clean goes (λ on. why failed))
          (fails clean (gone_on clean goes).0)

-- ---- a write of what a query found

-- the query left the tables, so the write fails over them as they were before it
pub found_fails : {X R Late : Type 0} (Finds : Type 0) (Why : X → Type 0) (at : World → Option X) (x : X)
    (old mid new : State)
    (result : Result R StoreFault) → KeptTables old mid → (HasCleanDisk new → HasCleanDisk mid)
    → (HasCleanDisk mid → IsTrue mid.is_open × (at (world_of mid.now.trees) ≡ Some x))
    → (old.faults ≤ mid.faults → IsTrue mid.is_open → mid.now ≡ old.now → Late → Why x)
    → (HasCleanDisk new → Fails Late result) → HasCleanDisk new
    → Fails (Finds ⊎ ((x : X) × (at (world_of old.now.trees) ≡ Some x) × Why x)) result
found_fails Finds Why at x old mid new result rested honest found early fails clean =
    let was = honest clean in
    let it = found was in
    let same = rested.same was it.0 in
    let there = subst (λ (d : Database). at (world_of d.trees) ≡ Some x) same it.1 in
    IfErr-weaker result _ _
    (λ fault why failed. inr (x, there, early rested.follows.lasts.counts it.0 same (why failed))) (fails clean)

-- ---- the end of a transaction

-- a commit that is refused has its cause in the store
pub commit_cause : (old new : State) (e : Error) → IsTrue old.in_transaction → e ≢ SqliteFailure code.OutOfMemory
    → FailsToCommit old new e
    → IsStoreCause old new
commit_cause old new e mode other (inl h) = elim (store_cause old new ⊥ e other h.0 h.1 h.2) [
  | inl cause ↦ cause
  | inr none ↦ absurd none
]
commit_cause old new e mode other (inr h) = absurd (let no : false ≡ true = sym h.1 ∙ mode in cc)

-- the next item of a list, and those after it
pub next_is : {A : Type 0} (items : List A) (i : ℕ) (item : A) → i < length items → item ≡ get_or items i item
    → drop i items ≡ item ∷ drop (i + 1) items
next_is items i item low is = next_item items i item low ∙ ap (λ x. x ∷ drop (i + 1) items) (sym is)

-- ---- puzzles

pub new_refused : (row : PuzzleRow) (text : List ℕ) (count : ℕ) (a b : State) → CanonicalText text row.puzzle
    → count ≡ 0
    → RunFails ADD_PUZZLE.now (puzzle_params text row) a b → IsStoreCause a b ⊎ PuzzleIsRefused row count a.now
new_refused row text count a b is none (inl cause) = inl cause
new_refused row text count a b is none (inr refused) = inr (subst (λ n. PuzzleIsRefused row n a.now) (sym none)
    (text, is, refused))

pub over_refused : (row : PuzzleRow) (text : List ℕ) (count : ℕ) (a b : State) → CanonicalText text row.puzzle
    → count ≡ 1
    → RunFails REPLACE_PUZZLE.now (puzzle_params text row) a b → IsStoreCause a b ⊎ PuzzleIsRefused row count a.now
over_refused row text count a b is one (inl cause) = inl cause
over_refused row text count a b is one (inr refused) = inr (subst (λ n. PuzzleIsRefused row n a.now) (sym one)
    (text, is, refused))

never_many : (count : ℕ) → count ≤ 1 → ¬ (count ≡ 0) → ¬ (count ≡ 1) → ⊥
never_many zero few some more = some refl
never_many (suc zero) few some more = more refl
never_many (suc (suc n)) few some more = omega (arith, few)

-- where neither none nor one stands under the key, the cause lies in the store: it is shut
pub many_refused : {Why : Type 0} (row : PuzzleRow) (count : ℕ) (s : State) → IsHall s → IsLive s → HasCleanDisk s
    → HasSoMany row.key s count
    → ¬ (count ≡ 0) → ¬ (count ≡ 1) → IsStoreCause s s ⊎ Why
many_refused row count s hall live clean many some more = elim (cases_Bool s.is_open) [
  | inl opens ↦
      let ours : IsHallData s.now = record {
        schema = (hall.settled clean opens).1;
        keyed = hall.keyed clean opens;
      } in
      absurd (never_many count (subst (λ n. n ≤ 1) many (one_puzzle row.key s.now ours (live opens).0)) some more)
  | inr shut ↦ inl (inr shut)
]

pub puzzle_found : (row : PuzzleRow) (count : ℕ) (a b c : State) → a.faults ≤ b.faults → IsTrue b.is_open
    → b.now ≡ a.now
    → HasSoMany row.key b count → IsStoreCause b c ⊎ PuzzleIsRefused row count b.now → PutPuzzleFails row a c
puzzle_found row count a b c before opens same many (inl cause) = inl (cause_served a b c before opens cause)
puzzle_found row count a b c before opens same many (inr refused) = inr (
  count,
  subst (λ (d : Database). length (filter (stands_under row.key) (d.trees 3)) ≡ count) same many,
  subst (PuzzleIsRefused row count) same refused,
)

pub puzzle_served : (row : PuzzleRow) (a b c : State) → a.faults ≤ b.faults → IsTrue b.is_open → b.now ≡ a.now
    → PutPuzzleFails row b c
    → PutPuzzleFails row a c
puzzle_served row a b c before opens same (inl cause) = inl (cause_served a b c before opens cause)
puzzle_served row a b c before opens same (inr it) = puzzle_found row it.0 a b c before opens same it.1 (inr it.2)

-- ---- heads of rounds

pub new_head : (round : Round) (count : ℕ) (a b : State) → count ≡ 0 → RunFails ADD_HEAD.now (head_params round) a b
    → IsStoreCause a b ⊎ HeadIsRefused round count a.now
new_head round count a b none (inl cause) = inl cause
new_head round count a b none (inr refused) = inr (subst (λ n. HeadIsRefused round n a.now) (sym none) refused)

pub over_head : (round : Round) (count : ℕ) (a b : State) → count ≡ 1 → RunFails REPLACE_HEAD.now (head_params round) a
    b
    → IsStoreCause a b ⊎ HeadIsRefused round count a.now
over_head round count a b one (inl cause) = inl cause
over_head round count a b one (inr refused) = inr (subst (λ n. HeadIsRefused round n a.now) (sym one) refused)

-- neither none nor one stands under the id: that is never so
pub many_heads : (id : List ℕ) (count : ℕ) (s : State) → IsUnderWay s → HasSoManyHeads id s.now count → ¬ (count ≡ 0)
    → ¬ (count ≡ 1) → ⊥
many_heads id count s goes many some more =
    never_many count (subst (λ n. n ≤ 1) many (one_head id s.now goes.hall goes.sound)) some more

pub head_found : (round : Round) (count : ℕ) (a b c : State) → LeadsConnection a b → HasCleanDisk b
    → LeadsConnection b c → CountsHeads round.id count a.now b.now
    → IsStoreCause b c ⊎ HeadIsRefused round count b.now → IsStoreCause a c ⊎ IsHeadRefused round a.now
head_found round count a b c before clean after counts (inl cause) = inl (cause_over a b c before clean after cause)
head_found round count a b c before clean after counts (inr refused) = inr
    (count, counts.many, subst (HeadIsRefused round count) counts.same refused)

-- ---- a transaction

module _ {S : Type 0} (g : Ghosts S) (held : Held S) (hall : IsHall (state g held)) where
  -- where the transaction began
  abbrev base : State
  base = state g (record held { in_transaction = true })

  -- what was refused inside it was rolled back
  pub whole_cause : {Refused : Type 0} → IsLive (state g held) → (mid end : State) → HasCleanDisk (state g held) →
      LeadsConnection mid end
      → (IsUnderWay base → IsStoreCause base mid ⊎ Refused) → IsStoreCause (state g held) end ⊎ Refused
  whole_cause live mid end clean lasts why = elim (cases_Bool (state g held).is_open) [
    | inl opens ↦
        let ours : IsHallData base.now = record {
          schema = (hall.settled clean opens).1;
          keyed = hall.keyed clean
              opens;
        } in
        elim (why (record { mode = refl; unlimited = hall.unlimited; hall = ours; sound = (live opens).0 })) [
          | inl cause ↦ inl (cause_later base mid end lasts cause)
          | inr refused ↦ inr refused
        ]
    | inr shut ↦ inl (inr shut)
  ]

  -- or its commit was
  pub commit_fails : (Does : Database → Database → Type 0) (mid end : State) (e : Error) → LeadsUncommitted base mid
      → (HasCleanDisk mid → IsTrue base.in_transaction → MakesInside Does base mid) → LeadsConnection mid end
      → HasCleanDisk end
      → e ≢ SqliteFailure code.OutOfMemory → FailsToCommit mid end e → IsStoreCause (state g held) end
  commit_fails Does mid end e carries did lasts clean other fails =
      let was : HasCleanDisk mid = omega (arith, lasts.clean, clean) in
      cause_over base mid end carries.lasts was lasts (commit_cause mid end e (did was refl).steps.mode other fails)
