-- What a call inside a transaction leaves, and several after each other.
use Rattle.std.proofs.Common.{◌≡◌, ◌⊎◌, inl, inr, ℕ, List, true, if◌then◌else◌, IsTrue, Option, Some, None, Ok, Result}
use Rattle.std.proofs.Common.{OnOk, refl, sym, ap, subst, ◌∙◌, arith}
use Rattle.std.proofs.lemmas.Result.{on_ok_weaker}
use Rattle.sqlite_schema.specs.declared.command.Returning.{Returning}
use Rattle.sqlite.specs.declared.error.Error.{Error}
use Rattle.sqlite.specs.Effect.{Database, IsDatabase}
use Rattle.sqlite.specs.Order.{Row}
use Rattle.sqlite.specs.Listing.{understood}
use Rattle.sqlite.specs.Clock.{timed}
use Rattle.sqlite.specs.State.{State, HasCleanDisk, Executes, KeepsCommit, Shown, ShowsRows, FailsToQuery, IsTooLate}
use Rattle.sqlite.proofs.Callers.{IsPlain}
use Rattle.hall_policy.specs.World.{World}
use Rattle.hall_sql.specs.Rows.{world_of}
use Rattle.hall_sql.specs.Standing.{LeadsConnection, KeptOrRolledBack}
use Rattle.hall_sql.specs.Inside.{IsHallData, LeadsUncommitted, KeptTransaction, MakesInside, RanInside, ToldByQuery}
use Rattle.hall_sql.proofs.Wordings.{Wording, by_hall, hall_in}
use Rattle.hall_sql.proofs.LastLemmas.{last_none, last_then, quiet_none, quiet_then}
use Rattle.hall_sql.proofs.CallLemmas.{query_refused, shown_unchanged}

pub carries_none : (s : State) → LeadsUncommitted s s
carries_none s = record {
  lasts = last_none s;
  kept = λ clean inside.
      record { was_open = λ h. h; committed = λ h. refl };
  stops = quiet_none s;
}

pub carries_then : (a b c : State) → LeadsUncommitted a b → (HasCleanDisk b → IsTrue a.in_transaction
    → IsTrue b.in_transaction) → LeadsUncommitted b c → LeadsUncommitted a c
carries_then a b c one goes two = record {
  lasts = last_then a b c one.lasts two.lasts;
  kept = λ clean inside.
      let mid : HasCleanDisk b = omega (arith, two.lasts.clean, clean) in
      let p = one.kept mid inside in
      let q = two.kept clean (goes mid inside) in
      record { was_open = λ h. p.was_open (q.was_open h); committed = λ h. q.committed h ∙ p.committed (q.was_open h) };
  stops = quiet_then a b c one.stops two.lasts two.stops;
}

pub steps_then : (a b c : State) → KeptTransaction a b → KeptTransaction b c → KeptTransaction a c
steps_then a b c one two = record {
  mode = two.mode;
  hall = λ h. two.hall (one.hall h);
  sound = λ h d. two.sound
      (one.hall h) (one.sound h d);
}

-- nothing was done yet
pub did_none : (Does : Database → Database → Type 0) (s : State) → IsTrue s.in_transaction → Does s.now s.now
    → MakesInside Does s s
did_none Does s mode nothing = record {
  steps = record { mode = mode; hall = λ h. h; sound = λ h d. d };
  does = λ h.
      nothing;
}

-- one statement
pub did : (Does : Database → Database → Type 0) (old new : State) → new.in_transaction ≡ true
    → (IsHallData old.now → IsDatabase old.now → IsDatabase new.now)
    → (IsHallData old.now → IsHallData new.now × Does old.now new.now) → MakesInside Does old new
did Does old new mode sound it = record {
  steps = record { mode = mode; hall = λ h. (it h).0; sound = sound };
  does =
      λ h. (it h).1;
}

-- which ran, and writes rows
pub did_run : (Does : Database → Database → Type 0) (sql : List ℕ) (params : Row) (old new : State)
    → RanInside sql params old new
    → ((count : ℕ) → Executes sql params old new (Ok count) → IsHallData old.now → IsHallData new.now
    × Does old.now new.now)
    → MakesInside Does old new
did_run Does sql params old new it does = did Does old new it.mode (λ held d. it.sound held) (does it.count it.ran)

-- one call did both
pub did_both : (One Two : Database → Database → Type 0) (a b : State) → MakesInside One a b → MakesInside Two a b
    → MakesInside (λ x y. One x y × Two x y) a b
did_both One Two a b one two = record { steps = one.steps; does = λ h. (one.does h, two.does h) }

-- one call after another
pub did_then : (First Then Both : Database → Database → Type 0) (a b c : State)
    → (First a.now b.now → Then b.now c.now → Both a.now c.now) → MakesInside First a b → MakesInside Then b c
    → MakesInside Both a c
did_then First Then Both a b c joins one two = record {
  steps = steps_then a b c one.steps two.steps;
  does = λ h. joins (one.does h) (two.does (one.steps.hall h));
}

-- so in a loop, each turn of which calls after those before
pub more_calls : {First Both : Database → Database → Type 0} {Then : Type 0} (a b c : State) → LeadsUncommitted a b
    → (HasCleanDisk b → IsTrue a.in_transaction → MakesInside First a b) → LeadsUncommitted b c
    → (HasCleanDisk c → IsTrue b.in_transaction → Then) → (MakesInside First a b → Then → MakesInside Both a c)
    → LeadsUncommitted a c × (HasCleanDisk c → IsTrue a.in_transaction → MakesInside Both a c)
more_calls a b c to_b first to_c second joins = (
  carries_then a b c to_b (λ clean inside. (first clean inside).steps.mode) to_c,
  λ clean inside.
      let was : HasCleanDisk b = omega (arith, to_c.lasts.clean, clean) in
      let one = first was inside in
      joins one (second clean one.steps.mode),
)

-- and so do two calls, the latter of which may be refused
pub two_did : {A E : Type 0} (First Then Both : Database → Database → Type 0) (result : Result A E) (a b c : State)
    → (First a.now b.now → Then b.now c.now → Both a.now c.now) → LeadsConnection b c
    → (HasCleanDisk b → IsTrue a.in_transaction → MakesInside First a b)
    → (HasCleanDisk c → IsTrue b.in_transaction → OnOk result (MakesInside Then b c))
    → HasCleanDisk c → IsTrue a.in_transaction → OnOk result (MakesInside Both a c)
two_did First Then Both result a b c joins to_c one two clean inside =
    let before : HasCleanDisk b = omega (arith, to_c.clean, clean) in
    let first = one before inside in
    on_ok_weaker result (did_then First Then Both a b c joins first) (two clean first.steps.mode)

-- and three
pub three_did : {A E : Type 0} (First Second Third All : Database → Database → Type 0) (result : Result A E)
    (a b c d : State)
    → ((m : Database) → First a.now m → Second m c.now → Third c.now d.now → All a.now d.now) → LeadsConnection b c
    → LeadsConnection c d
    → (HasCleanDisk b → IsTrue a.in_transaction → MakesInside First a b)
    → (HasCleanDisk c → IsTrue b.in_transaction → MakesInside Second b c)
    → (HasCleanDisk d → IsTrue c.in_transaction → OnOk result (MakesInside Third c d))
    → HasCleanDisk d → IsTrue a.in_transaction → OnOk result (MakesInside All a d)
three_did First Second Third All result a b c d joins to_c to_d first second third =
    two_did (λ x y. (m : Database) × First x m × Second m y) Third All result a c d (λ it. joins it.0 it.1 it.2) to_d
    (λ clean inside.
    let before : HasCleanDisk b = omega (arith, to_c.clean, clean) in
    let one = first before inside in
    did_then First Second (λ x y. (m : Database) × First x m × Second m y) a b c (λ p q. (b.now, p, q)) one
    (second clean one.steps.mode)) third

rests_keep : (old new : State) → KeptOrRolledBack old new → KeepsCommit old new
rests_keep old new (inl h) = record { was_open = λ opens. h.0.was_open; committed = λ opens. h.0.committed_is }
rests_keep old new (inr h) = record { was_open = h.was_open; committed = λ opens. (h.undone opens).1 }

-- a query that ran commits nothing
pub shown_keeps : (sql : List ℕ) (params : Row) (old new : State) (rows : List Row) → IsTrue old.in_transaction
    → Shown sql params old new rows → KeepsCommit old new
unfolding Shown
shown_keeps sql params old new rows inside h = at_returning h.0.returning h.2
  where
    at_returning : (o : Option Returning) → ShowsRows old new sql h.0 (timed params h.0.formats h.1.now) rows o
        → KeepsCommit old new
    at_returning None it = rests_keep old new (inl it.3)
    at_returning (Some what) it = record {
      was_open = λ opens. it.1.shown.was_open;
      committed = λ opens. it.1.shown.committed_is ∙ ap (λ b. if b then old.committed else new.now) inside;
    }

-- and the transaction goes on
pub shown_mode : (sql : List ℕ) (params : Row) (old new : State) (rows : List Row) → IsTrue old.in_transaction
    → Shown sql params old new rows → new.in_transaction ≡ true
unfolding Shown
shown_mode sql params old new rows inside h = at_returning h.0.returning h.2
  where
    at_returning : (o : Option Returning) → ShowsRows old new sql h.0 (timed params h.0.formats h.1.now) rows o
        → new.in_transaction ≡ true
    at_returning None it = it.3.0.mode ∙ inside
    at_returning (Some what) it = it.1.shown.mode ∙ inside

-- nor does one that is refused
pub unshown_keeps : (sql : List ℕ) (params : Row) (old new : State) (e : Error) → FailsToQuery sql params old new e
    ⊎ IsTooLate sql params old new e → KeepsCommit old new
unshown_keeps sql params old new e (inl h) = rests_keep old new (query_refused old new sql params e h)
unshown_keeps sql params old new e (inr h) = rests_keep old new (inl h.5)

-- a query that writes nothing leaves the tables and the transaction, and tells of them
pub shown_did : (Means : World → Type 0) (sql : List ℕ) (params : Row) (old new : State) (rows : List Row)
    → IsTrue old.in_transaction → ((u : Wording) → IsPlain (understood (hall_in u) sql))
    → Shown sql params old new rows → (IsHallData old.now → Means (world_of old.now.trees))
    → MakesInside (ToldByQuery Means) old new
shown_did Means sql params old new rows inside plain h means =
    let left = λ (it : IsHallData old.now). shown_unchanged sql params old new rows
    (by_hall (λ s. IsPlain (understood s sql)) plain old.now.schema it.schema) h in
    did (ToldByQuery Means) old new (shown_mode sql params old new rows inside h)
    (λ it. subst IsDatabase (sym (left it).0.now_is)) (λ it.
    let same = (left it).0.now_is in
    (subst IsHallData (sym same) it, record { same = same; means = means it }))
