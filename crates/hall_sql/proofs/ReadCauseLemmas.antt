-- Why a read fails that asks after another, or row by row.
use Rattle.std.proofs.Common.{◌≡◌, ◌≤◌, inl, inr, ℕ, List, [], ◌∷◌, ◌++◌, Option, Ok, refl, sym, subst, ◌∙◌, arith}
use Rattle.sqlite_trees.specs.declared.store.Store.{Ghosts}
use Rattle.sqlite.specs.Effect.{Database}
use Rattle.sqlite.specs.Held.{Held, state}
use Rattle.sqlite.specs.Listing.{understood, reads_listing, IsSourceOf}
use Rattle.sqlite.specs.Order.{Row}
use Rattle.sqlite.specs.State.{State, HasCleanDisk, IsUnchanged, Begins, Shown}
use Rattle.sqlite.proofs.Callers.{given_begin, unchanged_then}
use Rattle.hall_policy.specs.Sink.{HasTaken}
use Rattle.hall_sql.specs.Asked.{IsAsked, IsAskedIn}
use Rattle.hall_sql.specs.Cause.{FeedFails, ReadFails}
use Rattle.hall_sql.specs.Feed.{HasRead, StepFails}
use Rattle.hall_sql.specs.Standing.{IsOver, LeadsConnection}
use Rattle.hall_sql.specs.Tables.{IsHallSchema, IsLike}
use Rattle.hall_sql.proofs.AskedLemmas.{open_cause}
use Rattle.hall_sql.proofs.CallLemmas.{shown_unchanged}
use Rattle.hall_sql.proofs.FeedLemmas.{shown_since}
use Rattle.hall_sql.proofs.WriteCauseLemmas.{cause_over, cause_served}

-- after a query that was answered
pub after_shown : {X : Type 0} (read : Row → Option X) (first : List ℕ) (given : Row) (sql : List ℕ) (params : Row)
    (a b c : State)
    → IsHallSchema a.now.schema → IsAsked first given → IsAsked sql params → a.faults ≤ b.faults
    → (rows : List Row) → Shown first given a b rows → ReadFails read sql params b c → ReadFails read sql params a c
after_shown read first given sql params a b c has quiet plain counts rows shown fails = go fails
  where
    same : IsUnchanged a b
    same = shown_unchanged first given a b rows (quiet a.now.schema has).plain shown

    go : ReadFails read sql params b c → ReadFails read sql params a c
    go (inl cause) = inl (cause_served a b c counts same.0.is_open cause)
    go (inr it) = inr (it.0, shown_since sql params a b c it.0 (plain a.now.schema has).plain same it.1, it.2)

-- ---- row by row

-- what an answer begins with is read off the tables alone
begins_at : (sql : List ℕ) (params : Row) (a b : State) (rows : List Row) → a.now ≡ b.now → Begins sql params a rows
    → Begins sql params b rows
unfolding Begins
begins_at sql params a b rows same h = (
  h.0,
  record {
    is = subst (λ (d : Database). understood d.schema sql ≡ Ok h.0) same h.1.is;
    whole = h.1.whole;
    given =
        h.1.given;
    now = h.1.now;
  },
  h.2,
  h.3,
  subst (λ (d : Database). IsSourceOf (reads_listing d.schema sql) d h.3) same h.4,
  h.5,
)

-- a row that is not given, after those that the sink has taken
pub feed_cause : {S K X : Type 0} (g : Ghosts S) (read : Row → Option X) (Takes : K → X → K → Type 0)
    (Refuses : K → X → Type 0) (sql : List ℕ)
    (params : Row) (old : State) → IsOver (IsAskedIn sql params) old → (h next : Held S) (before sink : K)
    → LeadsConnection old (state g h)
    → HasCleanDisk (state g h) → LeadsConnection (state g h) (state g next) → (taken : List X)
    → HasTaken Takes before taken sink
    → HasRead g read sql params old h taken → StepFails g read Refuses h next sink
    → FeedFails read Takes Refuses sql params old (state g next) before sink
feed_cause g read Takes Refuses sql params old over h next before sink lasts clean more taken took so (inl it) =
    let was : HasCleanDisk old = omega (arith, lasts.clean, clean) in
    let has : IsLike over.schema (state g h).now.schema = subst (λ (d : Database). IsLike over.schema d.schema)
    (sym so.same.0.now_is) (over.tabled.settled was so.same.0.was_open).1 in
    inl (cause_over old (state g h) (state g next) lasts clean more
    (open_cause sql params (state g h) (state g next) it.0 (over.fits (state g h).now.schema has)
    (lasts.limit ∙ over.tabled.unlimited) it.1 refl (it.2 sql params so.rows so.given)))
feed_cause g read Takes Refuses sql params old over h next before sink lasts clean more taken took so (inr it) =
    let row = it.1 in
    let same = unchanged_then old (state g h) (state g next) so.same it.0 in
    inr (record {
      taken = taken;
      took = took;
      rows = so.rows;
      reads = so.reads;
      row = row;
      begun = begins_at sql params (state g next) old (so.rows ++ row ∷ []) same.0.now_is
          (given_begin g sql params next (so.rows ++ row ∷ []) (it.2 sql params so.rows so.given));
      stops = it.3;
    })
