-- What a stop leaves of a call's files.
use Rattle.std.proofs.Common.{◌≡◌, inl, inr, ℕ, List, false, Result, Ok, Err, IsTrue, Option, None, ◌||◌, is_some}
use Rattle.std.proofs.Common.{if◌then◌else◌, unwrap_or, refl, sym, ap, subst, ◌∙◌, arith}
use Rattle.sqlite_schema.specs.declared.command.Command.{Command}
use Rattle.sqlite_schema.specs.declared.command.Command.TheVariants.{Insert, InsertOr, Update, Delete}
use Rattle.sqlite_schema.specs.declared.command.Returning.{Returning}
use Rattle.sqlite.specs.Clock.{timed}
use Rattle.sqlite.specs.Order.{Row}
use Rattle.sqlite.specs.Tree.{Trees}
use Rattle.sqlite.specs.Schema.{Schema}
use Rattle.sqlite.specs.Does.{Tally, Does}
use Rattle.sqlite.specs.Effect.{Database, IsDatabase, SparesFrozen, is_query}
use Rattle.sqlite_trees.specs.View.{doubt}
use Rattle.sqlite.specs.Listing.{understood}
use Rattle.sqlite.specs.State.{State, HasCleanDisk, Survives, CommitsBy, MayCommit, MayWrite, Executes, ExecutesIn}
use Rattle.sqlite.specs.State.{Runs, Writes, is_pragma, RunsCommand, text_of, mode_of}
use Rattle.sqlite.proofs.Callers.{IsPlain, command_of}
use Rattle.hall_store.specs.Change.{changed}
use Rattle.hall_store.specs.declared.change.Change.{Change}
use Rattle.hall_sql.specs.Rows.{world_of}
use Rattle.hall_sql.specs.Stands.{HoldsHall}
use Rattle.hall_store.specs.declared.fault.StoreFault.{StoreFault}
use Rattle.hall_sql.specs.Content.{MakesInTables}
use Rattle.hall_sql.specs.Standing.{HasMade, IsHall}
use Rattle.hall_sql.specs.WriteCause.{IsRun, IsWritten}
use Rattle.hall_sql.proofs.SoundLemmas.{IsRowWrite, writes_rows}
use Rattle.hall_sql.proofs.CallLemmas.{executed_open}
use Rattle.hall_sql.proofs.WriteLemmas.{StopsAt, made_wrote, stayed_wrote}

-- the connection as it is left, were this committed
abbrev left_by : State → Tally → Database → State
left_by old tally after = record old {
  now = after;
  committed = after;
  changes = unwrap_or tally.rows old.changes;
  last_rowid = unwrap_or tally.last old.last_rowid;
}

module _ (old : State) (alone : old.in_transaction ≡ false) (opened : IsTrue old.is_open) where
  written : (what : _) (command : Command) (text : List ℕ) (params : Row) (tally : Tally) (after : Database)
      → Does old.step_limit (mode_of old) params old.now text what command (Ok (tally, after)) → IsDatabase after
      → SparesFrozen old.now after
      → Writes old (left_by old tally after) what command text params (unwrap_or tally.rows 0)
  written what command text params tally after does sound frozen = record {
    tally = tally;
    changed = does;
    frozen = frozen;
    sound = sound;
    shown = record {
      was_open = opened;
      is_open = opened;
      now_is = refl;
      committed_is = ap
          (λ b. if b then old.committed else after) (sym alone);
      mode = refl;
    };
    marks = refl;
    counted = refl;
    changes = refl;
    last_rowid = refl;
  }

-- a statement that writes rows ends no transaction
may_write : (old : State) (what : Option Returning) (command : Command) (text : List ℕ) (params : Row) (db : Trees)
    → IsRowWrite command
    → MayCommit old what command text params db → MayWrite old what command text params db
may_write old what command text params db is (inl (inl ends, same)) = absurd (subst IsRowWrite ends is)
may_write old what command text params db is (inl (inr ends, same)) = absurd (subst IsRowWrite ends.2 is)
may_write old what command text params db is (inr h) = h

as_runs : (old new : State) (what : Option Returning) (command : Command) (text : List ℕ) (params : Row) (count : ℕ)
    → IsRowWrite command
    → Writes old new what command text params count → Runs old new what command text params count
as_runs old new what (Insert at from) text params count is w = w
as_runs old new what (InsertOr at way from clauses) text params count is w = w
as_runs old new what (Update at q) text params count is w = w
as_runs old new what (Delete at q) text params count is w = w
as_runs old new what _ text params count is w = absurd is

shows_none : (command : Command) (what : Option Returning) → IsRowWrite command → what ≡ None
    → is_query command || (is_pragma command || is_some what) ≡ false
shows_none (Insert at from) what is none = ap is_some none
shows_none (InsertOr at way from clauses) what is none = ap is_some none
shows_none (Update at q) what is none = ap is_some none
shows_none (Delete at q) what is none = ap is_some none
shows_none _ what is none = absurd is

-- what a statement that writes rows may commit is what some run of it leaves, which is sound
module _ (sql : List ℕ) (params : Row) (old : State) (schema : Schema) (has : old.now.schema ≡ schema)
    (plain : IsPlain (understood schema sql))
    (is : IsRowWrite (command_of (understood schema sql))) (alone : old.in_transaction ≡ false)
    (opened : IsTrue old.is_open) where
  pub commit_runs : (db : Trees) → CommitsBy sql params old db → (new : State) × (count : ℕ)
      × Executes sql params old new (Ok count) × (new.now.trees ≡ db) × IsDatabase new.now
      × (new.is_clean ≡ old.is_clean)
  unfolding CommitsBy ExecutesIn
  commit_runs db h =
      let c = h.0 in
      let known = sym h.1.is ∙ ap (λ s. understood s sql) has in
      let bare = subst IsPlain (sym known) plain in
      let writes : IsRowWrite c.command = subst (λ r. IsRowWrite (command_of r)) (sym known) is in
      let full = timed params c.formats h.1.now in
      let it = may_write old c.returning c.command (text_of sql c) full db writes h.2 in
      let new = left_by old it.1 it.2 in
      let count = unwrap_or it.1.rows 0 in
      let ran : RunsCommand old new sql c full (Ok count) =
      as_runs old new c.returning c.command (text_of sql c) full count writes
      (written old alone opened c.returning c.command (text_of sql c) full it.1 it.2 it.3 it.4 it.6) in
      (new, count, (c, h.1, rw (shows_none c.command c.returning writes bare.0) ran), sym it.5, it.4, refl)

-- each run of the statement there makes the change
abbrev pub EachRunMakes : Change → List ℕ → Row → State → Type 1
EachRunMakes change sql params old =
    HasCleanDisk old → IsTrue old.is_open → (run : State) (count : ℕ) → Executes sql params old run (Ok count)
    → HasMade change old run

-- so where each run of it makes the change, a stop leaves what it could leave before, or a hall of the world that the
-- change makes
pub stops_made : (change : Change) (sql : List ℕ) (params : Row) (old new : State) → IsHall old → IsWritten sql params
    → EachRunMakes change sql params old → Survives old new (CommitsBy sql params old) → StopsAt change old new
stops_made change sql params old new hall written made survives opens clean db may =
    let was : HasCleanDisk old = omega (arith, survives.clean, clean) in
    elim (survives.crash clean db may) [
      | inl earlier ↦ inl earlier
      | inr commits ↦
          let schema = old.now.schema in
          let is = written schema (hall.settled was opens).1 in
          let ran = commit_runs sql params old schema refl is.plain (writes_rows _ is.edits) (hall.autocommit was) opens
          db commits in
          let run = ran.0 in
          let it = made was opens run ran.1 ran.2 in
          let listed = (it.hall.settled (subst (λ b. doubt b ≡ 0) (sym ran.5) was) it.serves).1 in
          let holds : HoldsHall (changed change (world_of old.now.trees)) run.now.trees =
          ((run.now.schema, listed, ran.4), it.world) in
          inr (subst (HoldsHall (changed change (world_of old.now.trees))) ran.3 holds)
    ]

-- and the call of it makes the change, or is refused
pub run_wrote : {R : Type 0} (change : Change) (sql : List ℕ) (params : Row) (old new : State)
    (result : Result R StoreFault) → IsHall old
    → IsWritten sql params → EachRunMakes change sql params old → IsRun sql params old new result
    → MakesInTables change old new result
run_wrote change sql params old new (Ok done) hall written made it =
    made_wrote change old new done hall it.lasts (stops_made change sql params old new hall written made it.survives)
    (λ was clean.
    let ran = it.ran clean in
    made was (executed_open old new sql params ran.0 (hall.autocommit was) ran.1) new ran.0 ran.1)
run_wrote change sql params old new (Err fault) hall written made it =
    stayed_wrote change old new fault (stops_made change sql params old new hall written made it.survives) it.refused
