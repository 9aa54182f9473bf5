-- What the calls of a connection leave.
use Rattle.std.proofs.Common.{◌≡◌, inl, inr, ℕ, List, [], true, false, Option, Some, None, Ok, Err, IsTrue, sym, subst}
use Rattle.std.proofs.Common.{◌∙◌, arith}
use Rattle.std.proofs.lemmas.Bool.{cases_Bool}
use Rattle.sqlite.specs.declared.types.Value.TheVariants.{Null}
use Rattle.sqlite.specs.declared.error.Error.{Error}
use Rattle.sqlite.specs.Order.{Row}
use Rattle.sqlite.specs.Term.{Term}
use Rattle.sqlite_value.specs.declared.keys.Key.{Key}
use Rattle.sqlite.specs.Query.{IsAnswer}
use Rattle.sqlite.specs.Program.{overlay}
use Rattle.sqlite_schema.specs.declared.command.Command.TheVariants.{Select, Insert, InsertOr, Update, Delete}
use Rattle.sqlite_schema.specs.declared.command.Command.TheVariants.{CreateTable, CreateIndex, DropTable, DropIndex}
use Rattle.sqlite_schema.specs.declared.command.Command.TheVariants.{Begin, Commit, Rollback, Savepoint as Save}
use Rattle.sqlite_schema.specs.declared.command.Command.TheVariants.{Release, RollbackTo, Nothing, CreateView, DropView}
use Rattle.sqlite_schema.specs.declared.command.Command.TheVariants.{Rows}
use Rattle.sqlite_schema.specs.declared.command.Returning.{Returning}
use Rattle.sqlite_schema.specs.declared.command.Command.{Command}
use Rattle.sqlite_resolve.specs.declared.compiled.Compiled.{Compiled}
use Rattle.sqlite.specs.Effect.{Database}
use Rattle.sqlite.specs.Listing.{understood, reads_listing}
use Rattle.sqlite.specs.Clock.{timed}
use Rattle.sqlite.specs.State.{State, HasCleanDisk, IsUnchanged, Fails, IsNotRun, FailsToQuery, FailsToShow}
use Rattle.sqlite.specs.State.{RunsCommand, Executes, ExecutesIn, Shown, ShowsRows, shows_rows, Runs, ReleasesAt}
use Rattle.sqlite.proofs.Callers.{IsPlain, command_of, reads_as}
use Rattle.sqlite.specs.Schema.{Schema}
use Rattle.hall_sql.specs.Statements.{plain_query}
use Rattle.hall_sql.specs.Standing.{AddsNoOutcome, LeadsConnection, IsTabled, AreKeyedIn, KeptOrRolledBack}
use Rattle.hall_sql.specs.Standing.{KeptTablesIn, KeptRowsIn, IsSelection}
use Rattle.hall_sql.specs.Tables.{IsLike}
use Rattle.hall_sql.proofs.Selections.{selected}

failed : (old new : State) (U : Type 0) (e : Error) → Fails old new U e → KeptOrRolledBack old new
failed old new U e h = inr h.3

not_run : (old new : State) (sql : List ℕ) (params : Row) (e : Error) → IsNotRun old new sql params e
    → KeptOrRolledBack old new
unfolding IsNotRun
not_run old new sql params e (inl h) = inl h.1
not_run old new sql params e (inr h) = failed old new _ e h

run_refused : (old new : State) (sql : List ℕ) (c : Compiled) (params : Row) (e : Error)
    → RunsCommand old new sql c params (Err e) → KeptOrRolledBack old new
run_refused old new sql c params e (inl h) = inl h.1
run_refused old new sql c params e (inr h) = failed old new _ e h

show_refused : (old new : State) (sql : List ℕ) (c : Compiled) (params : Row) (e : Error) (o : _)
    → FailsToShow old new sql c params e o → KeptOrRolledBack old new
show_refused old new sql c params e None h = inl h.3
show_refused old new sql c params e (Some what) h = run_refused old new sql c params e h

pub query_refused : (old new : State) (sql : List ℕ) (params : Row) (e : Error) → FailsToQuery sql params old new e
    → KeptOrRolledBack old new
unfolding FailsToQuery
query_refused old new sql params e (inl h) = not_run old new sql params e h
query_refused old new sql params e (inr h) = show_refused old new sql h.0 _ e _ h.2

pub execute_refused : (old new : State) (sql : List ℕ) (params : Row) (e : Error) → Executes sql params old new (Err e)
    → KeptOrRolledBack old new
unfolding ExecutesIn
execute_refused old new sql params e (inl h) = not_run old new sql params e h
execute_refused old new sql params e (inr h) = elim (cases_Bool (shows_rows false h.0)) [
  | inl shows ↦ inl (rw shows at h.2).1
  | inr runs ↦ run_refused old new sql h.0 _ e (rw runs at h.2)
]

was_open : (old new : State) → KeptOrRolledBack old new → IsTrue new.is_open → IsTrue old.is_open
was_open old new (inl h) opens = h.0.was_open
was_open old new (inr h) opens = h.was_open opens

rest_same : (old new : State) → KeptOrRolledBack old new → old.now ≡ old.committed → IsTrue new.is_open
    → (new.now ≡ old.now) × (new.committed ≡ old.committed)
rest_same old new (inl h) settled opens = (h.0.now_is, h.0.committed_is)
rest_same old new (inr h) settled opens = ((h.undone opens).0 ∙ sym settled, (h.undone opens).1)

ends_mode : (old new : State) → KeptOrRolledBack old new → old.in_transaction ≡ false → new.in_transaction ≡ false
ends_mode old new (inl h) mode = h.0.mode ∙ mode
ends_mode old new (inr h) mode = h.autocommit

-- a call that rests leaves the content as it was
pub stayed : {schema : Schema} (old new : State) → IsTabled schema old → LeadsConnection old new
    → (HasCleanDisk old → HasCleanDisk new → KeptOrRolledBack old new) → KeptRowsIn schema old new
stayed {schema} old new hall lasts h =
    let before = λ (clean : HasCleanDisk new). let was : HasCleanDisk old = omega (arith, lasts.clean, clean) in was in
    let it = λ (clean : HasCleanDisk new). h (before clean) clean in
    let held = λ (clean : HasCleanDisk new) (opens : IsTrue new.is_open). hall.settled (before clean)
    (was_open old new (it clean) opens) in
    let same = λ (clean : HasCleanDisk new) (opens : IsTrue new.is_open). rest_same old new (it clean)
    (held clean opens).0 opens in
    record {
      tabled = record {
        unlimited = lasts.limit ∙ hall.unlimited;
        autocommit = λ clean. ends_mode old new (it clean) (hall.autocommit (before clean));
        keyed = λ clean opens. subst (λ (d : Database). AreKeyedIn schema d.trees) (sym (same clean opens).0)
            (hall.keyed (before clean) (was_open old new (it clean) opens));
        settled = λ clean opens. (
          (same clean opens).0 ∙ (held clean opens).0
              ∙ sym (same clean opens).1,
          subst (λ (d : Database). IsLike schema d.schema) (sym (same clean opens).0)
              (held clean opens).1,
        );
      };
      follows = record { lasts = lasts; opened = λ clean opens. was_open old new (it clean) opens };
      same = λ clean opens. (same clean opens).0;
    }

-- and adds no outcome
pub rested : {schema : Schema} (old new : State) → IsTabled schema old → LeadsConnection old new
    → (HasCleanDisk old → HasCleanDisk new → KeptOrRolledBack old new) → AddsNoOutcome old new
    → KeptTablesIn schema old new
rested old new hall lasts h stops = let it = stayed old new hall lasts h in
    record { tabled = it.tabled; follows = it.follows; same = it.same; stops = stops }

-- a query answers rows and changes nothing
module _ (sql : List ℕ) (params : Row) (old new : State) (rows : List Row)
    (plain : IsPlain (understood old.now.schema sql)) (h : Shown sql params old new rows) where
  pub shown_unchanged : IsUnchanged old new
  unfolding Shown
  shown_unchanged =
      let none = (subst IsPlain h.1.is plain).0 in
      let full = timed params h.0.formats h.1.now in
      (subst (ShowsRows old new sql h.0 full rows) none h.2).3

module _ {schema : Schema} (sql : List ℕ) (params : Row) (old new : State) (tree : ℕ) (terms project : List Term)
    (order : List (Term × Key)) (names : List (List ℕ))
    (is : command_of (understood schema sql) ≡ Select (record
    { lets = []; body = plain_query tree terms project order }) names)
    (unlisted : reads_listing schema sql ≡ false) (plain : IsPlain (understood schema sql))
    (apart : overlay old.now.trees [] tree ≡ old.now.trees tree)
    (has : old.now.schema ≡ schema) where
  pub answers_selection : (rows : List Row) → Shown sql params old new rows
      → IsSelection (plain_query tree terms project order) (old.now.trees tree) params rows
  answers_selection rows h =
      let read = reads_as sql params old new schema has _ is plain unlisted rows h in
      let a : IsAnswer (plain_query tree terms project order) (overlay old.now.trees []) params rows = read.answer
      Null in
      subst (λ table. IsSelection (plain_query tree terms project order) table params rows) apart
      (selected tree terms project order (overlay old.now.trees []) params rows a)

pub shown_was_open : (sql : List ℕ) (params : Row) (old new : State) (rows : List Row) → Shown sql params old new rows
    → IsTrue old.is_open
unfolding Shown
shown_was_open sql params old new rows h = at_returning h.0.returning h.2
  where
    at_returning : (o : Option Returning) → ShowsRows old new sql h.0 (timed params h.0.formats h.1.now) rows o
        → IsTrue old.is_open
    at_returning None it = it.3.0.was_open
    at_returning (Some what) it = it.1.shown.was_open

-- a plain query leaves the content as it was
pub query_rests : {schema : Schema} (sql : List ℕ) (params : Row) (old new : State) (rows : List Row)
    → ((found : Schema) → IsLike schema found → IsPlain (understood found sql)) → IsTabled schema old → HasCleanDisk old
    → Shown sql params old new rows → IsUnchanged old new
query_rests sql params old new rows plain hall clean h =
    let opened = shown_was_open sql params old new rows h in
    let has = (hall.settled clean opened).1 in
    shown_unchanged sql params old new rows (plain old.now.schema has) h

released_open : (old new : State) (at : ℕ) → ReleasesAt old new at → IsTrue old.is_open
released_open old new at (inl h) = h.1.0.was_open
released_open old new at (inr h) = h.1.0.was_open

-- a statement that ran outside a transaction found the store open
ran_open : (old new : State) (what : Option Returning) (command : Command) (text : List ℕ) (params : Row) (count : ℕ)
    → old.in_transaction ≡ false → Runs old new what command text params count → IsTrue old.is_open
ran_open old new what (Insert at from) text params count mode h = h.shown.was_open
ran_open old new what (InsertOr at how from clauses) text params count mode h = h.shown.was_open
ran_open old new what (Update at q) text params count mode h = h.shown.was_open
ran_open old new what (Delete at q) text params count mode h = h.shown.was_open
ran_open old new what CreateTable text params count mode h = h.shown.was_open
ran_open old new what (CreateIndex at) text params count mode h = h.shown.was_open
ran_open old new what (DropTable at) text params count mode h = h.shown.was_open
ran_open old new what (DropIndex at) text params count mode h = h.shown.was_open
ran_open old new what CreateView text params count mode h = h.shown.was_open
ran_open old new what (DropView at) text params count mode h = h.shown.was_open
ran_open old new what Begin text params count mode h = h.1.was_open
ran_open old new what Commit text params count mode h = h.1.was_open
ran_open old new what Rollback text params count mode h = absurd (let e : false ≡ true = sym mode ∙ h.0 in cc)
ran_open old new what (Save name) text params count mode h = h.0.0.was_open
ran_open old new what (Release name) text params count mode h = released_open old new h.0 h.2
ran_open old new what (RollbackTo name) text params count mode h = h.2.2.was_open
ran_open old new what (Rows values width names) text params count mode h = h.0.0.was_open
ran_open old new what Nothing text params count mode h = h.0.0.was_open
ran_open old new what (Select q names) text params count mode h = absurd h

pub executed_open : (old new : State) (sql : List ℕ) (params : Row) (count : ℕ) → old.in_transaction ≡ false
    → Executes sql params old new (Ok count) → IsTrue old.is_open
unfolding ExecutesIn
executed_open old new sql params count mode h = elim (cases_Bool (shows_rows false h.0)) [
  | inl shows ↦ absurd (let e = (rw shows at h.2).0 in cc)
  | inr runs ↦ ran_open old new h.0.returning h.0.command _ _ count mode (rw runs at h.2)
]
