-- A query of one table, as the hall asks it, fails for the store's causes alone.
use Rattle.std.proofs.Common.{◌≡◌, ◌≢◌, ◌⊎◌, inl, inr, ℕ, List, [], ◌∷◌, length, true, false, append-nil, IsSome}
use Rattle.std.proofs.Common.{Option, None, Ok, Err, refl, sym, ap, subst, ◌∙◌}
use Rattle.std.proofs.lemmas.Bool.{cases_Bool, and_parts, leb-true, eqb-true}
use Rattle.sqlite_trees.specs.declared.error.StoreError.{StoreError}
use Rattle.sqlite_trees.specs.declared.error.StoreError.TheVariants.{OutOfMemory, Io, Corrupt, Full, Broken, Unstorable}
use Rattle.sqlite_value.specs.declared.keys.Key.{Key}
use Rattle.sqlite_sql.specs.Query.{FoldOverflows, inner, end}
use Rattle.sqlite_sql.specs.Program.{ProgramOverflows, overlay}
use Rattle.sqlite_typing.specs.Types.{accepts_program}
use Rattle.sqlite_schema.specs.declared.command.Command.{Command}
use Rattle.sqlite_schema.specs.declared.command.Command.TheVariants.{Select}
use Rattle.sqlite.specs.declared.error.ErrorCode.TheVariants as code
use Rattle.sqlite.specs.declared.error.Error.{Error}
use Rattle.sqlite.specs.declared.error.Error.TheVariants.{SqliteFailure}
use Rattle.sqlite.specs.Order.{Row}
use Rattle.sqlite.specs.Term.{Term, Env}
use Rattle.sqlite.specs.Schema.{Schema}
use Rattle.sqlite.specs.Tree.{Trees}
use Rattle.sqlite.specs.Effect.{Database, RefusesToRead}
use Rattle.sqlite.specs.Listing.{understood, reads_listing, IsSourceOf}
use Rattle.sqlite.specs.State.{State, HasCleanDisk, HasCause, IsNoStatement, IsNotRun, FailsToShow, FailsToQuery}
use Rattle.sqlite.specs.State.{store_error}
use Rattle.sqlite.proofs.Callers.{IsPlain, command_of}
use Rattle.hall_sql.specs.Standing.{IsTabled}
use Rattle.hall_sql.specs.Tables.{IsLike}
use Rattle.hall_sql.specs.Statements.{plain_query}
use Rattle.hall_sql.specs.Asked.{IsAskedIn, IsSafe, is_whole}
use Rattle.hall_sql.specs.Cause.{IsStoreCause}
use Rattle.hall_sql.proofs.LastLemmas.{more_faults}

-- a query of one table sums nothing up
sums_nothing : (db : Trees) (tree : ℕ) (env : Env) → ¬ (FoldOverflows db (inner tree end) env)
sums_nothing db tree env h = h.4

pub never_overflows : (tree : ℕ) (terms project : List Term) (order : List (Term × Key)) (params : Row) (db : Trees)
    → ¬ (ProgramOverflows db params [] [] (plain_query tree terms project order))
never_overflows tree terms project order params db (inl h) = h
never_overflows tree terms project order params db (inr h) = sums_nothing (overlay db []) tree (params ∷ []) h

-- what is computed of a text makes it a query that is asked
pub asked : {schema : Schema} (sql : List ℕ) (params : Row) (tree : ℕ) (terms project : List Term)
    (order : List (Term × Key)) (names : List (List ℕ))
    → command_of (understood schema sql) ≡ Select (record { lets = []; body = plain_query tree terms project order })
    names
    → reads_listing schema sql ≡ false → IsPlain (understood schema sql)
    → is_whole sql (length params) (understood schema sql) ≡ true
    → accepts_program schema [] (plain_query tree terms project order) params ≡ true → IsAskedIn sql params schema
asked {schema} sql params tree terms project order names is unlisted plain whole typed = record {
  plain = plain;
  unlisted = unlisted;
  whole = whole;
  safe = subst (λ (k : Command). IsSafe schema k params) (sym is)
      (typed, never_overflows tree terms project order params);
}

-- an error of the store that is no want of memory
pub store_cause : (old new : State) (TooBig : Type 0) (e : Error) → e ≢ SqliteFailure code.OutOfMemory
    → (cause : StoreError) → e ≡ store_error cause
    → HasCause old new TooBig cause → IsStoreCause old new ⊎ TooBig
store_cause old new TooBig e other OutOfMemory is has = absurd (other is)
store_cause old new TooBig e other Io is has = inl (inl (more_faults old.faults new.faults has))
store_cause old new TooBig e other Corrupt is has = inl (inl (more_faults old.faults new.faults has))
store_cause old new TooBig e other Full is has = inl (inl (more_faults old.faults new.faults has))
store_cause old new TooBig e other Broken is has = inl (inr has)
store_cause old new TooBig e other Unstorable is has = inr has

-- the text is a statement over this schema
is_statement : (schema : Schema) (sql : List ℕ) (params : Row) (s : State) (e : Error) → s.now.schema ≡ schema
    → IsPlain (understood schema sql)
    → is_whole sql (length params) (understood schema sql) ≡ true → ¬ (IsNoStatement s sql params e)
is_statement schema sql params s e has plain whole (inl h) =
    let known : understood schema sql ≡ Err h.0 = sym (ap (λ x. understood x sql) has) ∙ h.1 in
    subst IsPlain known plain
is_statement schema sql params s e has plain whole (inr h) =
    let known : understood schema sql ≡ Ok h.0 = sym (ap (λ x. understood x sql) has) ∙ h.1 in
    let (long, given) = and_parts _ _ (subst (λ r. is_whole sql (length params) r ≡ true) known whole) in
    elim h.2 [
      | inl more ↦ more.0 (leb-true _ _ long)
      | inr other ↦ elim other [
        | inl differs ↦ differs.0 (eqb-true _ _ given)
        | inr timed ↦ timed.0 (subst IsPlain known plain).1
      ]
    ]

-- what is left is the limit on its steps
limited : (schema : Schema) (command : Command) (db : Database) (params : Row) (e : Error) (limit : Option ℕ)
    → db.schema ≡ schema
    → IsSafe schema command params → RefusesToRead limit command db params e → IsSome limit
limited schema (Select q names) db params e limit has safe (inl h) = absurd
    (let no = rw has at h.1 in let yes = safe.0 in cc)
limited schema (Select q names) db params e limit has safe (inr (inl h)) = absurd (safe.1 db.trees h.1)
limited schema (Select q names) db params e limit has safe (inr (inr h)) = h.1
limited schema _ db params e limit has safe h = absurd safe

-- a text that was not run, over this schema
pub not_run : (schema : Schema) (sql : List ℕ) (params : Row) (old new : State) (e : Error)
    → IsPlain (understood schema sql)
    → is_whole sql (length params) (understood schema sql) ≡ true → e ≢ SqliteFailure code.OutOfMemory
    → old.now.schema ≡ schema → IsNotRun old new sql params e → IsStoreCause old new
unfolding IsNotRun
not_run schema sql params old new e plain whole other has (inl h) = absurd
    (is_statement schema sql params old e has plain whole h.0)
not_run schema sql params old new e plain whole other has (inr h) = elim (store_cause old new ⊥ e other h.0 h.1 h.2) [
  | inl cause ↦ cause
  | inr none ↦ absurd none
]

pub open_cause : {schema : Schema} (sql : List ℕ) (params : Row) (old new : State) (e : Error)
    → IsAskedIn sql params schema → old.step_limit ≡ None
    → e ≢ SqliteFailure code.OutOfMemory → old.now.schema ≡ schema → FailsToQuery sql params old new e
    → IsStoreCause old new
unfolding FailsToQuery
open_cause {schema} sql params old new e asks free other has (inl h) = not_run schema sql params old new e asks.plain
    asks.whole other has h
open_cause {schema} sql params old new e asks free other has (inr h) =
    let known : understood schema sql ≡ Ok h.0 = sym (ap (λ x. understood x sql) has) ∙ h.1.is in
    let bare = subst IsPlain {x = understood schema sql} known asks.plain in
    let safe : IsSafe schema h.0.command params = subst (λ r. IsSafe schema (command_of r) params) known asks.safe in
    let it : FailsToShow old new sql h.0 params e None = rw (bare.0, bare.1, append-nil params) at h.2 in
    let db : it.0 ≡ old.now = subst (λ b. IsSourceOf b old.now it.0) (ap (λ s. reads_listing s sql) has ∙ asks.unlisted)
    it.1 in
    let refuses : RefusesToRead old.step_limit h.0.command old.now params e =
    subst (λ (d : Database). RefusesToRead old.step_limit h.0.command d params e) {x = it.0} db it.2 in
    absurd (let no : false ≡ true = subst IsSome free (limited schema h.0.command old.now params e old.step_limit has
    safe refuses) in cc)

pub asked_cause : {schema : Schema} (sql : List ℕ) (params : Row) (old new : State) (e : Error)
    → ((found : Schema) → IsLike schema found → IsAskedIn sql params found) → IsTabled schema old → HasCleanDisk old
    → e ≢ SqliteFailure code.OutOfMemory → FailsToQuery sql params old new e → IsStoreCause old new
asked_cause sql params old new e asks hall clean other fails = elim (cases_Bool old.is_open) [
  | inl opens ↦ open_cause sql params old new e (asks old.now.schema (hall.settled clean opens).1) hall.unlimited other
      refl fails
  | inr shut ↦ inr shut
]
