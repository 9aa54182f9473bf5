-- A CREATE TABLE of the hall's, on the schema that awaits it, fails for the store's causes alone.
use Rattle.std.proofs.Common.{◌≡◌, ◌≢◌, inl, inr, ℕ, ◌+◌, ◌*◌, ◌^◌, ◌≤◌, ◌<◌, nat_lt, List, [], ◌∷◌, length, codes}
use Rattle.std.proofs.Common.{Bool, true, false, not, Option, Some, None, Ok, Err, IsUtf8, refl, sym, ap, subst, ◌∙◌}
use Rattle.std.proofs.Common.{arith}
use Rattle.std.proofs.lemmas.Bool.{and_parts, ltb-true}
use Rattle.std.proofs.lemmas.Str.{IsUtf8-from_is_utf8}
use Rattle.std.specs.Char.{encode_utf8}
use Rattle.std.specs.Fmt.{digits}
use Rattle.std.specs.List.{list_all}
use Rattle.std.specs.Str.{chars, is_utf8}
use Rattle.sqlite_tied.specs.Compute.{everything}
use Rattle.sqlite_catalog.specs.declared.error.Refusal.{Refusal}
use Rattle.sqlite_catalog.specs.declared.error.Refusal.TheVariants.{Invalid, NameTaken, BadName, TooBig, BadKey}
use Rattle.sqlite_catalog.specs.declared.error.Refusal.TheVariants.{BadText, Violates}
use Rattle.sqlite_catalog.specs.Calls.{RefusesTable}
use Rattle.sqlite_catalog.specs.Change.{is_used, is_reserved, automatics}
use Rattle.sqlite_catalog.specs.Listing.{is_fit, is_formed}
use Rattle.sqlite_resolve.specs.declared.compiled.Compiled.{Compiled}
use Rattle.sqlite_rules.specs.Lists.{Has}
use Rattle.sqlite_schema.specs.declared.command.Command.{Command}
use Rattle.sqlite_schema.specs.declared.command.Command.TheVariants.{CreateTable}
use Rattle.sqlite_schema.specs.declared.schema.Index.{Index}
use Rattle.sqlite_schema.specs.Names.{same_name}
use Rattle.sqlite_schema.specs.Rules.{table_reals, index_reals}
use Rattle.sqlite_trees.specs.Sound as sound
use Rattle.sqlite_value.specs.Order.{value_cmp}
use Rattle.sqlite.specs.declared.error.ErrorCode.TheVariants as code
use Rattle.sqlite.specs.declared.error.Error.{Error}
use Rattle.sqlite.specs.declared.error.Error.TheVariants.{SqliteFailure}
use Rattle.sqlite.specs.declared.run.Mode.{Mode}
use Rattle.sqlite.specs.declared.types.Value.TheVariants.{Text}
use Rattle.sqlite.specs.Change.{created, next_tree}
use Rattle.sqlite.specs.Compile.{table_defined_by}
use Rattle.sqlite.specs.Does.{Does, MakesTable, lacks_sequence}
use Rattle.sqlite.specs.Effect.{Database}
use Rattle.sqlite.specs.Listing.{understood}
use Rattle.sqlite.specs.Schema.{Schema}
use Rattle.sqlite.specs.State.{State, IsMisplaced, Escapes, EndsScope, ExecutesIn, ExecutesInside, RunsCommand, mode_of}
use Rattle.sqlite.specs.State.{shows_rows, text_of}
use Rattle.sqlite.specs.Table.{Table}
use Rattle.sqlite.proofs.Callers.{IsPlain, command_of, statement_of}
use Rattle.hall_sql.specs.declared.tables.HallTable.{HallTable}
use Rattle.hall_sql.specs.declared.tables.HallTable.TheVariants.{People, Puzzles, Rounds, Places, Answers, Protests}
use Rattle.hall_sql.specs.declared.tables.HallTable.TheVariants.{Testers}
use Rattle.hall_sql.specs.Asked.{is_whole}
use Rattle.hall_sql.specs.Cause.{IsStoreCause}
use Rattle.hall_sql.specs.Made.{table_text, schema_before}
use Rattle.hall_sql.specs.Tables.{shape_of}
use Rattle.hall_sql.proofs.AskedLemmas.{not_run, store_cause}
use Rattle.hall_sql.proofs.MakeLemmas.{same_table}
use Rattle.hall_sql.proofs.TableTexts.{table_is, making_is}

-- ---- nothing speaks against one of the hall's tables

record IsMakeable (schema : Schema) (text : List ℕ) (shape : Table) : Type 0 where
  plain : is_utf8 text ≡ true
  named : is_utf8 shape.name ≡ true
  short : nat_lt (2 * length shape.name + length text + 200) (10 ^ 9) ≡ true
  free : is_used schema shape.name ≡ false
  autos : list_all (λ (index : Index). not (is_used schema index.name)) (automatics shape 0 0 shape.uniques) ≡ true
  few : nat_lt (next_tree schema + length shape.uniques) 65536 ≡ true
  narrow : nat_lt (table_reals shape) (2 ^ 64) ≡ true
  keys : list_all (λ key. nat_lt (index_reals (table_reals shape) key) (2 ^ 64)) shape.uniques ≡ true
  unreserved : is_reserved shape.name ≡ false
  formed : is_formed shape ≡ true
  fit : is_fit (Text (codes "table")) (Text shape.name) (Text shape.name) (Text text) ≡ true
  unsequenced : lacks_sequence (created schema shape) ≡ false

all_so : {schema : Schema} {text : List ℕ} {shape : Table} → is_utf8 text ≡ true
    → is_utf8 shape.name ≡ true
    → nat_lt (2 * length shape.name + length text + 200) (10 ^ 9) ≡ true
    → is_used schema shape.name ≡ false
    → (list_all (λ (index : Index). not (is_used schema index.name)) (automatics shape 0 0 shape.uniques) ≡ true)
    → nat_lt (next_tree schema + length shape.uniques) 65536 ≡ true
    → nat_lt (table_reals shape) (2 ^ 64) ≡ true
    → (list_all (λ key. nat_lt (index_reals (table_reals shape) key) (2 ^ 64)) shape.uniques ≡ true)
    → is_reserved shape.name ≡ false
    → is_formed shape ≡ true
    → is_fit (Text (codes "table")) (Text shape.name) (Text shape.name) (Text text) ≡ true
    → lacks_sequence (created schema shape) ≡ false
    → IsMakeable schema text shape
all_so plain named short free autos few narrow keys unreserved formed fit unsequenced =
    record {
      plain = plain;
      named = named;
      short = short;
      free = free;
      autos = autos;
      few = few;
      narrow = narrow;
      keys = keys;
      unreserved = unreserved;
      formed = formed;
      fit = fit;
      unsequenced = unsequenced;
    }

makeable : (table : HallTable) → IsMakeable (schema_before table) (table_text table) (shape_of table)
unfolding is_utf8 chars encode_utf8 digits same_name value_cmp lib.Ieee.is_nan lib.Ieee.lt sound.fits_kind sound.begins
    sound.same_name sound.is_free_name
makeable People = all_so refl refl refl refl refl refl refl refl refl refl refl refl
makeable Puzzles = all_so refl refl refl refl refl refl refl refl refl refl refl refl
makeable Rounds = all_so refl refl refl refl refl refl refl refl refl refl refl refl
makeable Places = all_so refl refl refl refl refl refl refl refl refl refl refl refl
makeable Answers = all_so refl refl refl refl refl refl refl refl refl refl refl refl
makeable Protests = all_so refl refl refl refl refl refl refl refl refl refl refl refl
makeable Testers = all_so refl refl refl refl refl refl refl refl refl refl refl refl

making_whole : (table : HallTable) → is_whole (table_text table) 0 (understood (schema_before table) (table_text table))
    ≡ true
unfolding understood everything
making_whole People = refl
making_whole Puzzles = refl
making_whole Rounds = refl
making_whole Places = refl
making_whole Answers = refl
making_whole Protests = refl
making_whole Testers = refl

never_both : (b : Bool) → not b ≡ true → b ≡ true → ⊥
never_both b denied holds = let both : not true ≡ true = subst (λ a. not a ≡ true) holds denied in absurd cc

each_so : {X : Type 0} (test : X → Bool) (xs : List X) (x : X) → list_all test xs ≡ true → Has xs x → test x ≡ true
each_so test [] x all has = absurd has
each_so test (y ∷ ys) x all (inl is) = subst (λ z. test z ≡ true) (sym is) (and_parts _ _ all).0
each_so test (y ∷ ys) x all (inr later) = each_so test ys x (and_parts _ _ all).1 later

module _ (table : HallTable) where
  abbrev schema : Schema
  schema = schema_before table

  abbrev text : List ℕ
  text = table_text table

  abbrev shape : Table
  shape = shape_of table

  so : IsMakeable schema text shape
  so = makeable table

  is_shape : (t : Table) → table_defined_by text ≡ Ok t → t ≡ shape
  is_shape t defined = same_table text t shape defined (table_is table)

  never_refused : (reason : Refusal) → ¬ (RefusesTable schema text reason)
  never_refused (Invalid e) h = let no : Err e ≡ Ok shape = sym h ∙ table_is table in absurd cc
  never_refused NameTaken (t, defined, taken) =
      let is = is_shape t defined in
      elim taken [
        | inl used ↦ let both : false ≡ true = sym so.free ∙ subst (λ (s : Table). is_used schema s.name ≡ true) is
            used in cc
        | inr one ↦
            let has = subst (λ (s : Table). Has (automatics s 0 0 s.uniques) one.0) is one.1 in
            never_both _ (each_so (λ (index : Index). not (is_used schema index.name))
            (automatics shape 0 0 shape.uniques) one.0 so.autos has) one.2
      ]
  never_refused BadName (t, defined, bad) =
      let is = is_shape t defined in
      elim bad [
        | inl strange ↦ strange (subst (λ (s : Table). IsUtf8 s.name) (sym is)
            (IsUtf8-from_is_utf8 shape.name so.named))
        | inr own ↦ let both : false ≡ true = sym so.unreserved ∙ subst (λ (s : Table). is_reserved s.name ≡ true) is
            own.0 in cc
      ]
  never_refused TooBig (t, defined, big) =
      let is = is_shape t defined in
      elim big [
        | inl many ↦
            let low : next_tree schema + length shape.uniques < 65536 = ltb-true _ _ so.few in
            let high = subst (λ (s : Table). 65536 ≤ next_tree schema + length s.uniques) is many in omega
            (arith, low, high)
        | inr wide ↦ elim wide [
          | inl columns ↦
              let low : table_reals shape < 2 ^ 64 = ltb-true _ _ so.narrow in
              let high = subst (λ (s : Table). 2 ^ 64 ≤ table_reals s) is columns in omega (arith, low, high)
          | inr one ↦
              let has = subst (λ (s : Table). Has s.uniques one.0) is one.1 in
              let low : index_reals (table_reals shape) one.0 < 2 ^ 64 =
              ltb-true _ _ (each_so (λ key. nat_lt (index_reals (table_reals shape) key) (2 ^ 64)) shape.uniques one.0
              so.keys has) in
              let high = subst (λ (s : Table). 2 ^ 64 ≤ index_reals (table_reals s) one.0) is one.2 in omega
              (arith, low, high)
        ]
      ]
  never_refused BadKey (t, defined, loose) =
      let no : false ≡ true = sym (subst (λ (s : Table). is_formed s ≡ false) (is_shape t defined) loose)
      ∙ so.formed in cc
  never_refused BadText (t, defined, unfit) =
      let no : false ≡ true =
      sym (subst (λ (s : Table). is_fit (Text (codes "table")) (Text s.name) (Text s.name) (Text text) ≡ false)
      (is_shape t defined) unfit) ∙ so.fit in
      cc
  never_refused (Violates rule) h = h

  never_makes : (db : Database) → db.schema ≡ schema → (stop : Option Error) → ¬ (MakesTable text db (Err stop))
  never_makes db has None (t, defined, long) =
      let low : 2 * length shape.name + length text + 200 < 10 ^ 9 = ltb-true _ _ so.short in
      let high = subst (λ (s : Table). 10 ^ 9 ≤ 2 * length s.name + length text + 200) (is_shape t defined) long in
      omega (arith, low, high)
  never_makes db has (Some e) (inl strange) = strange.0 (IsUtf8-from_is_utf8 text so.plain)
  never_makes db has (Some e) (inr refused) = never_refused refused.0
      (subst (λ s. RefusesTable s text refused.0) has refused.1)

  never_does : (limit : Option ℕ) (mode : Mode) (db : Database) → db.schema ≡ schema → (stop : Option Error)
      → ¬ (Does limit mode [] db text None CreateTable (Err stop))
  never_does limit mode db has stop (inl first) = elim first.1 [
    | inl made ↦ never_makes db has made.0 made.1
    | inr more ↦
        let is : more.0.schema ≡ created schema shape =
        more.1.is ∙ ap (λ t. created db.schema t) (is_shape more.1.table more.1.defined)
        ∙ ap (λ s. created s shape) has in
        let none : lacks_sequence more.0.schema ≡ false = ap lacks_sequence is ∙ so.unsequenced in
        let no = rw none at more.2 in cc
  ]
  never_does limit mode db has stop (inr later) = let no = later.2 in cc

  -- ---- nor against its statement

  placed : (s : State) (command : Command) (e : Error) → command ≡ CreateTable → ¬ (IsMisplaced s command e)
  placed s command e is (inl h) = elim h.1 [
    | inl begins ↦ let no = sym is ∙ begins.0 in cc
    | inr ends ↦ elim ends.0 [ inl commit ↦ let no = sym is ∙ commit in cc | inr back ↦ let no = sym is ∙ back in cc ]
  ]
  placed s command e is (inr h) = elim h.2 [
    | inl release ↦ let no = sym is ∙ release in cc
    | inr back ↦ let no = sym is
        ∙ back in cc
  ]

  stays : (s : State) (command : Command) → command ≡ CreateTable → ¬ (Escapes 0 s command)
  stays s command is (inl ends) = elim ends [
    | inl commit ↦ let no = sym is ∙ commit in cc
    | inr back ↦ let no = sym is
        ∙ back in cc
  ]
  stays s command is (inr h) = elim h.1 [
    | inl release ↦ let no = sym is ∙ release in cc
    | inr back ↦ let no = sym is
        ∙ back in cc
  ]

  shows_none : (c : Compiled) → c.command ≡ CreateTable → c.returning ≡ None → shows_rows false c ≡ false
  shows_none c is none = rw (is, none) refl

  module _ (old new : State) (e : Error) (other : e ≢ SqliteFailure code.OutOfMemory) (has : old.now.schema ≡ schema)
    where
      command_cause : (c : Compiled) → c.command ≡ CreateTable → c.returning ≡ None → text_of text c ≡ text
          → RunsCommand old new text c [] (Err e) → IsStoreCause old new
      command_cause c is none same (inl h) = absurd (elim h.0 [
        | inl misplaced ↦ placed old c.command e is misplaced
        | inr refused ↦ never_does old.step_limit (mode_of old) old.now has (Some e) (rw (same, none, is) at refused.1)
      ])
      command_cause c is none same (inr h) = elim (store_cause old new _ e other h.0 h.1 h.2) [
        | inl cause ↦ cause
        | inr large ↦ absurd (never_does old.step_limit (mode_of old) old.now has None (rw (same, none, is) at large))
      ]

      pub making_cause : ExecutesInside 0 text [] old new (Err e) → IsStoreCause old new
      unfolding ExecutesIn EndsScope
      making_cause (inl ran) = elim ran.0 [
        | inl unrun ↦ not_run schema text [] old new e (making_is table).2 (making_whole table) other has unrun
        | inr it ↦
            let known : understood schema text ≡ Ok it.0 = sym (ap (λ s. understood s text) has) ∙ it.1.is in
            let bare = subst IsPlain {x = understood schema text} known (making_is table).2 in
            let is : it.0.command ≡ CreateTable = ap command_of (sym known) ∙ (making_is table).0 in
            let same : text_of text it.0 ≡ text = ap (statement_of text) (sym known) ∙ (making_is table).1 in
            let runs : RunsCommand old new text it.0 [] (Err e) = rw (shows_none it.0 is bare.0, bare.1) at it.2 in
            command_cause it.0 is bare.0 same runs
      ]
      making_cause (inr ends) =
          let known : understood schema text ≡ Ok ends.0.0 = sym (ap (λ s. understood s text) has) ∙ ends.0.1.is in
          absurd (stays old ends.0.0.command (ap command_of (sym known) ∙ (making_is table).0) ends.0.2)
