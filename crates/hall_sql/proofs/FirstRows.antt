-- A query with a LIMIT answers the first rows of what it answers without.
use Rattle.std.proofs.Common.{◌≡◌, ℕ, zero, suc, List, [], ◌∷◌, ◌++◌, map, take, false, true, Option, Some}
use Rattle.std.proofs.Common.{option_to_list, length, refl, sym, ap, subst, ◌∙◌}
use Rattle.std.specs.List.{AllByRecursion}
use Rattle.sqlite.specs.Command.TheVariants.{Select}
use Rattle.sqlite.specs.Listing.{understood, reads_listing}
use Rattle.sqlite.specs.Order.{Row}
use Rattle.sqlite.specs.Program.{overlay}
use Rattle.sqlite.specs.Query.{IsAnswer}
use Rattle.sqlite.specs.Schema.{Schema}
use Rattle.sqlite.specs.State.{State, Shown}
use Rattle.sqlite.specs.Term.{Term}
use Rattle.sqlite.specs.Tree.{Trees}
use Rattle.sqlite.specs.declared.types.Value.TheVariants.{Null}
use Rattle.sqlite.proofs.Callers.{IsPlain, command_of, reads_as}
use Rattle.sqlite_schema.specs.declared.command.Command.{Command}
use Rattle.sqlite_typing.specs.Types.{accepts_program}
use Rattle.sqlite_value.specs.declared.keys.Key.{Key}
use Rattle.hall_sql.specs.Asked.{IsAskedIn, IsSafe, is_whole}
use Rattle.hall_sql.specs.Standing.{IsSelection}
use Rattle.hall_sql.specs.Statements.{first_rows, plain_query}
use Rattle.hall_sql.proofs.AskedLemmas.{never_overflows}
use Rattle.hall_sql.proofs.FeedLemmas.{records}
use Rattle.hall_sql.proofs.Selections.{selected}

-- the rows without the LIMIT, of which these are the first
abbrev pub AreFirstOf : ℕ → ℕ → List Term → List Term → List (Term × Key) → List Row → Row → List Row → Type 0
AreFirstOf count tree terms project order table params rows =
    (all : List Row) × IsSelection (plain_query tree terms project order) table params all × (rows ≡ take count all)

module _ (count tree : ℕ) (terms project : List Term) (order : List (Term × Key)) where
  first_selected : (db : Trees) (params : Row) (rows : List Row)
      → IsAnswer (first_rows count (plain_query tree terms project order)) db params rows
      → AreFirstOf count tree terms project order (db tree) params rows
  first_selected db params rows a =
      let all : List Row = map (λ o. o.1) a.ordered in (
        all,
        selected tree terms project order db params all (record {
          staged = a.staged;
          grouped = a.grouped;
          kept = a.kept;
          distinct = a.distinct;
          ordered = a.ordered;
          same = a.same;
          sorted = a.sorted;
          shown = refl;
        }),
        a.shown,
      )

  module _ {schema : Schema} (sql : List ℕ) (params : Row) (names : List (List ℕ))
      (is : command_of (understood schema sql)
      ≡ Select (record { lets = []; body = first_rows count (plain_query tree terms project order) }) names)
      (unlisted : reads_listing schema sql ≡ false) (plain : IsPlain (understood schema sql)) where
    pub first_asked : is_whole sql (length params) (understood schema sql) ≡ true
        → accepts_program schema [] (first_rows count (plain_query tree terms project order)) params ≡ true
        → IsAskedIn sql params schema
    first_asked whole typed = record {
      plain = plain;
      unlisted = unlisted;
      whole = whole;
      safe = subst (λ (k : Command). IsSafe schema k params) (sym is)
          (typed, never_overflows tree terms project order params);
    }

    pub first_shown : (old new : State) (rows : List Row) → overlay old.now.trees [] tree ≡ old.now.trees tree
        → old.now.schema ≡ schema → Shown sql params old new rows
        → AreFirstOf count tree terms project order (old.now.trees tree) params rows
    first_shown old new rows apart has shown =
        let read = reads_as sql params old new schema has _ is plain unlisted rows shown in
        subst (λ table. AreFirstOf count tree terms project order table params rows) apart
        (first_selected (overlay old.now.trees []) params rows (read.answer Null))

-- where each of the first rows is a record, these are the first records
pub first_records : {X : Type 0} (read : Row → Option X) (count : ℕ) (all : List Row) (out : List X)
    → map read (take count all) ≡ map Some out → out ≡ take count (records read all)
first_records read zero all [] is = refl
first_records read zero all (x ∷ out) is = absurd cc
first_records read (suc count) [] [] is = refl
first_records read (suc count) [] (x ∷ out) is = absurd cc
first_records read (suc count) (r ∷ all) [] is = absurd cc
first_records {X} read (suc count) (r ∷ all) (x ∷ out) is =
    let here : read r ≡ Some x = cc in
    let rest : map read (take count all) ≡ map Some out = cc in
    ap (λ (xs : List X). x ∷ xs) (first_records read count all out rest)
    ∙ ap (λ (o : Option X). take (suc count) (option_to_list o ++ records read all)) (sym here)

pub all_first : {X : Type 0} (P : X → Type 0) (count : ℕ) (xs : List X) → AllByRecursion P xs
    → AllByRecursion P (take count xs)
all_first P zero xs all = tt
all_first P (suc count) [] all = tt
all_first P (suc count) (x ∷ xs) all = (all.0, all_first P count xs all.1)
