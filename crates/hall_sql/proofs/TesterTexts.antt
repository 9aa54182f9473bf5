-- What the statements on the testers of rounds mean under the hall's tables.
use Rattle.std.proofs.Common.{◌≡◌, inl, List, ℕ, true, [], ◌∷◌, refl}
use Rattle.sqlite_tied.specs.Compute.{everything}
use Rattle.sqlite.specs.Order.{Row}
use Rattle.sqlite.specs.Term.{Term, lit, col}
use Rattle.sqlite.specs.declared.types.Value.TheVariants.{Null, Text}
use Rattle.sqlite.specs.Source.TheVariants.{Values}
use Rattle.sqlite.specs.Table.{Table}
use Rattle.sqlite.specs.Schema.{Schema}
use Rattle.sqlite.specs.Tree.{Trees}
use Rattle.sqlite.specs.Program.{overlay}
use Rattle.sqlite.specs.Listing.{understood}
use Rattle.sqlite.specs.Command.TheVariants.{Delete, Insert}
use Rattle.sqlite.proofs.Callers.{IsPlain, command_of}
use Rattle.sqlite_value.specs.Keys.{joined}
use Rattle.sqlite_schema.specs.Names.{same_name}
use Rattle.sqlite_schema.specs.declared.schema.Keys.TheVariants.{Enforced}
use Rattle.sqlite_schema.specs.Rules.{parent_key}
use Rattle.sqlite_rules.specs.Action.{deed_for, works}
use Rattle.hall_sql.specs.Tables.{IsHallSchema, table_at}
use Rattle.hall_sql.specs.declared.tables.HallTable.TheVariants.{Testers}
use Rattle.hall_sql.specs.Statements.{equals}
use Rattle.hall_sql.specs.declared.testers.TheConstants.{ALL_TESTERS, TESTERS_OF, DROP_TESTERS, ADD_TESTER}
use Rattle.hall_sql.proofs.RestrictLemmas.{OnlyRefuses, Restricts, refusing_works}
use Rattle.hall_sql.proofs.DeleteLemmas.{deletion}
use Rattle.hall_sql.proofs.Wordings.{Wording, all_in, by_hall, hall_in, table_in}
use Rattle.hall_sql.proofs.Queries.{Computes, TableQuery, query}

-- as the schema has it
abbrev pub testers_there : Table
testers_there = table_at Testers

abbrev pub testers_of : List ℕ → TableQuery
testers_of id = query Testers TESTERS_OF.now (Text id ∷ []) (equals 1 0 ∷ []) (2 ∷ [])

abbrev pub all_testers : TableQuery
all_testers = query Testers ALL_TESTERS.now [] [] (1 ∷ 2 ∷ [])

pub testers_of_is : (id : List ℕ) (u : Wording) → Computes (testers_of id) (hall_in u)
unfolding understood everything
testers_of_is id u = record { is = refl; unlisted = refl; plain = (refl, refl); whole = refl; typed = refl }

pub all_testers_are : (schema : Schema) → IsHallSchema schema → Computes all_testers schema
unfolding understood everything
all_testers_are =
    by_hall (Computes all_testers)
    (λ u. record { is = refl; unlisted = refl; plain = (refl, refl); whole = refl; typed = refl })

pub testers_apart : (db : Trees) → overlay db [] testers_there.tree ≡ db testers_there.tree
testers_apart db = refl

-- nothing refers to testers
pub testers_restricted : (u : Wording) (olds : List Row) → Restricts (works (hall_in u) Enforced 0 14 olds [])
unfolding same_name joined
testers_restricted u olds =
    refusing_works (hall_in u) Enforced 0 14 olds [] (all_in u
    (λ ref. OnlyRefuses 14 (deed_for Enforced true ref) (parent_key (hall_in u).tables ref)) (
      tt,
      (
        (λ a. inl refl, tt),
        (
          tt,
          (
            (λ a. inl refl, (λ a. inl refl, tt)),
            (
              (λ a. inl refl, (λ a. inl refl, tt)),
              (
                (λ a. inl refl, (λ a. inl refl, tt)),
                ((λ a. inl refl, (λ a. inl refl, tt)), tt),
              ),
            ),
          ),
        ),
      ),
    ))

pub drop_testers_is : (u : Wording) → (command_of (understood (hall_in u) DROP_TESTERS.now)
    ≡ Delete 6 (deletion (hall_in u) (table_in u Testers) (equals 1 0 ∷ []) testers_apart (testers_restricted u)))
    × IsPlain (understood (hall_in u) DROP_TESTERS.now)
unfolding understood everything
drop_testers_is u = (refl, (refl, refl))

-- the rowid that is chosen, and each parameter
abbrev pub added_terms : List Term
added_terms = lit Null ∷ col 0 0 ∷ col 0 1 ∷ []

pub add_tester_is : (u : Wording) → (command_of (understood (hall_in u) ADD_TESTER.now) ≡ Insert 6
    (Values added_terms 3))
    × IsPlain (understood (hall_in u) ADD_TESTER.now)
unfolding understood everything
add_tester_is u = (refl, (refl, refl))
