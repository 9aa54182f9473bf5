-- What the statements on the puzzles of rounds mean under the hall's tables.
use Rattle.std.proofs.Common.{◌≡◌, inl, inr, List, true, [], ◌∷◌, refl}
use Rattle.sqlite_tied.specs.Compute.{everything}
use Rattle.sqlite.specs.Order.{Row}
use Rattle.sqlite.specs.Term.{Term, lit, col}
use Rattle.sqlite.specs.declared.types.Value.TheVariants.{Null}
use Rattle.sqlite.specs.Source.TheVariants.{Values}
use Rattle.sqlite.specs.Table.{Table}
use Rattle.sqlite.specs.Tree.{Trees}
use Rattle.sqlite.specs.Program.{overlay}
use Rattle.sqlite.specs.Listing.{understood}
use Rattle.sqlite.specs.Command.TheVariants.{Delete, Insert}
use Rattle.sqlite.proofs.Callers.{IsPlain, command_of}
use Rattle.sqlite_value.specs.Keys.{joined}
use Rattle.sqlite_schema.specs.Names.{same_name}
use Rattle.sqlite_schema.specs.declared.schema.Keys.TheVariants.{Enforced}
use Rattle.sqlite_schema.specs.Rules.{parent_key}
use Rattle.sqlite_rules.specs.Action.{deed_for, works}
use Rattle.hall_sql.specs.Tables.{table_at}
use Rattle.hall_sql.specs.declared.tables.HallTable.TheVariants.{Places}
use Rattle.hall_sql.specs.declared.round_writes.TheConstants.{DROP_PLACES, ADD_PLACE}
use Rattle.hall_sql.specs.Statements.{equals}
use Rattle.hall_sql.proofs.RestrictLemmas.{OnlyRefuses, Restricts, refusing_works}
use Rattle.hall_sql.proofs.DeleteLemmas.{deletion}
use Rattle.hall_sql.proofs.Wordings.{Wording, all_in, hall_in, table_in}

abbrev pub places_there : Table
places_there = table_at Places

pub places_apart : (db : Trees) → overlay db [] places_there.tree ≡ db places_there.tree
places_apart db = refl

-- answers and protests refer to places by RESTRICT, and nothing else does
pub places_restricted : (u : Wording) (olds : List Row) → Restricts (works (hall_in u) Enforced 0 7 olds [])
unfolding same_name joined
places_restricted u olds =
    refusing_works (hall_in u) Enforced 0 7 olds [] (all_in u
    (λ ref. OnlyRefuses 7 (deed_for Enforced true ref) (parent_key (hall_in u).tables ref)) (
      tt,
      (
        (λ a. inl refl, tt),
        (
          tt,
          (
            (λ a. inl refl, (λ a. inl refl, tt)),
            (
              (λ a. inl refl, (λ a. inr refl, tt)),
              (
                (λ a. inl refl, (λ a. inr refl, tt)),
                ((λ a. inl refl, (λ a. inl refl, tt)), tt),
              ),
            ),
          ),
        ),
      ),
    ))

pub drop_places_is : (u : Wording) → (command_of (understood (hall_in u) DROP_PLACES.now)
    ≡ Delete 3 (deletion (hall_in u) (table_in u Places) (equals 1 0 ∷ []) places_apart (places_restricted u)))
    × IsPlain (understood (hall_in u) DROP_PLACES.now)
unfolding understood everything
drop_places_is u = (refl, (refl, refl))

-- the rowid that is chosen, and each parameter
abbrev pub added_terms : List Term
added_terms = lit Null ∷ col 0 0 ∷ col 0 1 ∷ col 0 2 ∷ col 0 3 ∷ col 0 4 ∷ []

pub add_place_is : (u : Wording) → (command_of (understood (hall_in u) ADD_PLACE.now) ≡ Insert 3 (Values added_terms 6))
    × IsPlain (understood (hall_in u) ADD_PLACE.now)
unfolding understood everything
add_place_is u = (refl, (refl, refl))
