-- What the queries on one round, and on its places, mean under the hall's tables.
use Rattle.std.proofs.Common.{List, ℕ, refl, [], ◌∷◌}
use Rattle.sqlite_tied.specs.Compute.{everything}
use Rattle.sqlite.specs.declared.types.Value.TheVariants.{Text}
use Rattle.sqlite.specs.Listing.{understood}
use Rattle.hall_sql.specs.declared.tables.HallTable.TheVariants.{Places}
use Rattle.hall_sql.specs.Statements.{equals}
use Rattle.hall_sql.specs.declared.rounds.TheConstants.{PLACES_WITH, PLACES_OF, ALL_PLACES}
use Rattle.hall_sql.specs.Versions.{IsVersion}
use Rattle.sqlite.specs.Schema.{Schema}
use Rattle.hall_sql.proofs.Versions.{by_version}
use Rattle.hall_sql.proofs.Wordings.{Wording, hall_in}
use Rattle.hall_sql.proofs.Queries.{Computes, TableQuery, query}
use Rattle.hall_policy.specs.declared.record.PuzzleKey.{PuzzleKey}
use Rattle.hall_sql.specs.declared.tables.HallTable.TheVariants.{Places}

abbrev pub places_with : PuzzleKey → TableQuery
places_with key =
    query Places PLACES_WITH.now (Text key.author ∷ Text key.label ∷ []) (equals 3 0 ∷ equals 4 1 ∷ []) (1 ∷ [])

abbrev pub places_of : List ℕ → TableQuery
places_of id = query Places PLACES_OF.now (Text id ∷ []) (equals 1 0 ∷ []) (2 ∷ [])

abbrev pub all_places : TableQuery
all_places = query Places ALL_PLACES.now [] [] (1 ∷ 2 ∷ [])

pub places_with_is : (key : PuzzleKey) (u : Wording) → Computes (places_with key) (hall_in u)
unfolding understood everything
places_with_is key u = record { is = refl; unlisted = refl; plain = (refl, refl); whole = refl; typed = refl }

pub places_of_is : (id : List ℕ) (u : Wording) → Computes (places_of id) (hall_in u)
unfolding understood everything
places_of_is id u = record { is = refl; unlisted = refl; plain = (refl, refl); whole = refl; typed = refl }

pub all_places_are : (schema : Schema) → IsVersion schema → Computes all_places schema
unfolding understood everything
all_places_are =
    by_version (Computes all_places)
    (λ u. record { is = refl; unlisted = refl; plain = (refl, refl); whole = refl; typed = refl })
    (λ u. record { is = refl; unlisted = refl; plain = (refl, refl); whole = refl; typed = refl })
