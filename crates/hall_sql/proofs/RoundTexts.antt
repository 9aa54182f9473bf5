-- What the statements on rounds mean under the hall's tables.
use Rattle.std.proofs.Common.{refl, [], ◌∷◌}
use Rattle.sqlite_tied.specs.Compute.{everything}
use Rattle.sqlite.specs.Listing.{understood}
use Rattle.hall_sql.specs.declared.rounds.TheConstants.{ALL_ROUNDS}
use Rattle.hall_sql.specs.declared.tables.HallTable.TheVariants.{Rounds}
use Rattle.hall_sql.specs.Versions.{IsVersion}
use Rattle.sqlite.specs.Schema.{Schema}
use Rattle.hall_sql.proofs.Versions.{by_version}
use Rattle.hall_sql.proofs.Queries.{Computes, TableQuery, query}
use Rattle.hall_sql.specs.declared.tables.HallTable.TheVariants.{Rounds}

abbrev pub all_rounds : TableQuery
all_rounds = query Rounds ALL_ROUNDS.now [] [] (1 ∷ [])

pub all_rounds_are : (schema : Schema) → IsVersion schema → Computes all_rounds schema
unfolding understood everything
all_rounds_are =
    by_version (Computes all_rounds)
    (λ u. record { is = refl; unlisted = refl; plain = (refl, refl); whole = refl; typed = refl })
    (λ u. record { is = refl; unlisted = refl; plain = (refl, refl); whole = refl; typed = refl })
