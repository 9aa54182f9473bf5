-- What the statements on protests mean under the hall's tables.
use Rattle.std.proofs.Common.{◌≡◌, List, ℕ, refl, [], ◌∷◌}
use Rattle.sqlite_tied.specs.Compute.{everything}
use Rattle.sqlite.specs.declared.types.Value.TheVariants.{Null, Text}
use Rattle.sqlite.specs.Term.{Term, col, lit}
use Rattle.sqlite.specs.Listing.{understood}
use Rattle.sqlite.specs.Program.{overlay}
use Rattle.sqlite.specs.Source.TheVariants.{Values}
use Rattle.sqlite.specs.Table.{Table}
use Rattle.sqlite.specs.Tree.{Trees}
use Rattle.sqlite.specs.Command.TheVariants.{Insert, Update}
use Rattle.sqlite.proofs.Callers.{IsPlain, command_of}
use Rattle.hall_sql.specs.Tables.{table_at}
use Rattle.hall_sql.specs.declared.tables.HallTable.TheVariants.{Protests}
use Rattle.hall_sql.specs.Statements.{equals}
use Rattle.hall_sql.specs.declared.protests.TheConstants.{PROTEST, PROTESTS_OF, PROTESTS_IN, ADD_PROTEST, RULE_PROTEST}
use Rattle.hall_sql.specs.declared.protests.TheConstants.{ALL_PROTESTS}
use Rattle.hall_sql.proofs.UpdateLemmas.{update}
use Rattle.hall_sql.specs.Versions.{IsVersion}
use Rattle.sqlite.specs.Schema.{Schema}
use Rattle.hall_sql.proofs.Versions.{by_version}
use Rattle.hall_sql.proofs.Wordings.{Wording, hall_in, table_in}
use Rattle.hall_sql.proofs.Queries.{Computes, TableQuery, query}
use Rattle.hall_policy.specs.declared.record.ProtestKey.{ProtestKey}

-- entrant = ?1 AND round = ?2 AND token = ?3
abbrev pub key_terms : List Term
key_terms = equals 1 0 ∷ equals 2 1 ∷ equals 3 2 ∷ []

abbrev pub protest : ProtestKey → TableQuery
protest key = query Protests PROTEST.now (Text key.entrant ∷ Text key.round ∷ Text key.token ∷ []) key_terms []

-- the order of keys: entrant, round, token
abbrev pub keys : List ℕ
keys = 1 ∷ 2 ∷ 3 ∷ []

abbrev pub protests_of : List ℕ → List ℕ → TableQuery
protests_of entrant round =
    query Protests PROTESTS_OF.now (Text entrant ∷ Text round ∷ []) (equals 2 1 ∷ equals 1 0 ∷ []) keys

abbrev pub protests_in : List ℕ → TableQuery
protests_in round = query Protests PROTESTS_IN.now (Text round ∷ []) (equals 2 0 ∷ []) keys

abbrev pub all_protests : TableQuery
all_protests = query Protests ALL_PROTESTS.now [] [] keys

pub protest_is : (key : ProtestKey) (u : Wording) → Computes (protest key) (hall_in u)
unfolding understood everything
protest_is key u = record { is = refl; unlisted = refl; plain = (refl, refl); whole = refl; typed = refl }

pub protests_of_is : (entrant round : List ℕ) (u : Wording) → Computes (protests_of entrant round) (hall_in u)
unfolding understood everything
protests_of_is entrant round u =
    record { is = refl; unlisted = refl; plain = (refl, refl); whole = refl; typed = refl }

pub protests_in_is : (round : List ℕ) (u : Wording) → Computes (protests_in round) (hall_in u)
unfolding understood everything
protests_in_is round u = record { is = refl; unlisted = refl; plain = (refl, refl); whole = refl; typed = refl }

-- the rowid that is chosen, and each parameter
abbrev pub added_terms : List Term
added_terms = lit Null ∷ col 0 0 ∷ col 0 1 ∷ col 0 2 ∷ col 0 3 ∷ col 0 4 ∷ col 0 5 ∷ col 0 6 ∷ []

pub add_protest_is : (u : Wording) → (command_of (understood (hall_in u) ADD_PROTEST.now) ≡ Insert 5
    (Values added_terms 8))
    × IsPlain (understood (hall_in u) ADD_PROTEST.now)
unfolding understood everything
add_protest_is u = (refl, (refl, refl))

-- as the schema has it
abbrev pub protests_there : Table
protests_there = table_at Protests

-- the rowid and the columns that stay, and the parameters of the ruling
abbrev pub ruled_terms : List Term
ruled_terms = col 1 0 ∷ col 1 1 ∷ col 1 2 ∷ col 1 3 ∷ col 1 4 ∷ col 1 5 ∷ col 0 3 ∷ col 0 4 ∷ []

pub apart : (db : Trees) → overlay db [] protests_there.tree ≡ db protests_there.tree
apart db = refl

pub rule_protest_is : (u : Wording) → (command_of (understood (hall_in u) RULE_PROTEST.now)
    ≡ Update 5 (update (hall_in u) (table_in u Protests) key_terms ruled_terms apart))
    × IsPlain (understood (hall_in u) RULE_PROTEST.now)
unfolding understood everything
rule_protest_is u = (refl, (refl, refl))

pub all_protests_are : (schema : Schema) → IsVersion schema → Computes all_protests schema
unfolding understood everything
all_protests_are =
    by_version (Computes all_protests)
    (λ u. record { is = refl; unlisted = refl; plain = (refl, refl); whole = refl; typed = refl })
    (λ u. record { is = refl; unlisted = refl; plain = (refl, refl); whole = refl; typed = refl })
