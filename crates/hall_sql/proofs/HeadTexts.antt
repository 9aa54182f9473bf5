-- What the statements on the heads of rounds mean under the hall's tables.
use Rattle.std.proofs.Common.{◌≡◌, List, ℕ, codes, refl, false, [], ◌∷◌}
use Rattle.sqlite_tied.specs.Compute.{everything}
use Rattle.sqlite.specs.Term.{Term, lit, col}
use Rattle.sqlite.specs.declared.types.Value.TheVariants.{Null, Text}
use Rattle.sqlite.specs.Source.TheVariants.{Values}
use Rattle.sqlite.specs.Table.{Table}
use Rattle.sqlite.specs.Tree.{Trees}
use Rattle.sqlite.specs.Program.{overlay}
use Rattle.sqlite.specs.Listing.{understood, reads_listing}
use Rattle.sqlite.specs.Command.TheVariants.{Select, Insert, Update}
use Rattle.sqlite.proofs.Callers.{IsPlain, command_of}
use Rattle.hall_sql.specs.Tables.{table_at}
use Rattle.hall_sql.specs.declared.tables.HallTable.TheVariants.{Rounds}
use Rattle.hall_sql.specs.Statements.{equals, plain_query}
use Rattle.hall_sql.specs.declared.rounds.TheConstants.{HEAD}
use Rattle.hall_sql.specs.declared.round_writes.TheConstants.{LOOK_HEAD, ADD_HEAD, REPLACE_HEAD}
use Rattle.hall_sql.proofs.UpdateLemmas.{update}
use Rattle.hall_sql.proofs.Wordings.{Wording, hall_in, table_in}
use Rattle.hall_sql.proofs.Queries.{Computes, TableQuery, query}

-- id = ?1
abbrev pub id_terms : List Term
id_terms = equals 1 0 ∷ []

-- as the schema has it
abbrev pub rounds_there : Table
rounds_there = table_at Rounds

abbrev pub head : List ℕ → TableQuery
head id = query Rounds HEAD.now (Text id ∷ []) id_terms []

pub head_is : (id : List ℕ) (u : Wording) → Computes (head id) (hall_in u)
unfolding understood everything
head_is id u = record { is = refl; unlisted = refl; plain = (refl, refl); whole = refl; typed = refl }

pub look_head_is : (u : Wording) → (command_of (understood (hall_in u) LOOK_HEAD.now)
    ≡ Select (record { lets = []; body = plain_query 5 id_terms (col 1 1 ∷ []) [] }) (codes "id" ∷ []))
    × (reads_listing (hall_in u) LOOK_HEAD.now ≡ false) × IsPlain (understood (hall_in u) LOOK_HEAD.now)
unfolding understood everything
look_head_is u = (refl, refl, (refl, refl))

-- the rowid that is chosen, and each parameter
abbrev pub added_terms : List Term
added_terms =
    lit Null ∷ col 0 0 ∷ col 0 1 ∷ col 0 2 ∷ col 0 3 ∷ col 0 4 ∷ col 0 5 ∷ col 0 6 ∷ col 0 7 ∷ col 0 8 ∷ col 0 9 ∷ []

pub add_head_is : (u : Wording) → (command_of (understood (hall_in u) ADD_HEAD.now) ≡ Insert 2 (Values added_terms 11))
    × IsPlain (understood (hall_in u) ADD_HEAD.now)
unfolding understood everything
add_head_is u = (refl, (refl, refl))

-- the rowid and the id that stay, and the parameters of the others
abbrev pub replaced_terms : List Term
replaced_terms =
    col 1 0 ∷ col 1 1 ∷ col 0 1 ∷ col 0 2 ∷ col 0 3 ∷ col 0 4 ∷ col 0 5 ∷ col 0 6 ∷ col 0 7 ∷ col 0 8 ∷ col 0 9 ∷ []

pub apart : (db : Trees) → overlay db [] rounds_there.tree ≡ db rounds_there.tree
apart db = refl

pub replace_head_is : (u : Wording) → (command_of (understood (hall_in u) REPLACE_HEAD.now)
    ≡ Update 2 (update (hall_in u) (table_in u Rounds) id_terms replaced_terms apart))
    × IsPlain (understood (hall_in u) REPLACE_HEAD.now)
unfolding understood everything
replace_head_is u = (refl, (refl, refl))
