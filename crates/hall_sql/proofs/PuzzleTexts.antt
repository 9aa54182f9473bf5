-- What the statements on puzzles mean under the hall's tables.
use Rattle.std.proofs.Common.{◌≡◌, List, ℕ, codes, refl, false, [], ◌∷◌}
use Rattle.sqlite_tied.specs.Compute.{everything}
use Rattle.sqlite.specs.Term.{Term, lit, col}
use Rattle.sqlite.specs.declared.types.Value.TheVariants.{Null, Text}
use Rattle.sqlite.specs.Source.TheVariants.{Values}
use Rattle.sqlite.specs.Table.{Table}
use Rattle.sqlite.specs.Tree.{Trees}
use Rattle.sqlite.specs.Program.{overlay}
use Rattle.sqlite.specs.Listing.{understood, reads_listing}
use Rattle.sqlite.specs.Command.TheVariants.{Select, Insert, Update}
use Rattle.sqlite.proofs.Callers.{IsPlain, command_of}
use Rattle.hall_sql.specs.Tables.{table_at}
use Rattle.hall_sql.specs.declared.tables.HallTable.TheVariants.{Puzzles}
use Rattle.hall_sql.specs.Statements.{equals, plain_query}
use Rattle.hall_sql.specs.declared.puzzles.TheConstants.{PUZZLE, ALL_PUZZLES, PUZZLES_OF, LOOK_PUZZLE, ADD_PUZZLE}
use Rattle.hall_sql.specs.declared.puzzles.TheConstants.{REPLACE_PUZZLE}
use Rattle.hall_sql.proofs.UpdateLemmas.{update}
use Rattle.hall_sql.specs.Versions.{IsVersion}
use Rattle.sqlite.specs.Schema.{Schema}
use Rattle.hall_sql.proofs.Versions.{by_version}
use Rattle.hall_sql.proofs.Wordings.{Wording, hall_in, table_in}
use Rattle.hall_sql.proofs.Queries.{Computes, TableQuery, query}
use Rattle.hall_policy.specs.declared.record.PuzzleKey.{PuzzleKey}

-- author = ?1 AND label = ?2
abbrev pub key_terms : List Term
key_terms = equals 1 0 ∷ equals 2 1 ∷ []

abbrev pub puzzle : PuzzleKey → TableQuery
puzzle key = query Puzzles PUZZLE.now (Text key.author ∷ Text key.label ∷ []) key_terms []

abbrev pub puzzles_of : List ℕ → TableQuery
puzzles_of author = query Puzzles PUZZLES_OF.now (Text author ∷ []) (equals 1 0 ∷ []) (1 ∷ 2 ∷ [])

abbrev pub all_puzzles : TableQuery
all_puzzles = query Puzzles ALL_PUZZLES.now [] [] (1 ∷ 2 ∷ [])

pub puzzle_is : (key : PuzzleKey) (u : Wording) → Computes (puzzle key) (hall_in u)
unfolding understood everything
puzzle_is key u = record { is = refl; unlisted = refl; plain = (refl, refl); whole = refl; typed = refl }

pub puzzles_of_is : (author : List ℕ) (u : Wording) → Computes (puzzles_of author) (hall_in u)
unfolding understood everything
puzzles_of_is author u = record { is = refl; unlisted = refl; plain = (refl, refl); whole = refl; typed = refl }

pub all_puzzles_are : (schema : Schema) → IsVersion schema → Computes all_puzzles schema
unfolding understood everything
all_puzzles_are =
    by_version (Computes all_puzzles)
    (λ u. record { is = refl; unlisted = refl; plain = (refl, refl); whole = refl; typed = refl })
    (λ u. record { is = refl; unlisted = refl; plain = (refl, refl); whole = refl; typed = refl })

-- as the schema has it
abbrev pub puzzles_there : Table
puzzles_there = table_at Puzzles

pub look_puzzle_is : (u : Wording) → (command_of (understood (hall_in u) LOOK_PUZZLE.now)
    ≡ Select (record { lets = []; body = plain_query 3 key_terms (col 1 1 ∷ []) [] }) (codes "author" ∷ []))
    × (reads_listing (hall_in u) LOOK_PUZZLE.now ≡ false) × IsPlain (understood (hall_in u) LOOK_PUZZLE.now)
unfolding understood everything
look_puzzle_is u = (refl, refl, (refl, refl))

-- the rowid that is chosen, and each parameter
abbrev pub added_terms : List Term
added_terms = lit Null ∷ col 0 0 ∷ col 0 1 ∷ col 0 2 ∷ col 0 3 ∷ col 0 4 ∷ []

pub add_puzzle_is : (u : Wording) → (command_of (understood (hall_in u) ADD_PUZZLE.now) ≡ Insert 1
    (Values added_terms 6))
    × IsPlain (understood (hall_in u) ADD_PUZZLE.now)
unfolding understood everything
add_puzzle_is u = (refl, (refl, refl))

-- the rowid and the key that stay, and the parameters of the others
abbrev pub replaced_terms : List Term
replaced_terms = col 1 0 ∷ col 1 1 ∷ col 1 2 ∷ col 0 2 ∷ col 0 3 ∷ col 0 4 ∷ []

pub apart : (db : Trees) → overlay db [] puzzles_there.tree ≡ db puzzles_there.tree
apart db = refl

pub replace_puzzle_is : (u : Wording) → (command_of (understood (hall_in u) REPLACE_PUZZLE.now)
    ≡ Update 1 (update (hall_in u) (table_in u Puzzles) key_terms replaced_terms apart))
    × IsPlain (understood (hall_in u) REPLACE_PUZZLE.now)
unfolding understood everything
replace_puzzle_is u = (refl, (refl, refl))
