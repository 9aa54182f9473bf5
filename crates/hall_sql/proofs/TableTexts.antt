-- What the texts that make the tables mean.
use Rattle.std.proofs.Common.{◌≡◌, Ok, refl}
use Rattle.sqlite_tied.specs.Compute.{everything}
use Rattle.sqlite.specs.Compile.{table_defined_by}
use Rattle.sqlite.specs.Listing.{understood}
use Rattle.sqlite.specs.Command.TheVariants.{CreateTable}
use Rattle.sqlite.proofs.Callers.{IsPlain, command_of, statement_of}
use Rattle.hall_sql.specs.declared.tables.HallTable.{HallTable}
use Rattle.hall_sql.specs.declared.tables.HallTable.TheVariants.{People, Puzzles, Rounds, Places, Answers, Protests}
use Rattle.hall_sql.specs.declared.tables.HallTable.TheVariants.{Testers}
use Rattle.hall_sql.specs.Made.{table_text, schema_before}
use Rattle.hall_sql.specs.Tables.{shape_of}

pub table_is : (table : HallTable) → table_defined_by (table_text table) ≡ Ok (shape_of table)
unfolding understood everything
table_is People = refl
table_is Puzzles = refl
table_is Rounds = refl
table_is Places = refl
table_is Answers = refl
table_is Protests = refl
table_is Testers = refl

pub making_is : (table : HallTable) → (command_of (understood (schema_before table) (table_text table)) ≡ CreateTable)
    × (statement_of (table_text table) (understood (schema_before table) (table_text table)) ≡ table_text table)
    × IsPlain (understood (schema_before table) (table_text table))
unfolding understood everything
making_is People = (refl, refl, (refl, refl))
making_is Puzzles = (refl, refl, (refl, refl))
making_is Rounds = (refl, refl, (refl, refl))
making_is Places = (refl, refl, (refl, refl))
making_is Answers = (refl, refl, (refl, refl))
making_is Protests = (refl, refl, (refl, refl))
making_is Testers = (refl, refl, (refl, refl))
