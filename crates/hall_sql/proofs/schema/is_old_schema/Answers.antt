use Rattle.std.proofs.Common.{rules}
use Rattle.std.specs.Fmt.{digits}
use Rattle.hall_sql.proofs.SchemaLemmas.{old_is, indexes_of_old}
use Rattle.hall_sql.proofs.schema.is_old_schema.Goals as goal

pub returns-then-are_indexes-clause-is : goal.returns-then-are_indexes-clause-is
unfolding digits
returns-then-are_indexes-clause-is g c = search (rules, old_is)

pub returns-else-are_indexes-clause-only : goal.returns-else-are_indexes-clause-only
unfolding digits
returns-else-are_indexes-clause-only c = search (rules, indexes_of_old)
