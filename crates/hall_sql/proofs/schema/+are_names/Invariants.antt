use Rattle.std.proofs.Common.{length}
use Rattle.hall_sql.proofs.schema.+are_names.Given as goal

abbrev pub decreases-are_names : goal.decreases-are_names
decreases-are_names l = length l.found.now
