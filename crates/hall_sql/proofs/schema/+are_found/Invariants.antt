use Rattle.std.proofs.Common.{length}
use Rattle.hall_sql.proofs.schema.+are_found.Given as goal

abbrev pub decreases-are_found : goal.decreases-are_found
decreases-are_found l = length l.forms.now
