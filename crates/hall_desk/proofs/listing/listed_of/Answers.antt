use Rattle.std.proofs.Common.{true}
use Rattle.hall_desk.proofs.listing.listed_of.Goals as goal

pub returns-clause-lines : goal.returns-clause-lines
returns-clause-lines c = λ world (fresh, begun, rows, listing, took).
    (rows, listing, c.in_ok-text.ensures true fresh rows begun took)
