use Rattle.hall_score.proofs.RightTotals.{totals_are_right, totals_keep_no_order}
use Rattle.hall_score.proofs.OneTotal.{totals_are_one}
use Rattle.hall_score.proofs.laws.law_totals.Goals as goal

pub returns-clause-right : goal.returns-clause-right
returns-clause-right c = totals_are_right

pub returns-clause-one : goal.returns-clause-one
returns-clause-one c = totals_are_one

pub returns-clause-order : goal.returns-clause-order
returns-clause-order c = totals_keep_no_order
