use Rattle.std.proofs.Common.{arith}
use Rattle.hall_store.proofs.Knowing.{fails_as}
use Rattle.hall_sql.proofs.record.verdict_at.Goals as goal

pub returns-in_err-number_at-clause-unread : goal.returns-in_err-number_at-clause-unread
returns-in_err-number_at-clause-unread c =
    fails_as c.from_residual.result _ _ c.from_residual.ensures.1
    (λ failed. c.in_err-number_at.ensures.unread failed (omega arith))
