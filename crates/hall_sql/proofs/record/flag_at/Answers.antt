use Rattle.std.proofs.Common.{arith}
use Rattle.sqlite_value.specs.Order.{column}
use Rattle.hall_store.proofs.Knowing.{fails_as}
use Rattle.hall_sql.proofs.UnreadLemmas.{unread_flag}
use Rattle.hall_sql.proofs.record.flag_at.Goals as goal

pub returns-in_err-code_at-clause-unread : goal.returns-in_err-code_at-clause-unread
returns-in_err-code_at-clause-unread c =
    fails_as c.from_residual.result _ _ c.from_residual.ensures.1
    (λ failed. unread_flag (column c.args.row.now c.args.at) (λ n is.
    let big = c.in_err-code_at.ensures.unread failed n is in omega (arith, big)))
