use Rattle.std.proofs.Common.{arith}
use Rattle.sqlite_value.specs.Order.{column}
use Rattle.hall_store.proofs.Knowing.{fails_as}
use Rattle.hall_sql.proofs.CauseLemmas.{fails_on}
use Rattle.hall_sql.proofs.UnreadLemmas.{none_decided, unread_roles, sum_holds}
use Rattle.hall_sql.proofs.record.roles_at.Goals as goal

pub returns-in_err-number_at-clause-unread : goal.returns-in_err-number_at-clause-unread
returns-in_err-number_at-clause-unread c =
    fails_as c.from_residual.result _ _ c.from_residual.ensures.1
    (λ failed. unread_roles (column c.args.row.now c.args.at) (c.in_err-number_at.ensures.unread failed (omega arith)))

pub returns-clause-unread : goal.returns-clause-unread
returns-clause-unread c =
    fails_on c.new.result c.ok_or.result _ _ c.ok_or.ensures.value (none_decided c.new.result _ c.new.ensures.some)
    (λ other. absurd (other (sum_holds c.get-sum.result c.get-sum.ensures.least c.get-sum.ensures.most)))
