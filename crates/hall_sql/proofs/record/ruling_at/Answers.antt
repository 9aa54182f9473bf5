use Rattle.std.proofs.Common.{◌≢◌, ◌∙◌, rules}
use Rattle.sqlite_value.specs.Order.{column}
use Rattle.hall_store.proofs.Knowing.{fails_as}
use Rattle.hall_sql.proofs.CauseLemmas.{fails_on, none_told}
use Rattle.hall_sql.proofs.UnreadLemmas.{unread_ruling_code, unread_ruling_points, ruling_is, other_ruling}
use Rattle.hall_sql.proofs.record.ruling_at.Goals as goal

pub returns-in_err-code-clause-unread : goal.returns-in_err-code-clause-unread
returns-in_err-code-clause-unread c =
    fails_as c.from_residual.result _ _ c.from_residual.ensures.1
    (λ failed. unread_ruling_code (column c.args.row.now c.args.code_at_place)
    (column c.args.row.now c.args.points_at_place) (c.in_err-code.ensures.unread failed))

pub returns-in_err-points-clause-unread : goal.returns-in_err-points-clause-unread
returns-in_err-points-clause-unread c =
    fails_as c.from_residual-in_err-points.result _ _ c.from_residual-in_err-points.ensures.1
    (λ failed. unread_ruling_points (column c.args.row.now c.args.code_at_place)
    (column c.args.row.now c.args.points_at_place) (c.in_err-points.ensures.unread failed))

pub returns-clause-unread : goal.returns-clause-unread
returns-clause-unread c =
    fails_on c.unpointed.result c.ok_or.result _ _ c.ok_or.ensures.value
    (none_told c.unpointed.result _ c.unpointed.ensures) (λ none.
    let other : c.in_ok-code.code ≢ 1 = search rules in
    ruling_is (column c.args.row.now c.args.code_at_place) (column c.args.row.now c.args.points_at_place)
    c.in_ok-code.code c.in_ok-points.points c.in_ok-code.ensures.code
    c.in_ok-points.ensures.points ∙ other_ruling c.in_ok-code.code c.in_ok-points.points other none)
