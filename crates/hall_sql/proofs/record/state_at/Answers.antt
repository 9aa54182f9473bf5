use Rattle.std.proofs.Common.{◌≢◌, ◌∙◌, rules}
use Rattle.sqlite_value.specs.Order.{column}
use Rattle.hall_store.proofs.Knowing.{fails_as}
use Rattle.hall_sql.proofs.CauseLemmas.{fails_on, none_told}
use Rattle.hall_sql.proofs.UnreadLemmas.{unread_state_code, unread_solution, state_is, other_state, printable_ascii}
use Rattle.hall_sql.proofs.record.state_at.Goals as goal

pub returns-in_err-code-clause-unread : goal.returns-in_err-code-clause-unread
returns-in_err-code-clause-unread c =
    fails_as c.from_residual.result _ _ c.from_residual.ensures.1
    (λ failed. unread_state_code (column c.args.row.now c.args.code_at_place)
    (column c.args.row.now c.args.solution_at) (c.in_err-code.ensures.unread failed))

pub returns-in_err-solution-clause-unread : goal.returns-in_err-solution-clause-unread
returns-in_err-solution-clause-unread c =
    fails_as c.from_residual-in_err-solution.result _ _ c.from_residual-in_err-solution.ensures.1
    (λ failed. unread_solution (column c.args.row.now c.args.code_at_place) (column c.args.row.now c.args.solution_at)
    (c.in_err-solution.ensures.unread failed printable_ascii))

pub returns-clause-unread : goal.returns-clause-unread
returns-clause-unread c =
    fails_on c.unsolved.result c.ok_or.result _ _ c.ok_or.ensures.value
    (none_told c.unsolved.result _ c.unsolved.ensures) (λ none.
    let other : c.in_ok-code.code ≢ 1 = search rules in
    state_is (column c.args.row.now c.args.code_at_place) (column c.args.row.now c.args.solution_at) c.in_ok-code.code
    c.in_ok-solution.solution c.in_ok-code.ensures.code
    c.in_ok-solution.ensures.text ∙ other_state c.in_ok-code.code c.in_ok-solution.solution other none)
