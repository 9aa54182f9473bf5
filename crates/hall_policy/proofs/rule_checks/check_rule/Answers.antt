use Rattle.hall_policy.proofs.Findings.{found_by_test, implied_by_test}
use Rattle.hall_policy.proofs.rule_checks.check_rule.Goals as goal

pub returns-in-Missing-clause-tells : goal.returns-in-Missing-clause-tells
returns-in-Missing-clause-tells c = λ world tells.
    rw (c.in-Missing.is, c.finding_of-in-Missing.ensures)
    (found_by_test c.is_missing.result _ _ (c.is_missing.ensures.tells world (rw c.in-Missing.is at tells)) (λ x. x))

pub returns-in-Missing-clause-implies : goal.returns-in-Missing-clause-implies
returns-in-Missing-clause-implies c =
    implied_by_test c.is_missing.result _ _ _ c.args.facts.now c.args.action.now c.in-Missing.is
    c.finding_of-in-Missing.ensures c.is_missing.ensures.there

pub returns-in-LimitReached-clause-tells : goal.returns-in-LimitReached-clause-tells
returns-in-LimitReached-clause-tells c = λ world tells.
    rw (c.in-LimitReached.is, c.finding_of-in-LimitReached.ensures)
    (found_by_test c.is_at_limit.result _ _ (c.is_at_limit.ensures.tells world (rw c.in-LimitReached.is at tells))
    (λ x. x))

pub returns-in-LimitReached-clause-implies : goal.returns-in-LimitReached-clause-implies
returns-in-LimitReached-clause-implies c =
    implied_by_test c.is_at_limit.result _ _ _ c.args.facts.now c.args.action.now c.in-LimitReached.is
    c.finding_of-in-LimitReached.ensures c.is_at_limit.ensures.below
