use Rattle.std.proofs.Common.{subst}
use Rattle.hall_policy.specs.Decided.{IsDecidedUpTo}
use Rattle.hall_policy.specs.declared.rule.Decision.{Decision}
use Rattle.hall_desk.proofs.request_at.caller_rule.Goals as goal

pub returns-in-Some-Deny-clause-some : goal.returns-in-Some-Deny-clause-some
returns-in-Some-Deny-clause-some c =
    subst (λ (decision : Decision). IsDecidedUpTo 3 c.args.facts.now c.args.action.now c.args.t decision)
    c.in-Some-Deny.field-0-is c.in-Some-Deny.ensures.some
