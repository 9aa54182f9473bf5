use Rattle.hall_policy.proofs.First.{Passed}
use Rattle.hall_policy.proofs.rule_checks.decide.Given as goal

-- the rules so far pass
abbrev pub invariant-loop-rule : goal.invariant-loop-rule
invariant-loop-rule l = Passed l.fn.facts l.fn.action l.fn.t l.rule-index
