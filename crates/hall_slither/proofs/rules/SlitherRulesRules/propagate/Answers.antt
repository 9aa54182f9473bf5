use Rattle.hall_slither.proofs.rules.SlitherRulesRules.propagate.Goals as goal

pub returns-clause-settled : goal.returns-clause-settled
returns-clause-settled c = rw (← c.self.view_is) c.settle-step.ensures.settled
