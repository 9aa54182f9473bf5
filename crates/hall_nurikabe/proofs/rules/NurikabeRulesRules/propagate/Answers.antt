use Rattle.std.proofs.lemmas.Result.{IfOk-from_err}
use Rattle.hall_nurikabe.proofs.rules.NurikabeRulesRules.propagate.Goals as goal

pub returns-in_err-step-clause-live : goal.returns-in_err-step-clause-live
returns-in_err-step-clause-live c = IfOk-from_err c.from_residual-in_err-step.result _
    c.from_residual-in_err-step.ensures.0

pub returns-in_err-step-clause-settled : goal.returns-in_err-step-clause-settled
returns-in_err-step-clause-settled c = IfOk-from_err c.from_residual-in_err-step.result _
    c.from_residual-in_err-step.ensures.0

pub returns-in_err-step-clause-dead : goal.returns-in_err-step-clause-dead
returns-in_err-step-clause-dead c = IfOk-from_err c.from_residual-in_err-step.result _
    c.from_residual-in_err-step.ensures.0
