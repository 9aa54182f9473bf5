use Rattle.std.proofs.lemmas.Result.{IfOk-from_err}
use Rattle.std.proofs.Common.{◌∙◌, ap}
use Rattle.hall_score.specs.Rulings.{rulings_at}
use Rattle.hall_score.proofs.TallyLemmas.{not_at}
use Rattle.hall_score.proofs.rulings.RulingsByEntrant.put.Goals as goal

pub returns-clause-others : goal.returns-clause-others
returns-clause-others c = λ other apart. c.in_ok-insert.ensures.updates.2 other
    (not_at c.in_ok-name.name other (λ e. apart (e ∙ c.in_ok-name.ensures.cases)))
    ∙ ap (λ m. rulings_at m other) c.self.view_is

pub returns-in_err-name-clause-here : goal.returns-in_err-name-clause-here
returns-in_err-name-clause-here c = IfOk-from_err c.from_residual.result _ c.from_residual.ensures.0

pub returns-in_err-name-clause-others : goal.returns-in_err-name-clause-others
returns-in_err-name-clause-others c = IfOk-from_err c.from_residual.result _ c.from_residual.ensures.0

pub returns-in_err-insert-clause-here : goal.returns-in_err-insert-clause-here
returns-in_err-insert-clause-here c = IfOk-from_err c.from_residual-in_err-insert.result _
    c.from_residual-in_err-insert.ensures.0

pub returns-in_err-insert-clause-others : goal.returns-in_err-insert-clause-others
returns-in_err-insert-clause-others c = IfOk-from_err c.from_residual-in_err-insert.result _
    c.from_residual-in_err-insert.ensures.0
