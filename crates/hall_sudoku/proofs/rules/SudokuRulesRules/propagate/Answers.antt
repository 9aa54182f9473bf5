use Rattle.std.proofs.Common.{subst}
use Rattle.std.proofs.lemmas.Result.{IfOk-weaker, on_err_weaker}
use Rattle.hall_solve.specs.Question.{Narrows, IsHopeless}
use Rattle.hall_grid.specs.declared.board.Size.{Size}
use Rattle.hall_sudoku.specs.Units.{units_question}
use Rattle.hall_sudoku.specs.Settled.{IsBoardSettled}
use Rattle.hall_sudoku.proofs.UnitsQuestion.{narrows_of, hopeless_of}
use Rattle.hall_sudoku.proofs.rules.SudokuRulesRules.propagate.Goals as goal

pub returns-clause-live : goal.returns-clause-live
returns-clause-live c =
    rw (← c.self.view_is)
    (IfOk-weaker c.settle-step.result _ _ (λ step h is_live.
    narrows_of c.self.inside.puzzle c.args.partial.now.places c.settle-step.new.partial.places c.self.invariant.0
    (subst (λ (n : Size). Narrows (units_question n) c.args.partial.now.places c.settle-step.new.partial.places)
    c.self.invariant.1 (h is_live)))
    c.settle-step.ensures.live)

pub returns-clause-dead : goal.returns-clause-dead
returns-clause-dead c =
    rw (← c.self.view_is)
    (IfOk-weaker c.settle-step.result _ _ (λ step h is_dead.
    hopeless_of c.self.inside.puzzle c.args.partial.now.places c.self.invariant.0
    (subst (λ (n : Size). IsHopeless (units_question n) c.args.partial.now.places) c.self.invariant.1 (h is_dead)))
    c.settle-step.ensures.dead)

pub returns-clause-err : goal.returns-clause-err
returns-clause-err c =
    rw (← c.self.view_is)
    (on_err_weaker c.settle-step.result (λ h.
    narrows_of c.self.inside.puzzle c.args.partial.now.places c.settle-step.new.partial.places c.self.invariant.0
    (subst (λ (n : Size). Narrows (units_question n) c.args.partial.now.places c.settle-step.new.partial.places)
    c.self.invariant.1 h))
    c.settle-step.ensures.err)

pub returns-clause-settled : goal.returns-clause-settled
returns-clause-settled c =
    rw (← c.self.view_is)
    (IfOk-weaker c.settle-step.result _ _ (λ step h is_live.
    subst (λ (n : Size). IsBoardSettled n c.settle-step.new.partial.places) c.self.invariant.1 (h is_live))
    c.settle-step.ensures.settled)
