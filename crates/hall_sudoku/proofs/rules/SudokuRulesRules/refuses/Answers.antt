use Rattle.std.proofs.Common.{subst}
use Rattle.hall_grid.specs.declared.board.Size.{Size}
use Rattle.hall_solve.specs.Question.{IsHopeless}
use Rattle.hall_sudoku.specs.Units.{units_question}
use Rattle.hall_sudoku.proofs.UnitsQuestion.{hopeless_of}
use Rattle.hall_sudoku.proofs.rules.SudokuRulesRules.refuses.Goals as goal

pub returns : goal.returns
returns c = record {
  hopeless =
      rw (← c.self.view_is)
      (λ yes. hopeless_of c.self.inside.puzzle c.args.partial.now.places c.self.invariant.0
      (subst (λ (n : Size). IsHopeless (units_question n) c.args.partial.now.places) c.self.invariant.1
      (c.has_rival.ensures.hopeless yes)));
}
