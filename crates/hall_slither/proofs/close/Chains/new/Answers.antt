use Rattle.std.proofs.lemmas.Result.{IfOk-from_err}
use Rattle.std.proofs.Common.{rules}
use Rattle.hall_slither.proofs.close.Chains.new.Goals as goal

pub invariant_of-result : goal.invariant_of-result
invariant_of-result c = record {
  kind = c.requires.kind;
  board = c.size-size.ensures.board;
  exact = search rules;
  components = search rules;
  ends = search rules;
  apart = rw c.deref-4.ensures.value at c.labels_differ-apart.ensures;
  closed = rw (c.deref-5.ensures.value, c.deref-6.ensures.value) at c.has_loop-closed.ensures;
}

pub returns-in_err-lines-clause-board : goal.returns-in_err-lines-clause-board
returns-in_err-lines-clause-board c = IfOk-from_err c.from_residual.result _ c.from_residual.ensures.0

pub returns-in_err-lines-clause-lines : goal.returns-in_err-lines-clause-lines
returns-in_err-lines-clause-lines c = IfOk-from_err c.from_residual.result _ c.from_residual.ensures.0

pub returns-in_err-labels-clause-board : goal.returns-in_err-labels-clause-board
returns-in_err-labels-clause-board c = IfOk-from_err c.from_residual-in_err-labels.result _
    c.from_residual-in_err-labels.ensures.0

pub returns-in_err-labels-clause-lines : goal.returns-in_err-labels-clause-lines
returns-in_err-labels-clause-lines c = IfOk-from_err c.from_residual-in_err-labels.result _
    c.from_residual-in_err-labels.ensures.0

pub returns-in_err-ends-clause-board : goal.returns-in_err-ends-clause-board
returns-in_err-ends-clause-board c = IfOk-from_err c.from_residual-in_err-ends.result _
    c.from_residual-in_err-ends.ensures.0

pub returns-in_err-ends-clause-lines : goal.returns-in_err-ends-clause-lines
returns-in_err-ends-clause-lines c = IfOk-from_err c.from_residual-in_err-ends.result _
    c.from_residual-in_err-ends.ensures.0
