use Rattle.std.proofs.Common.{drop}
use Rattle.hall_store.proofs.Feeds.{Feeding}
use Rattle.hall_desk.specs.Lines.{IsLineAdded}
use Rattle.hall_desk.proofs.answers.show_answers.Given as goal

-- the lines took the rows so far
abbrev pub invariant-loop-row : goal.invariant-loop-row
invariant-loop-row l = Feeding IsLineAdded l.initial.lines l.rows (drop l.row-index l.rows) l.lines
