use Rattle.std.proofs.Common.{◌≡◌, true, false, sym, subst, arith}
use Rattle.hall_grid.specs.declared.board.Kind.TheVariants.{Nurikabe}
use Rattle.hall_solve.specs.Puzzle.{question_of, start_of, AllExtend}
use Rattle.hall_solve.specs.Question.{IsPartial}
use Rattle.hall_nurikabe.proofs.Begun.{Begun-skip, Begun-set, start_is, IsPartial-start, AllExtend-start}
use Rattle.hall_nurikabe.proofs.givens.start.Goals as goal
use Rattle.hall_nurikabe.proofs.givens.start.Goals.{then-is_number, else-is_number}

pub loop-cell-preserved : goal.loop-cell-preserved
loop-cell-preserved c =
    let size = c.loop-cell.invariant.size in
    elim c.if-is_number.branch [
      | then-is_number w ↦
          rw (w.partial-is, w.set.ensures.places)
          (Begun-set c.args.puzzle.now c.loop-cell.partial.places c.loop-cell.cell c.clue.result c.clue.ensures
          (c.is_number.ensures.0 w.if-is_number.true)
          (omega (arith, c.cells-cell-end.ensures.cells)) c.loop-cell.invariant)
      | else-is_number w ↦
          rw w.partial-is
          (Begun-skip c.args.puzzle.now c.loop-cell.partial.places c.loop-cell.cell c.clue.result c.clue.ensures (λ h.
          let yes : c.is_number.result ≡ true = c.is_number.ensures.1 h in
          let no : c.is_number.result ≡ false = w.if-is_number.false in
          absurd (cc)) c.loop-cell.invariant)
    ]

is : (c : goal.After-loop-cell) → c.loop-cell.partial.places ≡ start_of Nurikabe c.args.puzzle.now
is c =
    let all = c.cells-cell-end.ensures.cells in
    start_is _ _ c.loop-cell.cell c.cells-cell-end.ensures.board.clues (omega arith) c.loop-cell.invariant

pub returns-clause-givens : goal.returns-clause-givens
returns-clause-givens c = is c

pub returns-clause-partial : goal.returns-clause-partial
returns-clause-partial c =
    subst (IsPartial (question_of Nurikabe c.args.puzzle.now)) (sym (is c))
    (IsPartial-start c.args.puzzle.now c.cells-cell-end.ensures.board.clues)

pub returns-clause-solutions : goal.returns-clause-solutions
returns-clause-solutions c =
    subst (AllExtend Nurikabe c.args.puzzle.now) (sym (is c))
    (AllExtend-start c.args.puzzle.now c.requires c.cells-cell-end.ensures.board.clues)
