use Rattle.std.proofs.Common.{subst}
use Rattle.hall_grid.specs.declared.board.Kind.TheVariants.{Nurikabe}
use Rattle.hall_solve.specs.Deduction.{IsDeduced}
use Rattle.hall_solve.specs.Puzzle.{question_of}
use Rattle.hall_solve.specs.declared.deduce.Pass.{Pass}
use Rattle.hall_solve.specs.declared.deduce.Pass.TheVariants.{Settled, Advanced}
use Rattle.hall_solve.proofs.Boards.{Narrows-twice}
use Rattle.hall_solve.proofs.Trails.{Grows-twice}
use Rattle.hall_nurikabe.proofs.Passes.{IsSoFar-advanced, IsSoFar-settled, on_err}
use Rattle.hall_nurikabe.proofs.trial.try_cells.Goals as goal
use Rattle.hall_nurikabe.proofs.trial.try_cells.Goals.{in-Settled, in-Advanced}

pub loop-preserved : goal.loop-preserved
loop-preserved c =
    let q = question_of Nurikabe c.args.puzzle.now in
    let start = c.args.partial.now in
    let before = c.loop.partial in
    let after = c.settle_cell.new.partial in
    elim c.match-branch-4.branch [
      | in-Settled w ↦
          rw w.pass-is
          (IsSoFar-settled q start before after c.requires.partial c.loop.pass c.loop.invariant
          c.settle_cell.ensures.grows
          (subst (λ (x : Pass). IsDeduced q before.places after.places x) w.in-Settled.is
          c.in_ok-settle_cell.ensures.deduced))
      | in-Advanced w ↦
          rw w.pass-is
          (IsSoFar-advanced q start before after c.requires.partial c.loop.pass c.loop.invariant
          c.settle_cell.ensures.grows
          (subst (λ (x : Pass). IsDeduced q before.places after.places x) w.in-Advanced.is
          c.in_ok-settle_cell.ensures.deduced))
    ]

pub returns-in_err-settle_cell-clause-err : goal.returns-in_err-settle_cell-clause-err
returns-in_err-settle_cell-clause-err c =
    on_err c.from_residual-in_err-settle_cell.result
    (Narrows-twice (question_of Nurikabe c.args.puzzle.now) c.args.partial.now.places c.loop.partial.places
    c.settle_cell.new.partial.places
    c.loop.invariant.narrows c.in_err-settle_cell.ensures.err)

pub returns-in_err-settle_cell-clause-grows : goal.returns-in_err-settle_cell-clause-grows
returns-in_err-settle_cell-clause-grows c =
    Grows-twice c.args.partial.now c.loop.partial c.settle_cell.new.partial c.loop.invariant.grows
    c.settle_cell.ensures.grows

pub returns-in-Dead-clause-grows : goal.returns-in-Dead-clause-grows
returns-in-Dead-clause-grows c =
    Grows-twice c.args.partial.now c.loop.partial c.settle_cell.new.partial c.loop.invariant.grows
    c.settle_cell.ensures.grows
