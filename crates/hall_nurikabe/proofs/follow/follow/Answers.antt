use Rattle.std.proofs.Common.{subst}
use Rattle.hall_grid.specs.declared.board.Kind.TheVariants.{Nurikabe}
use Rattle.hall_solve.specs.Deduction.{IsDeduced}
use Rattle.hall_solve.specs.Puzzle.{question_of}
use Rattle.hall_solve.specs.declared.deduce.Pass.{Pass}
use Rattle.hall_solve.specs.declared.deduce.Pass.TheVariants.{Settled, Advanced}
use Rattle.hall_solve.proofs.Boards.{Narrows-twice}
use Rattle.hall_solve.proofs.Trails.{Grows-twice}
use Rattle.hall_nurikabe.proofs.Passes.{IsSoFar-advanced, IsSoFar-settled, on_err}
use Rattle.hall_nurikabe.proofs.follow.follow.Goals as goal
use Rattle.hall_nurikabe.proofs.follow.follow.Goals.{in-Settled, in-Advanced}

pub loop-step-preserved : goal.loop-step-preserved
loop-step-preserved c =
    let q = question_of Nurikabe c.args.puzzle.now in
    let start = c.args.partial.now in
    let before = c.loop-step.partial in
    let after = c.follow_step.new.partial in
    elim c.match-branch-2.branch [
      | in-Settled w ↦
          rw w.pass-is
          (IsSoFar-settled q start before after c.requires.partial c.loop-step.pass c.loop-step.invariant
          c.follow_step.ensures.grows
          (subst (λ (x : Pass). IsDeduced q before.places after.places x) w.in-Settled.is
          c.in_ok-follow_step.ensures.deduced))
      | in-Advanced w ↦
          rw w.pass-is
          (IsSoFar-advanced q start before after c.requires.partial c.loop-step.pass c.loop-step.invariant
          c.follow_step.ensures.grows
          (subst (λ (x : Pass). IsDeduced q before.places after.places x) w.in-Advanced.is
          c.in_ok-follow_step.ensures.deduced))
    ]

pub returns-in_err-follow_step-clause-err : goal.returns-in_err-follow_step-clause-err
returns-in_err-follow_step-clause-err c =
    on_err c.from_residual.result
    (Narrows-twice (question_of Nurikabe c.args.puzzle.now) c.args.partial.now.places c.loop-step.partial.places
    c.follow_step.new.partial.places
    c.loop-step.invariant.narrows c.in_err-follow_step.ensures.err)

pub returns-in_err-follow_step-clause-grows : goal.returns-in_err-follow_step-clause-grows
returns-in_err-follow_step-clause-grows c =
    Grows-twice c.args.partial.now c.loop-step.partial c.follow_step.new.partial c.loop-step.invariant.grows
    c.follow_step.ensures.grows

pub returns-in-Dead-clause-grows : goal.returns-in-Dead-clause-grows
returns-in-Dead-clause-grows c =
    Grows-twice c.args.partial.now c.loop-step.partial c.follow_step.new.partial c.loop-step.invariant.grows
    c.follow_step.ensures.grows
