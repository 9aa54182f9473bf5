use Rattle.std.proofs.Common.{◌≡◌}
use Rattle.hall_solve.specs.declared.deduce.Pass.TheVariants.{Advanced, Dead}
use Rattle.hall_slither.proofs.IsFollowed.{IsFollowed-settled, IsFollowed-advanced, IsFollowed-dead, IsFollowed-failed}
use Rattle.hall_slither.proofs.trial.try_waiting.Goals as goal
use Rattle.hall_slither.proofs.trial.try_waiting.Goals.{then-side-len+in_ok-try_side+in-Settled}
use Rattle.hall_slither.proofs.trial.try_waiting.Goals.{then-side-len+in_ok-try_side+in-Advanced, else-side-len}

pub returns-in_err-try_side-clause-followed : goal.returns-in_err-try_side-clause-followed
returns-in_err-try_side-clause-followed c =
    IsFollowed-failed c.args.puzzle.now c.args.partial.now c.loop.partial c.try_side.new.partial c.loop.pass
    c.in_err-try_side.field-0.0 c.from_residual.result c.from_residual.ensures.0 c.requires.partial
    c.loop.invariant.alive c.loop.invariant.followed
    c.in_err-try_side.ensures.followed

pub returns-in-Dead-clause-followed : goal.returns-in-Dead-clause-followed
returns-in-Dead-clause-followed c =
    IsFollowed-dead c.args.puzzle.now c.args.partial.now c.loop.partial c.try_side.new.partial c.loop.pass
    c.in_ok-try_side.field-0 c.in-Dead.is c.requires.partial c.loop.invariant.alive c.loop.invariant.followed
    c.in_ok-try_side.ensures.followed

pub loop-preserved : goal.loop-preserved
loop-preserved c =
    let so_far = c.loop.invariant in
    elim c.if-side-len.branch [
      | then-side-len+in_ok-try_side+in-Settled w ↦
          rw (w.partial-is, w.scratch-is, w.pass-is) record {
            followed = IsFollowed-settled c.args.puzzle.now c.args.partial.now c.loop.partial w.try_side.new.partial
                c.loop.pass
                w.in_ok-try_side.field-0 w.in-Settled.is so_far.alive so_far.followed w.in_ok-try_side.ensures.followed;
            coloured = w.in_ok-try_side.ensures.coloured;
            alive = so_far.alive;
          }
      | then-side-len+in_ok-try_side+in-Advanced w ↦
          rw (w.partial-is, w.scratch-is, w.pass-is) record {
            followed = IsFollowed-advanced c.args.puzzle.now c.args.partial.now c.loop.partial w.try_side.new.partial
                c.loop.pass w.in_ok-try_side.field-0 w.in-Advanced.is c.requires.partial so_far.alive so_far.followed
                w.in_ok-try_side.ensures.followed;
            coloured = w.in_ok-try_side.ensures.coloured;
            alive = λ (e : Advanced ≡ Dead). cc;
          }
      | else-side-len w ↦ rw (w.partial-is, w.scratch-is, w.pass-is) so_far
    ]
