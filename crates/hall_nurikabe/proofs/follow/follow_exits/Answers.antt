use Rattle.std.proofs.Common.{subst}
use Rattle.hall_grid.specs.declared.board.Kind.TheVariants.{Nurikabe}
use Rattle.hall_solve.specs.Deduction.{IsSound}
use Rattle.hall_solve.specs.Puzzle.{question_of}
use Rattle.hall_solve.specs.Trail.{Trailed}
use Rattle.hall_solve.specs.declared.deduce.Finding.{Finding}
use Rattle.hall_nurikabe.proofs.Passes.{IsSoFar, IsSoFar-set}
use Rattle.hall_nurikabe.proofs.follow.follow_exits.Goals as goal
use Rattle.hall_nurikabe.proofs.follow.follow_exits.Goals.{in-Nothing, in-Must}

pub loop-side-preserved : goal.loop-side-preserved
loop-side-preserved c =
    let q = question_of Nurikabe c.args.puzzle.now in
    let start = c.args.partial.now in
    let board = c.look_at_exit.new.partial in
    let so_far : IsSoFar q start board c.loop-side.pass = rw c.look_at_exit.ensures.kept c.loop-side.invariant in
    elim c.match-branch-2.branch [
      | in-Nothing w ↦ rw (w.partial-is, w.pass-is) so_far
      | in-Must w ↦
          rw (w.partial-is, w.pass-is)
          (IsSoFar-set q start board w.set.new.self c.requires.partial c.loop-side.pass so_far
          w.in-Must.place w.in-Must.value
          (rw c.look_at_exit.ensures.kept (subst (λ (x : Finding). IsSound q c.loop-side.partial.places x) w.in-Must.is
          c.in_ok-look_at_exit.ensures.sound))
          w.set.ensures.places w.set.ensures.trail)
    ]
