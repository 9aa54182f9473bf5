use Rattle.std.proofs.Common.{subst}
use Rattle.hall_grid.specs.declared.board.Kind.TheVariants.{Nurikabe}
use Rattle.hall_solve.specs.Deduction.{IsSound}
use Rattle.hall_solve.specs.Puzzle.{question_of}
use Rattle.hall_solve.specs.declared.deduce.Finding.{Finding}
use Rattle.hall_nurikabe.proofs.Passes.{IsSoFar-set}
use Rattle.hall_nurikabe.proofs.follow.follow_place.Goals as goal
use Rattle.hall_nurikabe.proofs.follow.follow_place.Goals.{in-Nothing, in-Must}

pub loop-spot-preserved : goal.loop-spot-preserved
loop-spot-preserved c =
    let q = question_of Nurikabe c.args.puzzle.now in
    let board = c.loop-spot.partial in
    elim c.match-branch-2.branch [
      | in-Nothing w ↦ rw (w.partial-is, w.pass-is) c.loop-spot.invariant
      | in-Must w ↦
          rw (w.partial-is, w.pass-is)
          (IsSoFar-set q c.args.partial.now board w.set.new.self c.requires.partial c.loop-spot.pass
          c.loop-spot.invariant
          w.in-Must.place w.in-Must.value
          (subst (λ (x : Finding). IsSound q board.places x) w.in-Must.is c.in_ok-look_round.ensures)
          w.set.ensures.places w.set.ensures.trail)
    ]
