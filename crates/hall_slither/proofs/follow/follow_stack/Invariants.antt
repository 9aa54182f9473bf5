use Rattle.std.proofs.Common.{◌≡◌, ◌≢◌, ◌⊎◌}
use Rattle.std.specs.Prelude.{Contains, Ok}
use Rattle.std.specs.declared.alloc.AllocError.{AllocError}
use Rattle.hall_solve.specs.declared.deduce.Pass.TheVariants.{Settled, Dead}
use Rattle.hall_slither.specs.Count.{IsCentre, IsSilent}
use Rattle.hall_slither.specs.declared.count.Centre.{Centre}
use Rattle.hall_slither.specs.Follow.{IsSamePosition, IsFollowed, HasAll, work}
use Rattle.hall_slither.proofs.follow.follow_stack.Given as goal

abbrev pub invariant-loop-centre : goal.invariant-loop-centre
invariant-loop-centre l =
    let board = l.fn.position.puzzle.now in
    record {
      followed : IsFollowed {E = AllocError} board l.fn.position.partial.now l.position.partial.now (Ok l.pass);
      same : IsSamePosition l.fn.position l.position;
      alive : l.pass ≢ Dead;
      silent : HasAll board.size l.fn.position.stack.now.items → l.pass ≡ Settled → (centre : Centre)
          → IsCentre board.size centre
          → Contains l.position.stack.now.items centre ⊎ IsSilent board l.position.partial.now.places centre;
    }

abbrev pub decreases-loop-centre : goal.decreases-loop-centre
decreases-loop-centre l = work l.position.partial.now.places l.position.stack.now.items
