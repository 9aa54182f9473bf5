use Rattle.std.proofs.Common.{◌≡◌, ◌≢◌, ◌≤◌, take}
use Rattle.std.specs.Prelude.{Ok}
use Rattle.std.specs.declared.alloc.AllocError.{AllocError}
use Rattle.hall_solve.specs.declared.deduce.Pass.TheVariants.{Settled, Dead}
use Rattle.hall_slither.specs.Follow.{IsSamePosition, IsFollowed, AreSet, work}
use Rattle.hall_slither.proofs.follow.set_open.Given as goal

abbrev pub invariant-loop-side : goal.invariant-loop-side
invariant-loop-side l = record {
  followed : IsFollowed {E = AllocError} l.fn.position.puzzle.now l.fn.position.partial.now l.position.partial.now
      (Ok l.pass);
  same : IsSamePosition l.fn.position l.position;
  alive : l.pass ≢ Dead;
  set : l.pass ≡ Settled → AreSet (take l.side-index l.sides) l.position.partial.now.places;
  work : work l.position.partial.now.places l.position.stack.now.items ≤ work l.fn.position.partial.now.places
      l.fn.position.stack.now.items;
}
