use Rattle.std.proofs.Common.{◌≤◌, length, vec_len}
use Rattle.std.specs.Prelude.{vec_capacity}
use Rattle.hall_solve.specs.Trail.{Trailed, IsTrailed, IsUndone}
use Rattle.hall_solve.proofs.partial.Partial.undo_to.Given as goal

abbrev pub invariant-loop-mark : goal.invariant-loop-mark
invariant-loop-mark l =
    let now : Trailed = record { places = l.self-inside.places.items; trail = l.self-inside.trail.items } in
    record {
      board : IsTrailed now;
      room : length now.places ≤ vec_capacity l.self-inside.trail;
      enough : l.mark-inside.length ≤ length now.trail;
      undone : IsUndone (length now.trail) l.fn.self now;
    }

abbrev pub decreases-loop-mark : goal.decreases-loop-mark
decreases-loop-mark l = vec_len l.self-inside.trail
