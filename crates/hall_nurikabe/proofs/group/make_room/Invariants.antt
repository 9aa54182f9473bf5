use Rattle.std.proofs.Common.{◌≡◌, length}
use Rattle.hall_nurikabe.proofs.group.make_room.Given as goal

abbrev pub invariant-loop-place : goal.invariant-loop-place
invariant-loop-place l = length l.places.items ≡ l.place
