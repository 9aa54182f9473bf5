use Rattle.std.proofs.Common.{vec_len}
use Rattle.hall_nurikabe.proofs.turn.next_listed.Given as goal

abbrev pub decreases-popping : goal.decreases-popping
decreases-popping l = vec_len l.turn.near
