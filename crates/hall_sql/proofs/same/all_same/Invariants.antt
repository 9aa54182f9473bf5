use Rattle.std.proofs.Common.{◌≡◌, take, length}
use Rattle.hall_sql.proofs.same.all_same.Given as goal

abbrev pub invariant-loop-one : goal.invariant-loop-one
invariant-loop-one g l = take (length l.yielded) l.left ≡ take (length l.yielded) l.right
