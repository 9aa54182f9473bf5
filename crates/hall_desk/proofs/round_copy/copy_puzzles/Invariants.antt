use Rattle.std.proofs.Common.{◌≡◌, take}
use Rattle.hall_desk.proofs.round_copy.copy_puzzles.Given as goal

-- the puzzles so far
abbrev pub invariant-loop-line : goal.invariant-loop-line
invariant-loop-line l = l.copies.items ≡ take l.line-index l.lines
