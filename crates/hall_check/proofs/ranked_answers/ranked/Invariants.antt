use Rattle.std.proofs.Common.{◌≡◌, map, take}
use Rattle.hall_check.proofs.ranked_answers.ranked.Given as goal

-- the answers so far
abbrev pub invariant-loop-row : goal.invariant-loop-row
invariant-loop-row l = map (λ row. row.now) l.ranked.items ≡ take l.row-index l.answers
