use Rattle.std.proofs.Common.{◌≡◌, map, take}
use Rattle.hall_score.proofs.ranking.rising.Given as goal

-- the totals so far
abbrev pub invariant-loop-entrant : goal.invariant-loop-entrant
invariant-loop-entrant l = l.rising.items ≡ map (λ entrant. entrant.1) (take l.entrant-index l.totals)
