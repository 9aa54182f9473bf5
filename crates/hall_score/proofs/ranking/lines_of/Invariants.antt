use Rattle.std.proofs.Common.{◌≡◌, map, take}
use Rattle.hall_score.specs.Standings.{line_of}
use Rattle.hall_score.proofs.ranking.lines_of.Given as goal

-- the lines so far are those of the totals so far
abbrev pub invariant-loop-entrant : goal.invariant-loop-entrant
invariant-loop-entrant l = l.lines.items ≡ map (line_of l.totals) (take l.entrant-index l.totals)
