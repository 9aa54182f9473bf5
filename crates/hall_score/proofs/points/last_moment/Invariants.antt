use Rattle.std.proofs.Common.{◌≡◌, ◌≤◌, take, map, max, fold, filter}
use Rattle.hall_policy.specs.Limits.{last_second}
use Rattle.hall_score.specs.Total.{does_score}
use Rattle.hall_score.proofs.points.last_moment.Given as goal

-- the greatest moment of the answers so far that score
abbrev pub invariant-loop-row : goal.invariant-loop-row
invariant-loop-row l =
    (l.last ≡ fold max 0 (map (λ row. row.moment) (filter (does_score l.round l.answers) (take l.row-index l.answers))))
    × (l.last ≤ last_second)
