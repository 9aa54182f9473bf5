use Rattle.std.proofs.Common.{◌≡◌, ◌≤◌, ◌*◌, take}
use Rattle.std.specs.List.{sum_by}
use Rattle.hall_score.specs.Total.{points_for}
use Rattle.hall_score.proofs.points.puzzle_points.Given as goal

-- the points of the answers so far, at most 1,000 each
abbrev pub invariant-loop-row : goal.invariant-loop-row
invariant-loop-row l = (l.points ≡ sum_by (points_for l.round l.answers) (take l.row-index l.answers))
    × (l.points ≤ l.row-index * 1000)
