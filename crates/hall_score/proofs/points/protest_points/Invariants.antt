use Rattle.std.proofs.Common.{◌≡◌, ◌*◌, take, pos, ◌+ℤ◌, neg_ℤ, ◌≤ℤ◌, fold}
use Rattle.hall_policy.specs.World.{ruling_points}
use Rattle.hall_score.proofs.points.protest_points.Given as goal

-- the points of the protests so far, at most 1,000 each
abbrev pub invariant-loop-row : goal.invariant-loop-row
invariant-loop-row l =
    (l.points ≡ fold (λ sum row. sum +ℤ ruling_points row.ruling) (pos 0) (take l.row-index l.protests))
    × (neg_ℤ (pos (1000 * l.row-index)) ≤ℤ l.points) × (l.points ≤ℤ pos (1000 * l.row-index))
