use Rattle.std.proofs.Common.{◌≡◌, ℕ, ◌<◌, ◌≤◌, None, length, get_or}
use Rattle.hall_solve.specs.Trail.{IsTrailed}
use Rattle.hall_solve.proofs.explore.own_board.Given as goal

-- the places so far have what the start has, and the others nothing
abbrev pub invariant-loop-place : goal.invariant-loop-place
invariant-loop-place l = record {
  size : length l.board.places ≡ length l.start.places;
  same : (i : ℕ) → i < l.place → get_or l.board.places i None ≡ get_or l.start.places i None;
  rest : (i : ℕ) → l.place ≤ i → get_or l.board.places i None ≡ None;
  trailed : IsTrailed l.board;
}
