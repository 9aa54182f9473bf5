use Rattle.std.proofs.Common.{◌<◌, ℕ}
use Rattle.hall_desk.specs.Searches.{IsAt, IsWanted}
use Rattle.hall_desk.specs.declared.under_way.Underway.{Underway}
use Rattle.hall_desk.proofs.under_way.Searches.place_of.Given as goal

abbrev pub invariant-loop-place : goal.invariant-loop-place
invariant-loop-place l =
    (other : ℕ) (a : Underway) → other < l.place → IsAt l.self.places other a → ¬ (IsWanted l.wanted a)
