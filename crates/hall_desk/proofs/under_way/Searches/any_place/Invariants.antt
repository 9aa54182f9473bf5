use Rattle.std.proofs.Common.{◌<◌, ℕ}
use Rattle.hall_desk.specs.Searches.{StaysAt}
use Rattle.hall_desk.specs.declared.under_way.Underway.{Underway}
use Rattle.hall_desk.proofs.under_way.Searches.any_place.Given as goal

abbrev pub invariant-loop-place : goal.invariant-loop-place
invariant-loop-place l = (other : ℕ) → other < l.place → (a : Underway) × StaysAt l.self l.wanted other a
