use Rattle.std.proofs.Common.{◌≡◌, ◌<◌, true}
use Rattle.std.specs.Prelude.{Contains}
use Rattle.hall_grid.specs.Slither.{dots, is_end}
use Rattle.hall_slither.specs.Early.{IsTrack}
use Rattle.hall_slither.proofs.IsTrack.{LooseAt}
use Rattle.hall_slither.proofs.early.leads_back.Given as goal

abbrev pub invariant-loop : goal.invariant-loop
invariant-loop l = record {
  track : IsTrack l.size l.partial.places l.side (LooseAt l.first l.at) l.passed.items;
  last : Contains l.passed.items l.last;
  at : is_end l.size l.at l.last ≡ true;
  board : l.at < dots l.size;
}
