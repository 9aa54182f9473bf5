use Rattle.std.proofs.Common.{◌≡◌, ◌+◌, ◌≤◌, take}
use Rattle.hall_slither.specs.Count.{count_sides, has_line, is_place_unset}
use Rattle.hall_slither.proofs.count.lines_and_open.Given as goal

abbrev pub invariant-loop-side : goal.invariant-loop-side
invariant-loop-side l = record {
  lines : l.lines ≡ count_sides (has_line l.partial.places) (take l.side-index l.sides);
  unset : l.unset ≡ count_sides (is_place_unset l.partial.places) (take l.side-index l.sides);
  few : l.lines + l.unset ≤ l.side-index;
}
