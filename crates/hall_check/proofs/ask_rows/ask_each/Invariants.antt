use Rattle.std.proofs.Common.{◌≡◌, ◌≤◌, take}
use Rattle.hall_check.specs.Asking.{CanAsk, asked_world}
use Rattle.hall_check.specs.Finds.{Finds}
use Rattle.hall_check.proofs.ask_rows.ask_each.Given as goal

-- what is found in the rows so far
abbrev pub invariant-loop-row : goal.invariant-loop-row
invariant-loop-row g l = record {
  sentence : l.found.sentence ≡ l.fn.sentence;
  few : l.found.count ≤ l.row-index;
  finds : CanAsk l.asking →
      Finds (g.T.Asked.says (asked_world l.asking) l.fn.sentence) g.T.Spotted.spot_of (take l.row-index l.rows) l.found;
}
