use Rattle.std.proofs.Common.{get_or, pos, rules, w64}
use Rattle.std.proofs.lemmas.Int.{to_z-of_z}
use Rattle.hall_tool.specs.BadText.{row_line}
use Rattle.hall_tool.proofs.CheckLines.{line_more}
use Rattle.hall_tool.proofs.bad_text.push_rows.Goals as goal
use mir.Val.{SFits}

pub loop-rowid-preserved : goal.loop-rowid-preserved
loop-rowid-preserved c =
    let rowids = c.args.rowids.now in
    let index = c.loop-rowid.rowid-index in
    let fits : SFits w64 (get_or rowids index (pos 0)) = search rules in
    line_more (row_line c.args.table) rowids index (pos 0) c.loop-rowid-test.true
    _ _ _ _ (to_z-of_z w64 (get_or rowids index (pos 0)) fits) c.loop-rowid.invariant c.in_ok-push_row.ensures
