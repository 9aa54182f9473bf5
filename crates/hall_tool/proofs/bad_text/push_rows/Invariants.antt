use Rattle.std.proofs.Common.{◌≡◌, ◌++◌, take, flat_map}
use Rattle.std.specs.String.{string_bytes}
use Rattle.hall_tool.specs.BadText.{row_line}
use Rattle.hall_tool.proofs.bad_text.push_rows.Given as goal

-- the rows so far were added to the text
abbrev pub invariant-loop-rowid : goal.invariant-loop-rowid
invariant-loop-rowid l =
    string_bytes l.text ≡ string_bytes l.initial.text ++ flat_map (row_line l.table) (take l.rowid-index l.rowids)
