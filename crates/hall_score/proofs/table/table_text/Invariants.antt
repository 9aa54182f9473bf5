use Rattle.std.proofs.Common.{◌≡◌, take, flat_map}
use Rattle.std.specs.String.{string_bytes}
use Rattle.hall_score.specs.Table.{line_bytes}
use Rattle.hall_score.proofs.table.table_text.Given as goal

-- the text so far has the lines so far
abbrev pub invariant-loop-line : goal.invariant-loop-line
invariant-loop-line l = string_bytes l.text ≡ flat_map line_bytes (take l.line-index l.line-items)
