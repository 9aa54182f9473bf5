use Rattle.std.proofs.Common.{◌≡◌, take, flat_map}
use Rattle.std.specs.String.{string_bytes}
use Rattle.hall_tool.specs.BadText.{bad_table}
use Rattle.hall_tool.proofs.bad_text.bad_text.Given as goal

-- the text so far has the tables so far
abbrev pub invariant-loop-rows : goal.invariant-loop-rows
invariant-loop-rows l = string_bytes l.text ≡ flat_map bad_table (take l.rows-index l.bad)
