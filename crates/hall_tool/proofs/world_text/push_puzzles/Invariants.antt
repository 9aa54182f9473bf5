use Rattle.std.proofs.Common.{◌≡◌, ◌++◌, take, flat_map}
use Rattle.std.specs.String.{string_bytes}
use Rattle.hall_tool.specs.WorldText.{undecided_line}
use Rattle.hall_tool.proofs.world_text.push_puzzles.Given as goal

-- the puzzles so far were added to the text
abbrev pub invariant-loop-key : goal.invariant-loop-key
invariant-loop-key l =
    string_bytes l.text ≡ string_bytes l.initial.text ++ flat_map undecided_line (take l.key-index l.keys)
