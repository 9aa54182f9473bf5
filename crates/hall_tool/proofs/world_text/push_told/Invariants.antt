use Rattle.std.proofs.Common.{◌≡◌, ◌++◌, take, flat_map}
use Rattle.std.specs.String.{string_bytes}
use Rattle.hall_tool.specs.WorldText.{breaches_text}
use Rattle.hall_tool.proofs.world_text.push_told.Given as goal

-- the sentences so far were added to the text
abbrev pub invariant-loop-found : goal.invariant-loop-found
invariant-loop-found l =
    string_bytes l.text ≡ string_bytes l.initial.text ++ flat_map breaches_text (take l.found-index l.told)
