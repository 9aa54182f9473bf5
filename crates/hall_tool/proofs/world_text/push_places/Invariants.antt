use Rattle.std.proofs.Common.{◌≡◌, ◌++◌, take, flat_map}
use Rattle.std.specs.String.{string_bytes}
use Rattle.hall_tool.specs.WorldText.{breach_line}
use Rattle.hall_tool.proofs.world_text.push_places.Given as goal

-- the places so far were added to the text
abbrev pub invariant-loop-spot : goal.invariant-loop-spot
invariant-loop-spot l =
    string_bytes l.text ≡ string_bytes l.initial.text ++ flat_map (breach_line l.sentence) (take l.spot-index l.spots)
