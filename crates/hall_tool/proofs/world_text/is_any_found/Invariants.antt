use Rattle.std.proofs.Common.{◌≡◌, false, take}
use Rattle.std.specs.List.{list_any}
use Rattle.hall_tool.specs.WorldText.{is_found}
use Rattle.hall_tool.proofs.world_text.is_any_found.Given as goal

-- none so far was found false
abbrev pub invariant-loop-found : goal.invariant-loop-found
invariant-loop-found l = list_any is_found (take l.found-index l.told) ≡ false
