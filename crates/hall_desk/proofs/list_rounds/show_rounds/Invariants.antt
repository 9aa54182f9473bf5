use Rattle.std.proofs.Common.{◌≡◌, map, take}
use Rattle.std.specs.List.{filter}
use Rattle.hall_desk.specs.Shown.{sees_round, round_line}
use Rattle.hall_desk.proofs.list_rounds.show_rounds.Given as goal

-- the lines so far show those of the rounds so far that the person sees
abbrev pub invariant-loop-round : goal.invariant-loop-round
invariant-loop-round l = l.lines.items ≡ map round_line (filter (sees_round l.person) (take l.round-index l.rounds))
