use Rattle.std.proofs.Common.{◌≡◌, take}
use Rattle.std.specs.List.{filter}
use Rattle.hall_policy.specs.World.{same_text}
use Rattle.hall_store.specs.Maps.{places_from}
use Rattle.hall_check.proofs.ask_rounds.entries_of.Given as goal

-- the round's places so far are those of the list, numbered from 1
abbrev pub invariant-loop-place : goal.invariant-loop-place
invariant-loop-place l = filter (λ place. same_text place.0.round l.id) (take l.place-index l.places) ≡ places_from l.id
    1 l.list.items
