use Rattle.std.proofs.Common.{◌≡◌, map, drop}
use Rattle.hall_sheet.specs.Sheet.{names_in}
use Rattle.hall_sheet.proofs.Testers.{names_from}
use Rattle.hall_sheet.proofs.sheet.read_names.Given as goal

abbrev pub invariant-loop-text : goal.invariant-loop-text
invariant-loop-text l =
    names_in (map (λ t. t.now) l.texts) ≡ names_from l.names.items (map (λ t. t.now) (drop l.text-index l.texts))
