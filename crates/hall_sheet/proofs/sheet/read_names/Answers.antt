use Rattle.std.proofs.Common.{rules}
use Rattle.hall_sheet.proofs.Testers.{no_name}
use Rattle.hall_sheet.proofs.sheet.read_names.Goals as goal

pub returns-in_err-name : goal.returns-in_err-name
returns-in_err-name c =
    let failed =
    no_name (λ t. t.now) c.loop-text.names.items c.args.texts.now c.loop-text.text-index _ c.in_err-name.field-0.0 _
    c.loop-text-test.true c.loop-text.invariant c.in_err-name.ensures in
    search rules
