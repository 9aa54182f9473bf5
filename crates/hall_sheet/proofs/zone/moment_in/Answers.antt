use Rattle.std.proofs.Common.{◌∙◌, rules}
use Rattle.std.proofs.lemmas.Bool.{false≢true}
use Rattle.std.proofs.lemmas.Int.{to_z-of_z}
use mir.Syntax.{w64}
use mir.Val.{SFits}
use Rattle.jiff.specs.ZoneView.{plain_zone}
use Rattle.hall_sheet.proofs.Zones.{moment_is, no_moment}
use Rattle.hall_sheet.proofs.zone.moment_in.Goals as goal

pub returns-in-Ok : goal.returns-in-Ok
returns-in-Ok c =
    let fits : SFits w64 c.as_second.result = search rules in
    moment_is c.args.text.now (plain_zone c.in-Some.zone) c.args.civil c.in-Ok.instant.nanosecond _ c.in_range.result
    c.requires.whole c.in-Some.ensures c.in-Ok.ensures.value (to_z-of_z w64 _ fits ∙ c.as_second.ensures)
    c.in_range.ensures

pub returns-in-Err : goal.returns-in-Err
returns-in-Err c =
    no_moment c.args.text.now (plain_zone c.in-Some.zone) c.args.civil c.requires.whole c.in-Some.ensures
    (λ there. false≢true (c.in-Err.ensures.succeeds.1 there))
