use Rattle.std.proofs.Common.{◌≡◌, ◌∙◌, sym, ap, arith, ℤ, ◌-ℤ◌}
use Rattle.std.proofs.lemmas.Int.{ints}
use mir.Syntax.{w64}
use mir.Val.{to_z, of_z}
use Rattle.jiff_core.specs.DateTime.{civil_seconds}
use Rattle.hall_sheet.specs.Civil.{civil_seen}
use Rattle.hall_sheet.proofs.Moments.{seconds_are, start_short, start_of_parts, no_offset}
use Rattle.hall_sheet.proofs.start.read_moment.Goals as goal

pub returns-in_default : goal.returns-in_default
returns-in_default c = start_short c.args.text.now c.in_default.ensures.cases

pub returns-in_default-offset_seconds : goal.returns-in_default-offset_seconds
returns-in_default-offset_seconds c =
    no_offset c.args.text.now c.in-Some.civil.now c.in-Some.offset.now (civil_seen c.in_ok-civil.civil)
    c.in-Some.ensures.cases.1 c.in-Some.ensures.cases.2 c.in_ok-civil.ensures.value
    (sym c.in_default-offset_seconds.ensures)

-- a number as a signed one of 64 bits
abbrev kept : ℤ → ℤ
kept z = to_z w64 (of_z w64 z)

pub returns : goal.returns
returns c =
    let civil = c.in_ok-civil.civil in
    let whole : c.to_second.result ≡ civil_seconds civil = c.to_second.ensures.value
    ∙ ap civil_seconds c.to_plain.ensures in
    let offset = c.in-Some-offset_seconds.offset in
    let seconds = kept (kept c.to_second.result -ℤ kept c.from.result) in
    let sum : seconds ≡ civil_seconds civil -ℤ offset = omega (arith, ints, whole, c.from.ensures) in
    start_of_parts c.args.text.now c.in-Some.civil.now c.in-Some.offset.now (civil_seen civil) offset seconds
    c.in_range.result c.in-Some.ensures.cases.1 c.in-Some.ensures.cases.2 c.in_ok-civil.ensures.value
    (sym c.in-Some-offset_seconds.ensures)
    (sum ∙ seconds_are civil offset)
    c.in_range.ensures
