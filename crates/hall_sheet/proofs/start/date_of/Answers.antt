use Rattle.std.proofs.Common.{◌∙◌, ap, rules, pos, option_map}
use Rattle.std.proofs.lemmas.Int.{to_z-of_z}
use mir.Syntax.{w8, w16}
use mir.Val.{SFits}
use Rattle.jiff_core.specs.Date.{epoch_day}
use Rattle.hall_sheet.proofs.Dates.{converted, date_is, year_is}
use Rattle.hall_sheet.proofs.start.date_of.Goals as goal

pub returns : goal.returns
returns c =
    let year = converted _ c.try_from.result (pos c.args.year) c.in_ok-year.year c.try_from.ensures
    c.in_ok-year.ensures.value in
    let month = converted _ c.try_from-2.result (pos c.args.month) c.in_ok-month.month c.try_from-2.ensures
    c.in_ok-month.ensures.value in
    let day = converted _ c.try_from-3.result (pos c.args.day) c.in_ok-day.day c.try_from-3.ensures
    c.in_ok-day.ensures.value in
    let fits_year : SFits w16 c.in_ok-year.year = search rules in
    let fits_month : SFits w8 c.in_ok-month.month = search rules in
    let fits_day : SFits w8 c.in_ok-day.day = search rules in
    let iff = rw (year, month, day) at (simp to_z-of_z at c.new.ensures.succeeds) in
    let made = rw (year, month, day) at (simp to_z-of_z at c.new.ensures.value) in
    record {
      day = ap (λ d. option_map epoch_day d) c.ok-4.ensures.value ∙ date_is c.args.year c.args.month c.args.day
          c.new.result iff made;
      year = rw c.ok-4.ensures.value (year_is c.args.year c.args.month c.args.day c.new.result made);
    }
