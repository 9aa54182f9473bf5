use Rattle.hall_sheet.proofs.Clocks.{clocks_show_starts}
use Rattle.hall_sheet.proofs.Seasons.{seasons_are_regular}
use Rattle.hall_sheet.proofs.laws.law_zone.Goals as goal

pub returns-clause-shown : goal.returns-clause-shown
returns-clause-shown c = clocks_show_starts

pub returns-clause-regular : goal.returns-clause-regular
returns-clause-regular c = seasons_are_regular
