use Rattle.std.proofs.Common.{sym, subst}
use Rattle.hall_desk.specs.Sane.{Sane}
use Rattle.hall_tool.proofs.laws.law_migration.Goals as goal

pub returns : goal.returns
returns g c = λ count migrates clean also sane. subst Sane (sym (migrates.taken clean also).held) sane
