use Rattle.hall_desk.proofs.Authored.{rows_are_authored}
use Rattle.hall_desk.proofs.laws.law_authorship.Goals as goal

pub returns : goal.returns
returns c = rows_are_authored
