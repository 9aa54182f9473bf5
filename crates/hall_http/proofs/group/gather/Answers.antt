use Rattle.std.proofs.Common.{◌∙◌, refl, sym}
use Rattle.hall_http.proofs.Rested.{rests_never}
use Rattle.hall_http.proofs.group.gather.Goals as goal

pub returns-in_default-clause-rests : goal.returns-in_default-clause-rests
returns-in_default-clause-rests g c = rests_never g.H.Responder.rests _
