use Rattle.std.proofs.Common.{refl}
use Rattle.hall_http.proofs.connection.Connection.accept.Goals as goal

pub returns : goal.returns
returns c = record { reply = refl; left = rw (c.pass.ensures, c.then_of.ensures) refl }
