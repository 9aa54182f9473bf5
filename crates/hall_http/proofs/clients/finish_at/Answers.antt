use Rattle.std.proofs.Common.{refl, inr}
use Rattle.hall_http.proofs.clients.finish_at.Goals as goal

pub returns-in-Some : goal.returns-in-Some
returns-in-Some g c =
    inr (c.in-Some.client, c.finish.new.self, c.in-Some.is, refl, c.finish.ensures.kept)
