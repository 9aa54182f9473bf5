use Rattle.std.proofs.Common.{refl}
use Rattle.hall_http.proofs.head.Found.and.Goals as goal

pub returns-in-None : goal.returns-in-None
returns-in-None c headers name found = let empty = rw c.in-None.is at found in (name, rw empty refl)
