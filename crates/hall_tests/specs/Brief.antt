-- Sockets that hand on what others say.
use Rattle.std.specs.Prelude.{◌≡◌, List, length}
use Rattle.hall_http.specs.Coming.{Heard, Nexts, Said, turns_in}

-- as many turns were given as by the others, and as many things heard
pub record AgreeInTurns {P : Type 0} (nexts : Nexts P) (heard : List Heard) (inner : Said P) : Type 0 where
  pub turns : turns_in nexts ≡ turns_in inner.nexts
  pub many : length heard ≡ length inner.heard
