-- What a connection sends.
use Rattle.std.specs.Prelude.{ℕ, List, [], codes}
use Rattle.hall_http.specs.Answered.{answer_text}
use Rattle.hall_http.specs.declared.outgoing.Outgoing.{Outgoing}
use Rattle.hall_http.specs.declared.outgoing.Outgoing.TheVariants.{Nothing, Refusal, Reply}

-- its bytes
abbrev pub outgoing_text : Outgoing → List ℕ
outgoing_text Nothing = []
outgoing_text Refusal =
    codes "HTTP/1.1 400 Bad Request\r\nContent-Type: application/json\r\nContent-Length: 13\r\n\r\n{\"form\":\"F7\"}"
outgoing_text (Reply answer) = answer_text answer
