use Rattle.std.specs.String.{string_bytes}
use Rattle.hall_http.proofs.Refusals.{unavailable_bytes}
use Rattle.hall_http.proofs.reply.reply_bytes.Goals as goal

pub returns-in-Unavailable : goal.returns-in-Unavailable
returns-in-Unavailable c =
    unavailable_bytes string_bytes c.args.reply.now c.from_str.result c.in-Unavailable.is c.from_str.ensures.ok
