use Rattle.hall_http.proofs.Heads.{unfinished_now}
use Rattle.hall_http.proofs.head.cut_from.Goals as goal

pub returns-then-bytes-least : goal.returns-then-bytes-least
returns-then-bytes-least c =
    (unfinished_now c.args.least c.args.bytes.now c.requires c.if-bytes-least.true, c.requires)
