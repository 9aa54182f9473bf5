use Rattle.hall_grid.proofs.Values.{value_at}
use Rattle.hall_grid.proofs.answer.parse_values.Goals as goal

pub returns-in-None : goal.returns-in-None
returns-in-None c = λ vs s.
    let v = value_at c.args.kind c.args.size c.args.bytes.now vs c.loop-byte.byte-index s c.loop-byte-test.true in
    c.in-None.ensures _ v.0 v.1
