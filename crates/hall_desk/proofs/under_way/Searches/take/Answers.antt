use Rattle.std.proofs.Common.{arith, ◌<◌, length}
use Rattle.hall_desk.proofs.Places.{read_at, taken_free}
use Rattle.hall_desk.proofs.under_way.Searches.take.Goals as goal

pub returns-clause-free : goal.returns-clause-free
returns-clause-free c =
    let xs = c.self.inside.places.items in
    let inside : c.args.place < length xs = omega (
      arith,
      c.if-place-len.false,
      c.len.ensures,
      c.self.inside.places.ok.0,
    ) in
    taken_free xs c.args.place c.take.result c.take.new.self c.self.invariant inside
    (read_at xs c.args.place c.index_mut.result.now c.take.result inside c.index_mut.ensures.value c.take.ensures.value)
    c.take.ensures.after
