use Rattle.std.proofs.Common.{◌<◌, length, arith}
use Rattle.hall_sudoku.proofs.Tables.{lacks_more, without_seen, none_at}
use Rattle.hall_sudoku.proofs.singles.lacks_one.Goals as goal

pub loop-unit-preserved : goal.loop-unit-preserved
loop-unit-preserved c =
    let small : c.loop-unit.unit < length c.args.seen.now = omega
    (arith, c.loop-unit-test.true, c.requires.side, c.requires.units) in
    lacks_more c.loop-unit.unit c.args.side c.below-all.result c.without.result c.args.seen.now c.loop-unit.invariant
    c.below-all.ensures
    (without_seen c.args.seen.now c.loop-unit.unit c.index-seen-unit.result c.below-all.result c.without.result small
    c.index-seen-unit.is c.without.ensures)
    (let none = c.least.ensures.none in (rw (none_at c.least.result c.is_some.result c.is_some.ensures
    c.if-is_some.false) at none))

pub returns-clause-nothing : goal.returns-clause-nothing
returns-clause-nothing c = λ _ at v ha hv. c.loop-unit.invariant at v (omega (arith, c.loop-unit-test.false)) hv
