use Rattle.std.proofs.Common.{ℕ, ◌<◌, length, get_or, arith}
use Rattle.hall_sudoku.proofs.Tables.{read_is, is_read}
use Rattle.hall_sudoku.proofs.Beside.{beside_from}
use Rattle.hall_sudoku.proofs.pairs.beside_pair.Goals as goal

pub returns-then-has_two : goal.returns-then-has_two
returns-then-has_two c = λ v has.
    let unit : ℕ → ℕ = λ k. get_or c.args.units.now k 0 in
    let candidates = c.args.candidates.now in
    let thrice = c.args.thrice.now in
    let cell = c.args.cell in
    let at : ℕ = get_or c.args.units.now c.args.cell 0 in
    let other : ℕ = get_or c.args.found.now c.loop-other.other-index 0 in
    let in_units : get_or c.args.found.now c.loop-other.other-index 0 < length c.args.units.now = c.requires.found
    c.loop-other.other-index c.loop-other-test.true in
    let cell_small : c.args.cell < length c.args.candidates.now = omega (arith, c.requires.cell, c.requires.cells) in
    let other_small : get_or c.args.found.now c.loop-other.other-index 0 < length c.args.candidates.now = omega
    (arith, in_units, c.requires.cells) in
    let thrice_small : get_or c.args.units.now c.args.cell 0 < length c.args.thrice.now = omega
    (arith, c.requires.units c.args.cell c.requires.cell, c.requires.size) in
    beside_from unit (length c.args.units.now) candidates thrice c.requires.thrice cell other c.and-pair.result
    c.requires.cell in_units c.if-other-cell.true c.if-units-other.true (c.has_two.ensures c.if-has_two.true)
    (λ w h.
    let both = (c.and-pair.ensures w).0 h in
    let own = (c.without-own.ensures w).0 both.0 in (
      is_read candidates cell c.index-candidates-cell.result w cell_small c.index-candidates-cell.is own.0,
      (λ k. own.1 (read_is thrice at c.index-thrice-unit.result w thrice_small c.index-thrice-unit.is k)),
      is_read candidates other c.index-candidates-other.result w other_small c.index-candidates-other.is both.1,
    ))
    v ((c.without.ensures v).0 has).1
