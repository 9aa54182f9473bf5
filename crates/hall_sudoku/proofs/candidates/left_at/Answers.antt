use Rattle.std.proofs.Common.{◌≡◌, ◌↔◌, ◌<◌, get_or, None, sym, ◌∙◌, subst, arith}
use Rattle.hall_sudoku.specs.Values.{Has}
use Rattle.hall_sudoku.proofs.Sizes.{square_of}
use Rattle.hall_sudoku.proofs.Tables.{without_read}
use Rattle.hall_sudoku.proofs.Deductions.{left_open, left_set}
use Rattle.hall_sudoku.proofs.candidates.left_at.Goals as goal

pub returns-in-None : goal.returns-in-None
returns-in-None c =
    let size = c.args.units.now in
    let taken = c.args.taken.now in
    let unset : get_or c.args.partial.now.places c.args.cell None ≡ None = sym c.get.ensures ∙ c.in-None.is in
    left_open size c.args.partial.now.places taken c.args.cell (square_of size c.side-side.ensures.sudoku)
    c.requires.partial c.requires.taken c.requires.cell unset
    c.below.result c.without.result c.without-in-None.result c.without-in-None-2.result
    (λ v. subst (λ n. Has c.below.result v ↔ (v < n)) c.side-side.ensures.side (c.below.ensures v))
    (without_read taken.rows c.row.result _ c.index-taken-row.result c.below.result c.without.result c.row.ensures.row
    (omega (arith, c.row.ensures.small, c.requires.rows)) c.without.ensures)
    (without_read taken.columns c.column.result _ c.index-taken-column.result c.without.result c.without-in-None.result
    c.column.ensures.column (omega (arith, c.column.ensures.small, c.requires.columns)) c.without-in-None.ensures)
    (without_read taken.boxes c.box_number.result _ c.index-taken-box_number.result c.without-in-None.result
    c.without-in-None-2.result c.box_number.ensures.number
    (omega (arith, c.box_number.ensures.small, c.requires.boxes)) c.without-in-None-2.ensures)

pub returns-in-Some : goal.returns-in-Some
returns-in-Some c = left_set c.args.units.now c.args.partial.now.places c.args.cell c.in-Some.value c.of.result
    c.requires.partial (sym c.get.ensures ∙ c.in-Some.is) c.of.ensures
