use Rattle.std.proofs.lemmas.Grind.{common_steps}
use Rattle.std.proofs.Common.{◌≡◌, ◌<◌, ℕ, List, length, get_or, sym, ◌∙◌, subst, arith}
use Rattle.std.proofs.lemmas.List.{get_or_default}
use Rattle.hall_grid.specs.Board.{row, col}
use Rattle.hall_grid.specs.Sudoku.{box}
use Rattle.hall_sudoku.specs.Values.{Has, HasTwo}
use Rattle.hall_sudoku.proofs.Tables.{read_has, in_all_three, none_holds, none_turned}
use Rattle.hall_sudoku.proofs.singles.sole_at.Goals as goal

-- what was read at the unit is in the unit's set
at_unit : (xs : List ℕ) (k unit d v : ℕ) → k ≡ unit → k < length xs → Has (get_or xs k d) v → Has (get_or xs unit 0) v
at_unit xs k unit d v e lt h = subst (λ u. Has (get_or xs u 0) v) e ((read_has xs k d v lt).0 h)

pub returns-clause-none : goal.returns-clause-none
returns-clause-none c =
    let size = c.args.units.now in
    let cell = c.args.cell in
    let shared = c.args.shared.now in
    let left = c.index-candidates-cell.result in
    let small : c.args.cell < length c.args.candidates.now = omega (arith, c.requires.cell, c.requires.room) in
    let same : left ≡ get_or c.args.candidates.now c.args.cell 0 = c.index-candidates-cell.is
    ∙ get_or_default c.args.candidates.now c.args.cell left 0 small in
    none_turned c.least.result
    (λ none.
    let all = in_all_three left (get_or shared.rows c.row.result c.index-shared-row.result)
    (get_or shared.columns c.column.result c.index-shared-column.result)
    (get_or shared.boxes c.box_number.result c.index-shared-box_number.result)
    c.and.result c.and-2.result c.without.result c.and.ensures c.and-2.ensures c.without.ensures none in
    record {
      two = subst HasTwo same (none_holds c.only.result c.in_default.not-Some c.only.ensures.none);
      rows = λ v h. at_unit shared.rows c.row.result (row size cell) c.index-shared-row.result v c.row.ensures.row
          (omega (arith, c.row.ensures.small, c.requires.rows)) (all v (subst (λ x. Has x v) (sym same) h)).0;
      columns = λ v h. at_unit shared.columns c.column.result (col size cell) c.index-shared-column.result v
          c.column.ensures.column (omega (arith, c.column.ensures.small, c.requires.columns))
          (all v (subst (λ x. Has x v) (sym same) h)).1;
      boxes = λ v h. at_unit shared.boxes c.box_number.result (box size cell) c.index-shared-box_number.result v
          c.box_number.ensures.number (omega (arith, c.box_number.ensures.small, c.requires.boxes))
          (all v (subst (λ x. Has x v) (sym same) h)).2;
    })
    c.least.ensures.none

pub returns-in-Some-clause-some : goal.returns-in-Some-clause-some
returns-in-Some-clause-some c = grind (arith, common_steps)

pub returns-clause-some : goal.returns-clause-some
returns-clause-some c = grind (arith, common_steps)
