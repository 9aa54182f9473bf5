use Rattle.std.proofs.lemmas.Grind.{common_steps}
use Rattle.std.proofs.Common.{◌<◌, ℕ, length, get_or, arith, below_more}
use Rattle.hall_sudoku.specs.Values.{Has}
use Rattle.hall_sudoku.proofs.Tables.{is_read}
use Rattle.hall_sudoku.proofs.narrow.all_filled.Goals as goal

pub loop-cell-preserved : goal.loop-cell-preserved
loop-cell-preserved c =
    below_more (λ k. ((v : ℕ) → Has (get_or c.args.candidates.now k 0) v → ⊥) → ⊥) c.loop-cell.cell
    c.loop-cell.invariant
    (λ none.
    let small : c.loop-cell.cell < length c.args.candidates.now = omega
    (arith, c.loop-cell-test.true, c.cells-cell-end.ensures.cells, c.requires.room) in
    let yes = c.is_empty.ensures.1 (λ v h. none v (is_read c.args.candidates.now c.loop-cell.cell
    c.index-candidates-cell.result v small c.index-candidates-cell.is h)) in
    cc)

pub returns-clause-filled : goal.returns-clause-filled
returns-clause-filled c = grind (arith, common_steps)
