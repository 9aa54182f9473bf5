use Rattle.std.proofs.Common.{◌≡◌, ◌<◌, ℕ, length, get_or, ◌∙◌, subst, arith}
use Rattle.std.proofs.lemmas.List.{length-set}
use Rattle.hall_sudoku.specs.Values.{Has}
use Rattle.hall_sudoku.specs.Parts.{IsElsewhere}
use Rattle.hall_grid.specs.Board.{cells}
use Rattle.hall_sudoku.proofs.Sizes.{square_of}
use Rattle.hall_sudoku.proofs.Tables.{at_more}
use Rattle.hall_sudoku.proofs.Confined.{elsewhere_from, without_both}
use Rattle.hall_sudoku.proofs.parts.Parts.elsewhere.Goals as goal

pub loop-cell-preserved : goal.loop-cell-preserved
loop-cell-preserved g c =
    let parts = c.args.self.now in
    let size = parts.units.now in
    let cell = c.loop-cell.cell in
    let first : ℕ → ℕ = λ k. get_or parts.first.now k 0 in
    let second : ℕ → ℕ = λ k. get_or parts.second.now k 0 in
    let square = square_of size c.columns.ensures.sudoku in
    let inside : cell < cells size = omega (arith, c.loop-cell-test.true, c.cells-cell-end.ensures.cells) in
    let small : cell < length c.loop-cell.out = omega (arith, inside, c.loop-cell.invariant.size, c.requires.fits) in
    let claimed = c.seen_and_shared-claimed.result.0 in
    let confined = c.confined-confined.result in
    let other_is : c.from-other.result ≡ second cell = c.from-other.ensures in
    let read = without_both claimed confined c.from-other.result c.of.result c.index-claimed-other.result
    c.index-confined-of.result c.without.result
    (omega (
      arith,
      c.seen_and_shared-claimed.ensures.seen_size,
      other_is,
      parts.second_small cell
          (omega (arith, inside, parts.second_size)),
      square.few,
    ))
    (omega (arith, c.confined-confined.ensures.size, c.of.ensures.board, c.requires.fits))
    c.without.ensures in
    record {
      size = length-set _ _ _ ∙ c.loop-cell.invariant.size;
      elsewhere = at_more (λ k x. (v : ℕ) → Has x v → IsElsewhere size first second c.args.candidates.now k v) cell
          c.without.result c.loop-cell.out c.loop-cell.invariant.elsewhere small
          (λ v h.
          let both = read v h in
          elsewhere_from size first second c.args.candidates.now square
          (λ k lt. parts.first_small k (omega (arith, parts.first_size)))
          (λ k lt. parts.second_small k (omega (arith, parts.second_size)))
          confined claimed c.columns.result.now cell v c.columns.ensures.division c.confined-confined.ensures.confined
          c.seen_and_shared-claimed.ensures.seen inside
          (subst (λ k. Has (get_or claimed k 0) v) other_is both.0)
          (subst (λ k. Has (get_or confined k 0) v → ⊥) c.of.ensures.part both.1));
    }
