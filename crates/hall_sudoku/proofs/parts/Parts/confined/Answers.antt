use Rattle.hall_sudoku.proofs.Tables.{at_more}
use Rattle.hall_sudoku.specs.Values.{Has}
use Rattle.hall_grid.specs.Board.{cells, row}
use Rattle.std.proofs.lemmas.List.{length-set}
use Rattle.std.proofs.Common.{get_or, arith, ◌<◌, ℕ, length, subst, ◌∙◌}
use Rattle.hall_sudoku.proofs.Sizes.{square_of}
use Rattle.hall_sudoku.proofs.Confined.{confined_from, without_both}
use Rattle.hall_sudoku.proofs.parts.Parts.confined.Goals as goal

pub returns-clause-confined : goal.returns-clause-confined
returns-clause-confined g c =
    let parts = c.args.self.now in
    confined_from parts.units.now (λ k. get_or parts.first.now k 0) (λ k. get_or parts.second.now k 0)
    c.args.candidates.now (square_of parts.units.now c.rows.ensures.sudoku)
    (λ k lt. parts.first_small k (omega (arith, parts.first_size)))
    (λ k lt. parts.second_small k (omega (arith, parts.second_size)))
    c.gathered-parts.result c.seen_and_shared-shared.result.1 c.rows.result.now c.loop-part.confined
    c.rows.ensures.division c.gathered-parts.ensures.gathered c.seen_and_shared-shared.ensures.shared
    (λ k lt. c.loop-part.invariant.alone k (omega (arith, c.loop-part-test.false, c.cells-part-end.ensures.cells)))

pub loop-part-preserved : goal.loop-part-preserved
loop-part-preserved g c =
    let size = c.args.self.now.units.now in
    let part = c.loop-part.part in
    let parts = c.gathered-parts.result in
    let shared = c.seen_and_shared-shared.result.1 in
    let inside : part < cells size = omega (arith, c.loop-part-test.true, c.cells-part-end.ensures.cells) in
    let small : part < length c.loop-part.confined = omega (
      arith,
      inside,
      c.loop-part.invariant.size,
      c.requires.fits,
    ) in
    let read = without_both parts shared part c.row.result c.index-parts-part.result c.index-shared-row.result
    c.without.result
    (omega (arith, inside, c.gathered-parts.ensures.size, c.requires.fits))
    (omega (arith, c.seen_and_shared-shared.ensures.shared_size, c.row.ensures.small))
    c.without.ensures in
    record {
      size = length-set _ _ _ ∙ c.loop-part.invariant.size;
      alone = at_more (λ k x. (v : ℕ) → Has x v → Has (get_or parts k 0) v × (Has (get_or shared (row size k) 0) v → ⊥))
          part c.without.result c.loop-part.confined c.loop-part.invariant.alone small
          (λ v h. let both = read v h in (
            both.0,
            subst (λ (k : ℕ). Has (get_or shared k 0) v → ⊥) c.row.ensures.row
                both.1,
          ));
    }
