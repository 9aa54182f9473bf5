use Rattle.std.proofs.Common.{◌≡◌, ◌+◌, ◌<◌, ◌↔◌, ◌⊎◌, ℕ, length, get_or, set, sym, subst, ◌∙◌, arith}
use Rattle.std.proofs.lemmas.List.{length-set}
use Rattle.hall_grid.specs.Board.{cells}
use Rattle.hall_sudoku.specs.Values.{Has}
use Rattle.hall_sudoku.specs.Parts.{AreGathered, part_of}
use Rattle.hall_sudoku.proofs.Tables.{or_read}
use Rattle.hall_sudoku.proofs.Confined.{gathered_more}
use Rattle.hall_sudoku.proofs.parts.Parts.gathered.Goals as goal

pub loop-cell-preserved : goal.loop-cell-preserved
loop-cell-preserved g c =
    let self = c.args.self.now in
    let size = self.units.now in
    let first : ℕ → ℕ = λ k. get_or self.first.now k 0 in
    let second : ℕ → ℕ = λ k. get_or self.second.now k 0 in
    let candidates = c.args.candidates.now in
    let parts = c.loop-cell.parts in
    let cell = c.loop-cell.cell in
    let part = c.of-part.result in
    let inside : cell < cells size = omega (arith, c.loop-cell-test.true, c.cells-cell-end.ensures.cells) in
    let within : cell < length candidates = omega (arith, inside, c.requires.room) in
    let small : part < length parts = omega (
      arith,
      c.of-part.ensures.board,
      c.loop-cell.invariant.size,
      c.requires.fits,
    ) in
    let at : part ≡ part_of size first second cell = c.of-part.ensures.part in
    let made = or_read parts candidates part cell c.index-parts-part.result c.index-candidates-cell.result c.or.result
    small within c.index-candidates-cell.is c.or.ensures in
    record {
      size = length-set _ _ _ ∙ c.loop-cell.invariant.size;
      gathered = subst (λ (k : ℕ). AreGathered size first second (cell + 1) candidates (set parts k c.or.result))
          (sym at)
          (gathered_more size first second candidates cell c.or.result parts c.loop-cell.invariant.gathered
          (subst (λ (k : ℕ). k < length parts) at small)
          (subst (λ (k : ℕ). (v : ℕ) → Has c.or.result v ↔ (Has (get_or parts k 0) v
          ⊎ Has (get_or candidates cell 0) v)) at made));
    }
