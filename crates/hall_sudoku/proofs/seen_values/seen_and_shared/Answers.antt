use Rattle.std.proofs.Common.{ℕ, ◌<◌, length, get_or, ◌∙◌, refl, arith}
use Rattle.std.proofs.lemmas.List.{length-set}
use Rattle.hall_sudoku.proofs.Tables.{none_in, or_read, and_read, or_and_read, seen_more, shared_more}
use Rattle.hall_sudoku.proofs.seen_values.seen_and_shared.Goals as goal

pub loop-cell-init : goal.loop-cell-init
loop-cell-init c = record {
  seen_size = refl;
  shared_size = refl;
  are_seen = record {
    all = λ a v lt h. absurd (omega (arith, lt));
    alone = λ at v h. absurd
        (none_in 25 c.none-seen.result c.none-seen.ensures at v h);
  };
  are_shared = record {
    all = λ a b v ab lt. absurd (omega (arith, lt));
    alone = λ at v h. absurd
        (none_in 25 c.none-shared.result c.none-shared.ensures at v h);
  };
}

pub loop-cell-preserved : goal.loop-cell-preserved
loop-cell-preserved c =
    let unit : ℕ → ℕ = λ k. get_or c.args.units.now k 0 in
    let n = c.loop-cell.cell in
    let in_units = c.requires.units c.loop-cell.cell c.loop-cell-test.true in
    let seen_small : get_or c.args.units.now c.loop-cell.cell 0 < length c.loop-cell.seen = omega
    (arith, in_units, c.loop-cell.invariant.seen_size) in
    let shared_small : get_or c.args.units.now c.loop-cell.cell 0 < length c.loop-cell.shared = omega
    (arith, in_units, c.loop-cell.invariant.shared_size) in
    let cell_small : c.loop-cell.cell < length c.args.candidates.now = omega
    (arith, c.loop-cell-test.true, c.requires.cells) in
    record {
      seen_size = length-set _ _ _ ∙ c.loop-cell.invariant.seen_size;
      shared_size = length-set _ _ _ ∙ c.loop-cell.invariant.shared_size;
      are_seen = seen_more unit n c.or-in-loop-cell.result c.args.candidates.now c.loop-cell.seen
          c.loop-cell.invariant.are_seen seen_small
          (or_read c.loop-cell.seen c.args.candidates.now (get_or c.args.units.now c.loop-cell.cell 0) c.loop-cell.cell
          c.index-seen-unit-in-loop-cell.result c.index-candidates-cell.result c.or-in-loop-cell.result seen_small
          cell_small c.index-candidates-cell.is c.or-in-loop-cell.ensures);
      are_shared = shared_more unit n c.or.result c.args.candidates.now c.loop-cell.seen c.loop-cell.shared
          c.loop-cell.invariant.are_shared c.loop-cell.invariant.are_seen shared_small
          (or_and_read c.loop-cell.shared (get_or c.args.units.now c.loop-cell.cell 0) c.index-shared-unit.result
          c.and.result c.or.result shared_small c.or.ensures
          (and_read c.loop-cell.seen c.args.candidates.now (get_or c.args.units.now c.loop-cell.cell 0) c.loop-cell.cell
          c.index-seen-unit.result c.index-candidates-cell.result c.and.result seen_small cell_small
          c.index-candidates-cell.is c.and.ensures));
    }
