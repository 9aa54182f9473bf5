use Rattle.std.proofs.Common.{◌<◌, ℕ, IsTrue, false, length, get_or, refl, inl, inr, ◌∙◌, arith}
use Rattle.std.proofs.lemmas.List.{length-set}
use Rattle.hall_sudoku.specs.Unit.{unit_of}
use Rattle.hall_sudoku.proofs.Sizes.{unit_small}
use Rattle.hall_sudoku.proofs.Tables.{read_has, none_in, taken_more, takes_more, apart_more}
use Rattle.hall_sudoku.proofs.Repeats.{all_set, as_long, value_at, repeats_before, no_repeats}
use Rattle.hall_sudoku.proofs.judge.repeats.Goals as goal

pub loop-cell-init : goal.loop-cell-init
loop-cell-init c = record {
  size = refl;
  below = λ at v h. absurd (none_in 25 c.none-seen.result c.none-seen.ensures at v h);
  takes = λ cell v lt. absurd (omega (arith, lt));
  apart = λ h lt. omega (arith, lt);
}

pub returns-then-contains : goal.returns-then-contains
returns-then-contains c =
    let f = c.args.filling.now in
    let unit : ℕ → ℕ = unit_of c.args.unit c.args.size in
    let cell = c.loop-cell.cell in
    let contains = rw c.unit_of-at.ensures at c.contains.ensures in
    let small : unit cell < length c.loop-cell.seen =
    omega (
      arith,
      unit_small c.args.unit c.args.size c.requires.board cell
          (omega (arith, c.loop-cell-test.true, c.requires.exact)),
      c.loop-cell.invariant.size,
    ) in
    let had = (read_has c.loop-cell.seen (unit cell) c.index-seen-at.result (get_or f cell 0) small).0
    (contains.0 c.if-contains.true) in
    let before = c.loop-cell.invariant.below (unit cell) (get_or f cell 0) had in (
      (λ _. repeats_before c.args.size unit f cell c.requires.exact c.loop-cell-test.true before.0 before.1),
      (λ _. refl),
    )

pub loop-cell-preserved : goal.loop-cell-preserved
loop-cell-preserved c =
    let f = c.args.filling.now in
    let unit : ℕ → ℕ = unit_of c.args.unit c.args.size in
    let cell = c.loop-cell.cell in
    let seen = c.loop-cell.seen in
    let contains = rw c.unit_of-at.ensures at c.contains.ensures in
    let either = rw c.unit_of-at.ensures at c.or.ensures in
    let small : unit cell < length seen =
    omega (
      arith,
      unit_small c.args.unit c.args.size c.requires.board cell
          (omega (arith, c.loop-cell-test.true, c.requires.exact)),
      c.loop-cell.invariant.size,
    ) in
    let stands = value_at f cell c.loop-cell-test.true in
    rw c.unit_of-at.ensures (record {
      size = length-set _ _ _ ∙ c.loop-cell.invariant.size;
      below = taken_more unit (all_set f) cell (get_or f cell 0) c.or.result seen c.loop-cell.invariant.below
          (omega (arith, c.loop-cell-test.true, as_long f))
          small
          stands
          (λ v h. elim ((either v).0 h) [
            | inl old ↦ inl ((read_has seen (unit cell) c.index-seen-at.result v small).0
                old)
            | inr new ↦ inr ((c.of.ensures v).0 new)
          ]);
      takes = takes_more unit (all_set f) cell (get_or f cell 0) c.or.result seen c.loop-cell.invariant.takes small
          stands
          (λ v old. (either v).1 (inl ((read_has seen (unit cell) c.index-seen-at.result v small).1 old)))
          ((either (get_or f cell 0)).1 (inr ((c.of.ensures (get_or f cell 0)).1 refl)));
      apart = apart_more unit (all_set f) cell (get_or f cell 0) seen c.loop-cell.invariant.apart
          c.loop-cell.invariant.takes
          stands
          (λ had.
          let yes = contains.1 ((read_has seen (unit cell) c.index-seen-at.result (get_or f cell 0) small).1 had) in
          let no = c.if-contains.false in cc);
    })

pub returns : goal.returns
returns c = (
  (λ yes. let no : IsTrue false = yes in cc),
  (λ r. absurd (no_repeats c.args.size (unit_of c.args.unit c.args.size) c.args.filling.now c.requires.exact
      (λ h. c.loop-cell.invariant.apart h (omega (arith, h.within, as_long c.args.filling.now, c.loop-cell-test.false)))
      r)),
)
