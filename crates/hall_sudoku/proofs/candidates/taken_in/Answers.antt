use Rattle.std.proofs.Common.{◌<◌, ℕ, length, get_or, refl, sym, ◌∙◌, inl, inr, arith}
use Rattle.std.proofs.lemmas.List.{length-set}
use Rattle.hall_sudoku.proofs.Tables.{read_has, none_in, none_from, taken_skip, taken_more, takes_skip, takes_more}
use Rattle.hall_sudoku.proofs.Tables.{apart_skip, apart_more, taken_both}
use Rattle.hall_sudoku.proofs.candidates.taken_in.Goals as goal
use Rattle.hall_sudoku.proofs.candidates.taken_in.Goals.{in-Some+else-contains, in_default}

pub loop-cell-init : goal.loop-cell-init
loop-cell-init c = record {
  size = refl;
  below = λ at v h. absurd (none_in 25 c.none-taken.result c.none-taken.ensures at v h);
  takes = λ cell v lt. absurd (omega (arith, lt));
  apart = λ h lt. omega (arith, lt);
}

pub returns-then-contains-clause-none : goal.returns-then-contains-clause-none
returns-then-contains-clause-none c =
    let unit = get_or c.args.units.now c.loop-cell.cell 0 in
    let small : unit < length c.loop-cell.taken = omega (
      arith,
      c.requires.units c.loop-cell.cell c.loop-cell-test.true,
      c.loop-cell.invariant.size,
    ) in
    let had = (read_has c.loop-cell.taken unit c.index-taken-unit.result c.in-Some.value small).0
    (c.contains.ensures.0 c.if-contains.true) in
    let seen = c.loop-cell.invariant.below unit c.in-Some.value had in
    record {
      cell = c.loop-cell.cell;
      value = c.in-Some.value;
      within = omega (arith, c.loop-cell-test.true, c.requires.exact);
      value_is = sym c.get.ensures ∙ c.in-Some.is;
      other = seen.0;
      before = seen.1;
    }

pub loop-cell-preserved : goal.loop-cell-preserved
loop-cell-preserved c =
    let unit : ℕ → ℕ = λ k. get_or c.args.units.now k 0 in
    let small : get_or c.args.units.now c.loop-cell.cell 0 < length c.loop-cell.taken = omega
    (arith, c.requires.units c.loop-cell.cell c.loop-cell-test.true, c.loop-cell.invariant.size) in
    elim c.match-get.branch [
      | in-Some+else-contains w ↦ rw w.taken-is (record {
        size = length-set _ _ _ ∙ c.loop-cell.invariant.size;
        below = taken_more unit c.args.partial.now.places c.loop-cell.cell w.in-Some.value w.or.result c.loop-cell.taken
            c.loop-cell.invariant.below
            (omega (arith, c.loop-cell-test.true, c.requires.exact))
            small
            (sym c.get.ensures ∙ w.in-Some.is)
            (λ v h. elim ((w.or.ensures v).0 h) [
              | inl old ↦ inl
                  ((read_has c.loop-cell.taken (get_or c.args.units.now c.loop-cell.cell 0)
                  w.index-taken-unit-in-Some.result v small).0 old)
              | inr new ↦ inr ((w.of.ensures v).0 new)
            ]);
        takes = takes_more unit c.args.partial.now.places c.loop-cell.cell w.in-Some.value w.or.result c.loop-cell.taken
            c.loop-cell.invariant.takes small
            (sym c.get.ensures ∙ w.in-Some.is)
            (λ v old. (w.or.ensures v).1 (inl ((read_has c.loop-cell.taken (get_or c.args.units.now c.loop-cell.cell 0)
            w.index-taken-unit-in-Some.result v small).1 old)))
            ((w.or.ensures w.in-Some.value).1 (inr ((w.of.ensures w.in-Some.value).1 refl)));
        apart = apart_more unit c.args.partial.now.places c.loop-cell.cell w.in-Some.value c.loop-cell.taken
            c.loop-cell.invariant.apart c.loop-cell.invariant.takes
            (sym c.get.ensures ∙ w.in-Some.is)
            (λ had.
            let yes = w.contains.ensures.1 ((read_has c.loop-cell.taken (get_or c.args.units.now c.loop-cell.cell 0)
            w.index-taken-unit.result w.in-Some.value small).1 had) in
            let no = w.if-contains.false in cc);
      })
      | in_default w ↦ rw w.taken-is (record {
        size = c.loop-cell.invariant.size;
        below = taken_skip unit
            c.args.partial.now.places c.loop-cell.cell c.loop-cell.taken c.loop-cell.invariant.below;
        takes = takes_skip
            unit c.args.partial.now.places c.loop-cell.cell c.loop-cell.taken c.loop-cell.invariant.takes
            (sym c.get.ensures ∙ none_from c.get.result w.in_default.not-Some);
        apart = apart_skip unit
            c.args.partial.now.places c.loop-cell.cell c.loop-cell.invariant.apart
            (sym c.get.ensures ∙ none_from c.get.result w.in_default.not-Some);
      })
    ]

pub returns-clause-some : goal.returns-clause-some
returns-clause-some c = taken_both (λ k. get_or c.args.units.now k 0) c.args.partial.now.places c.loop-cell.cell
    c.loop-cell.taken (omega (arith, c.loop-cell-test.false, c.requires.exact)) c.loop-cell.invariant.below
    c.loop-cell.invariant.takes

pub returns-clause-apart : goal.returns-clause-apart
returns-clause-apart c = λ h. c.loop-cell.invariant.apart h (omega
    (arith, h.within, c.loop-cell-test.false, c.requires.exact))
