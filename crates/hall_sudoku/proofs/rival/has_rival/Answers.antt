use Rattle.std.proofs.Common.{◌≡◌, ℕ, Option, Some, None, true, false, get_or, arith, refl, sym, ◌∙◌, inl, inr}
use Rattle.std.proofs.lemmas.Bool.{cases_eq, eqb-true, eq-eqb}
use Rattle.std.specs.Option.{option_eq}
use Rattle.std.proofs.Math.Dec.{eqb}
use Rattle.hall_sudoku.proofs.Sizes.{square_of}
use Rattle.hall_sudoku.proofs.Rivals.{rival_hopeless}
use Rattle.hall_sudoku.proofs.rival.has_rival.Goals as goal
use Rattle.hall_sudoku.proofs.rival.has_rival.Goals.{else-other-cell-via-then-other-cell+then-eq+else-share}
use Rattle.hall_sudoku.proofs.rival.has_rival.Goals.{else-other-cell-via-then-other-cell+else-eq}
use Rattle.hall_sudoku.proofs.rival.has_rival.Goals.{else-other-cell-via-else-other-cell}

apart : (a : Option ℕ) (v : ℕ) → option_eq eqb a (Some v) ≡ false → a ≡ Some v → ⊥
apart None v off e = cc
apart (Some w) v off e =
    let is : w ≡ v = cc in
    let on : eqb w v ≡ true = rw is (eq-eqb v v refl) in cc

matched : (a : Option ℕ) (v : ℕ) → option_eq eqb a (Some v) ≡ true → a ≡ Some v
matched None v on = absurd cc
matched (Some w) v on = let is : w ≡ v = eqb-true w v on in cc

pub returns-then-share-clause-hopeless : goal.returns-then-share-clause-hopeless
returns-then-share-clause-hopeless c = λ _.
    rival_hopeless c.args.units.now c.args.partial.now.places c.args.cell
    (square_of c.args.units.now c.share.ensures.sudoku) c.requires.exact c.requires.cell (record {
      other = c.loop-other.other;
      value = c.in-Some.value;
      within = omega (arith, c.loop-other-test.true, c.len-other-end.ensures);
      differs = c.if-other-cell.true;
      share = c.share.ensures.share.0 c.if-share.true;
      cell_has = sym c.get.ensures ∙ c.in-Some.is;
      other_has = sym c.get-then-other-cell.ensures ∙ matched c.get-then-other-cell.result c.in-Some.value
          (sym c.eq.ensures ∙ c.if-eq.true);
    })

pub loop-other-preserved : goal.loop-other-preserved
loop-other-preserved c = record {
  later = λ h.
      let so_far = c.loop-other.invariant.later h in
      elim (cases_eq c.loop-other.other h.other) [
        | inr ne ↦ omega arith
        | inl e ↦ absurd (elim c.else-other-cell.branch [
          | else-other-cell-via-then-other-cell+then-eq+else-share w ↦ (
              let shares = w.share.ensures.share.1 (rw e h.share) in
              let no = w.if-share.false in cc)
          | else-other-cell-via-then-other-cell+else-eq w ↦ (
              let there : get_or c.args.partial.now.places c.args.cell None ≡ Some c.in-Some.value = sym c.get.ensures
              ∙ c.in-Some.is in
              let same : Some c.in-Some.value ≡ Some h.value = sym there ∙ h.cell_has in
              let has : w.get-then-other-cell.result ≡ Some h.value = w.get-then-other-cell.ensures
              ∙ rw e h.other_has in
              let no : option_eq eqb w.get-then-other-cell.result (Some c.in-Some.value) ≡ false = sym w.eq.ensures
              ∙ w.if-eq.false in
              apart w.get-then-other-cell.result c.in-Some.value no (has ∙ sym same))
          | else-other-cell-via-else-other-cell w ↦ h.differs (sym e ∙ w.if-other-cell.false)
        ])
      ];
}

pub returns-clause-rival : goal.returns-clause-rival
returns-clause-rival c = (
  λ no. absurd cc,
  λ h. absurd (omega (
    arith,
    c.loop-other.invariant.later h,
    h.within,
    c.loop-other-test.false,
    c.loop-other.auto.other-end,
  )),
)
