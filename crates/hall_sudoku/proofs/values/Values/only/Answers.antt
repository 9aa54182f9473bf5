use Rattle.std.proofs.Common.{◌∙◌, sym, subst}
use Rattle.hall_sudoku.specs.Values.{Has, HasTwo}
use Rattle.hall_sudoku.proofs.Bits.{has_of, has_two}
use Rattle.hall_sudoku.proofs.values.Values.only.Goals as goal

pub returns-then-self-value : goal.returns-then-self-value
returns-then-self-value c = record {
  some = (
    c.in_ok-value.ensures.some.0,
    λ w h. (has_of c.in_ok-value.value w c.in_ok-value.ensures.some.1).0
        (subst (λ s. Has s w) (sym c.self.view_is ∙ c.if-self-value.true) h),
  );
  none = tt;
}

pub returns-else-self-value-clause-none : goal.returns-else-self-value-clause-none
returns-else-self-value-clause-none c =
    let has : Has c.self.inside.bits c.in_ok-value.value = subst (λ s. Has s c.in_ok-value.value) (sym c.self.view_is)
    c.in_ok-value.ensures.some.0 in
    subst HasTwo c.self.view_is (has_two c.self.inside.bits c.in_ok-value.value c.self.invariant has
    c.in_ok-value.ensures.some.1 c.if-self-value.false)
