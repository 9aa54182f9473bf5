use Rattle.std.proofs.Common.{◌↔◌, sym, subst, inl, inr}
use Rattle.std.specs.Prelude.{IsTrue}
use Rattle.hall_grid.specs.Slither.{HasOtherCount}
use Rattle.hall_slither.specs.Close.{HasWrongLoop, IsLayout}
use Rattle.hall_slither.proofs.IsLayout.{hopeless_loop}
use Rattle.hall_slither.proofs.close.Chains.has_wrong_loop.Goals as goal

wrong_apart : (c : goal.Then-self-2) → IsTrue c.self.inside.apart → HasWrongLoop c.args.self.now
wrong_apart c t = subst HasWrongLoop c.self.view_is (
  c.self.invariant.closed.0 c.if-self.true,
  inl
      (c.self.invariant.apart.0 t),
)

pub returns-then-self-2-clause-wrong : goal.returns-then-self-2-clause-wrong
returns-then-self-2-clause-wrong c = (wrong_apart c, λ _. c.if-self-2.true)

pub returns-then-self-2-clause-hopeless : goal.returns-then-self-2-clause-hopeless
returns-then-self-2-clause-hopeless c = λ t p. hopeless_loop c.args.self.now
    (subst IsLayout c.self.view_is c.self.invariant) p (wrong_apart c t)

other_is : (c : goal.After-has_other_count) → IsTrue c.has_other_count.result
    ↔ HasOtherCount c.self.inside.puzzle.now c.self.inside.lines.items
other_is c = rw c.deref.ensures.value at c.has_other_count.ensures

wrong_other : (c : goal.After-has_other_count) → IsTrue c.has_other_count.result → HasWrongLoop c.args.self.now
wrong_other c t = subst HasWrongLoop c.self.view_is (c.self.invariant.closed.0 c.if-self.true, inr ((other_is c).0 t))

pub returns-else-self-2-clause-wrong : goal.returns-else-self-2-clause-wrong
returns-else-self-2-clause-wrong c = (
  wrong_other c,
  (λ wrong. elim (subst HasWrongLoop (sym c.self.view_is) wrong).1 [
    | inl differ ↦ absurd (let apart = c.self.invariant.apart.1 differ in let not = c.if-self-2.false in cc)
    | inr other ↦ (other_is c).1 other
  ]),
)

pub returns-else-self-2-clause-hopeless : goal.returns-else-self-2-clause-hopeless
returns-else-self-2-clause-hopeless c = λ t p. hopeless_loop c.args.self.now
    (subst IsLayout c.self.view_is c.self.invariant) p (wrong_other c t)
