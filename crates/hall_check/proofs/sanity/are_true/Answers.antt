use Rattle.std.proofs.Common.{◌≡◌, [], true, false, sym, ◌∙◌, refl}
use Rattle.hall_check.specs.declared.sentence.Breaches.{Breaches}
use Rattle.hall_check.proofs.EachRow.{each_step, each_done}
use Rattle.hall_check.proofs.sanity.are_true.Goals as goal

pub loop-found-preserved : goal.loop-found-preserved
loop-found-preserved c =
    each_step (λ (found : Breaches). found.first.items ≡ []) c.args.told.now c.loop-found.found-index
    c.found-item.result c.loop-found.invariant c.found-item.is (c.is_unbroken.ensures.0 c.if-not-is_unbroken.false)

pub returns-then-not-is_unbroken : goal.returns-then-not-is_unbroken
returns-then-not-is_unbroken c = (
  (λ t. let no : false ≡ true = t in absurd (cc)),
  (λ each.
      let none = each c.found-item.result (c.loop-found.found-index, c.loop-found-test.true, sym c.found-item.is) in
      let no : true ≡ false = sym (c.is_unbroken.ensures.1 none) ∙ c.if-not-is_unbroken.true in
      absurd (cc)),
)

pub returns : goal.returns
returns c = (
  (λ _. each_done (λ (found : Breaches). found.first.items ≡ []) c.args.told.now c.loop-found.found-index
      c.loop-found.invariant c.loop-found-test.false),
  (λ _. refl),
)
