use Rattle.std.proofs.Common.{◌≡◌, [], true, false, sym, ◌∙◌, subst}
use Rattle.hall_check.specs.Finds.{EveryRow}
use Rattle.hall_check.specs.declared.sentence.Breaches.{Breaches}
use Rattle.hall_check.proofs.sanity.Checked.is_sane.Goals as goal

pub returns-then-are_true : goal.returns-then-are_true
returns-then-are_true c = (
  (λ t. (
    subst (λ rows. EveryRow (λ (found : Breaches). found.first.items ≡ []) rows) c.as_slice.ensures.value
        (c.are_true.ensures.0 c.if-are_true.true),
    c.are_states_true.ensures.0 t,
  )),
  (λ nothing. c.are_states_true.ensures.1 nothing.1),
)

pub returns-else-are_true : goal.returns-else-are_true
returns-else-are_true c = (
  (λ t. let no : true ≡ false = sym t ∙ c.if-are_true.false in absurd (cc)),
  (λ nothing. c.are_true.ensures.1 (subst (λ rows. EveryRow (λ (found : Breaches). found.first.items ≡ []) rows)
      (sym c.as_slice.ensures.value) nothing.0)),
)
