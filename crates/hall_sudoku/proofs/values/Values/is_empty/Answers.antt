use Rattle.std.proofs.Common.{◌∙◌, sym, subst}
use Rattle.std.proofs.lemmas.Bool.{eqb-true, eq-eqb}
use Rattle.hall_sudoku.specs.Values.{Has}
use Rattle.hall_sudoku.proofs.Bits.{zero_has, has_none}
use Rattle.hall_sudoku.proofs.values.Values.is_empty.Goals as goal

pub returns : goal.returns
returns c = (
  (λ yes. λ v h. zero_has v (subst (λ s. Has s v) (sym c.self.view_is ∙ eqb-true _ _ yes) h)),
  (λ none. eq-eqb _ _ (has_none _ (λ v h. none v (subst (λ s. Has s v) c.self.view_is h)))),
)
