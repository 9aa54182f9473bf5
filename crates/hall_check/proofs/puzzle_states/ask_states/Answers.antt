use Rattle.std.proofs.Common.{◌≡◌, ◌+◌, ◌++◌, ◌∷◌, [], take, sym, ◌∙◌, ap, subst, arith}
use Rattle.std.proofs.lemmas.List.{take_more}
use Rattle.hall_check.specs.States.{AreStatesTold}
use Rattle.hall_check.proofs.StateTelling.{told_one}
use Rattle.hall_check.proofs.puzzle_states.ask_states.Goals as goal

pub loop-row-preserved : goal.loop-row-preserved
loop-row-preserved c =
    let rows = c.args.rows.now in
    let i = c.loop-row.row-index in
    let row = c.row-item.result in
    let more : take (i + 1) rows ≡ take i rows ++ row ∷ [] = take_more rows i row c.loop-row-test.true
    ∙ ap (λ x. take i rows ++ x ∷ []) (sym c.row-item.is) in
    record {
      few = omega (arith, c.in_ok-tell_state.ensures.few, c.loop-row.invariant.few);
      told = subst (λ xs. AreStatesTold c.args.budget xs c.tell_state.new.states) (sym more)
          (told_one c.args.budget (take i rows) row c.loop-row.states c.tell_state.new.states
          c.in_ok-tell_state.ensures.sentence c.in_ok-tell_state.ensures.told c.loop-row.invariant.told);
    }
