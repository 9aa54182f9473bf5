use Rattle.std.proofs.Common.{◌≡◌, ◌+◌, ◌++◌, ◌∷◌, [], take, sym, ◌∙◌, ap, subst, arith}
use Rattle.std.proofs.lemmas.List.{take_more}
use Rattle.hall_check.specs.Asking.{asked_world}
use Rattle.hall_check.specs.Finds.{Finds, IsBreachTold}
use Rattle.hall_check.specs.declared.sentence.Sentence.{Sentence}
use Rattle.hall_check.proofs.Asking.{finds_more}
use Rattle.hall_check.proofs.ask_rows.ask_each.Goals as goal

pub loop-row-preserved : goal.loop-row-preserved
loop-row-preserved g c =
    let rows = c.args.rows.now in
    let i = c.loop-row.row-index in
    let row = c.row-item.result in
    let says = g.T.Asked.says (asked_world c.args.asking.now) in
    let spot_of = g.T.Spotted.spot_of in
    let more : take (i + 1) rows ≡ take i rows ++ row ∷ [] =
    take_more rows i row c.loop-row-test.true ∙ ap (λ x. take i rows ++ x ∷ []) (sym c.row-item.is) in
    record {
      sentence = c.in_ok-tell.ensures.sentence ∙ c.loop-row.invariant.sentence;
      few = omega (arith, c.in_ok-tell.ensures.few, c.loop-row.invariant.few);
      finds = λ able.
          let told =
          subst (λ (s : Sentence). IsBreachTold (says s row) (spot_of row) c.loop-row.found c.tell.new.found)
          c.loop-row.invariant.sentence (c.in_ok-tell.ensures.told able) in
          subst (λ xs. Finds (says c.args.sentence) spot_of xs c.tell.new.found) (sym more)
          (finds_more (says c.args.sentence) spot_of (take i rows) row c.loop-row.found c.tell.new.found told
          (c.loop-row.invariant.finds able));
    }
