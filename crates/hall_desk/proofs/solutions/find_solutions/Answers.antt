use Rattle.std.proofs.Common.{◌≡◌, ◌+◌, ◌++◌, ◌∷◌, [], ℕ, List, take, sym, ◌∙◌, subst}
use Rattle.std.proofs.lemmas.List.{take_more}
use Rattle.hall_policy.specs.declared.record.Entry.{Entry}
use Rattle.hall_store.proofs.Knowing.{kept_then, carried}
use Rattle.hall_desk.specs.Sane.{Sane}
use Rattle.hall_desk.specs.Shown.{AreSolutions}
use Rattle.hall_desk.specs.Plans.{AreInStateOne}
use Rattle.hall_desk.proofs.Showing.{solutions_more}
use Rattle.hall_desk.proofs.solutions.find_solutions.Goals as goal

pub find_solution-requires : goal.find_solution-requires
find_solution-requires g c = λ h s sane.
    carried (λ w. Sane w → AreInStateOne w c.args.entries.now) (g.S.ReadStore.content c.args.store.now)
    (g.S.ReadStore.content c.loop-entry.store) c.loop-entry.invariant.kept c.requires h s sane
    c.entry-item.result (c.loop-entry.entry-index, c.loop-entry-test.true, sym c.entry-item.is)

pub loop-entry-preserved : goal.loop-entry-preserved
loop-entry-preserved g c =
    let before = g.S.ReadStore.content c.loop-entry.store in
    let old = c.loop-entry.invariant in
    let step = c.in_ok-text.ensures in
    let entries = c.args.entries.now in
    let place = c.loop-entry.entry-index in
    let entry = c.entry-item.result in
    let new = g.S.ReadStore.content c.find_solution.new.store in
    let more : take (place + 1) entries ≡ take place entries ++ entry
    ∷ [] = take_more entries place entry c.loop-entry-test.true
    ∙ (let here = sym c.entry-item.is in λ i. take place entries ++ here i ∷ []) in
    record {
      kept = kept_then (g.S.ReadStore.content c.args.store.now) before new old.kept step.kept;
      opened = λ h s. step.told.0 h (old.opened (step.kept.honest h) s);
      texts = λ h s.
          subst (λ (list : List Entry). AreSolutions new.world list c.push.new.items.items) (sym more)
          (subst (λ (texts : List (List ℕ)). AreSolutions new.world (take place entries ++ entry ∷ []) texts)
          (sym {A = List (List ℕ)} c.in_ok-push.ensures)
          (solutions_more new.world (take place entries) c.loop-entry.texts.items entry c.in_ok-text.text
          (carried (λ w. AreSolutions w (take place entries) c.loop-entry.texts.items) before new step.kept old.texts h
          s) (step.told.1 h s)));
    }
