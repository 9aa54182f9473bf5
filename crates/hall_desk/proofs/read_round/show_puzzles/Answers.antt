use Rattle.std.proofs.Common.{◌≡◌, ◌+◌, ◌++◌, ◌∷◌, [], ℕ, List, take, length, sym, ◌∙◌, subst, arith, length-take}
use Rattle.std.proofs.lemmas.List.{take_more}
use Rattle.hall_desk.specs.Shown.{ShowsPuzzle, ShowsPuzzles}
use Rattle.hall_desk.specs.declared.reply.ShownPuzzle.{ShownPuzzle}
use Rattle.hall_policy.specs.declared.record.Entry.{Entry}
use Rattle.hall_store.proofs.Knowing.{kept_then, carried}
use Rattle.hall_desk.proofs.Showing.{shows_more}
use Rattle.hall_desk.proofs.read_round.show_puzzles.Goals as goal

pub loop-place-preserved : goal.loop-place-preserved
loop-place-preserved g c =
    let before = g.S.ReadStore.content c.loop-place.store in
    let old = c.loop-place.invariant in
    let step = c.in_ok-line.ensures in
    let entries = c.args.entries.now in
    let place = c.loop-place.place in
    let entry = c.index-entries-place.result in
    let new = g.S.ReadStore.content c.show_puzzle.new.store in
    let more : take (place + 1) entries ≡ take place entries ++ entry
    ∷ [] = take_more entries place entry c.loop-place-test.true
    ∙ (let here = sym c.index-entries-place.is in λ i. take place entries ++ here i ∷ []) in
    let at : place + 1 ≡ 1 + length (take place entries) = omega (arith, length-take place entries) in
    record {
      kept = kept_then (g.S.ReadStore.content c.args.store.now) before new old.kept step.kept;
      opened = λ h s. step.told.0 h (old.opened (step.kept.honest h) s);
      lines = λ h s.
          subst (λ (list : List Entry). ShowsPuzzles new.world 1 list c.push.new.items.items) (sym more)
          (subst (λ (shown : List ShownPuzzle). ShowsPuzzles new.world 1 (take place entries ++ entry ∷ []) shown)
          (sym c.in_ok-push.ensures)
          (shows_more new.world 1 (take place entries) c.loop-place.shown.items entry c.in_ok-line.line
          (carried (λ w. ShowsPuzzles w 1 (take place entries) c.loop-place.shown.items) before new step.kept old.lines
          h s)
          (subst (λ (n : ℕ). ShowsPuzzle new.world n entry c.in_ok-line.line) at (step.told.1 h s))));
    }
